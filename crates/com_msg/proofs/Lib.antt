mod Pairs
mod Rests
