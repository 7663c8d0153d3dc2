pub mod Moments
mod Gates
mod Entries
mod Unique
mod Recovered
mod Steps
