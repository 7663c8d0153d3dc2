pub mod Frames
pub mod Units
pub mod Entries
