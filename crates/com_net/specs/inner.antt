pub mod Inside
pub mod Seen
pub mod Checks
pub mod Sound
pub mod Lists
