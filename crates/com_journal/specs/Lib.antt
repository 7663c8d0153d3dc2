pub mod Words
pub mod Lines
pub mod Journals
pub mod Scripts
pub mod inner
pub mod Faults
pub mod Versions
