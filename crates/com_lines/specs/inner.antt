pub mod Reads
pub mod Readings
