pub mod Shut
pub mod MemoryLaws
pub mod Still
pub mod Reads
