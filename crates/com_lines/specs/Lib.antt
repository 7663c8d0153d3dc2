pub mod Bytes
pub mod Faults
pub mod Frames
pub mod inner
pub mod Framers
