pub mod Incoming
pub mod Areas
pub mod Receiving
pub mod Giving
pub mod inner
