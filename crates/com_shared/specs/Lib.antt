pub mod Parties
pub mod Passes
pub mod Waits
pub mod inner
