pub mod Outgoing
pub mod Keys
pub mod Found
pub mod Sending
pub mod Switching
pub mod Kept
pub mod Laws
