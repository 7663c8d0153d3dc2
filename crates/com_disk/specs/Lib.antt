pub mod Disks
pub mod Logs
pub mod Refusals
pub mod Memory
pub mod inner
