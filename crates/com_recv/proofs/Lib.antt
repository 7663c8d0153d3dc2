mod Awaited
pub mod Changing
pub mod Choosing
mod Designating
pub mod FirstOnLeaf
pub mod Kept
pub mod Handing
pub mod Places
pub mod Queued
mod Receiving
mod Taking
pub mod Members
