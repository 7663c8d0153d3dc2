pub mod Begun
pub mod Limits
pub mod Places
pub mod Portion
pub mod Rendering
pub mod Sharing
pub mod Stamp
