pub mod Acting
pub mod Asking
pub mod Emission
pub mod Each
pub mod Numbering
pub mod Rows
mod Sizes
pub mod Staying
mod Fields
mod Ordering
mod Whole
