pub mod Text
pub mod Name
pub mod Digits
pub mod Counted
