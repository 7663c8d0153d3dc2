mod SameFields
mod WorkedSends
mod WorkedSwitches
pub mod Finding
pub mod Changing
pub mod Serving
pub mod Keeping
pub mod Lawful
pub mod Refused
