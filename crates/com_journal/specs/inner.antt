pub mod Choices
pub mod Outcomes
pub mod Reading
pub mod Writing
pub mod Loops
