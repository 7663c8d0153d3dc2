pub mod Characters
pub mod Lines
pub mod Literals
pub mod Fronts
pub mod Lexing
pub mod Answers
pub mod Spelled
pub mod Order
