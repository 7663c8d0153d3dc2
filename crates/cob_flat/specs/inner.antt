pub mod Emitted
pub mod Operands
pub mod Referents
pub mod Written
