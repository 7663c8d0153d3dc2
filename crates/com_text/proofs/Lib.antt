pub mod Fields
pub mod Texts
pub mod Numerals
pub mod CountedFields
