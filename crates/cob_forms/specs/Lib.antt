pub mod Sorts
pub mod Forms
pub mod Faults
pub mod Written
pub mod Readers
pub mod Spelling
pub mod Answers
