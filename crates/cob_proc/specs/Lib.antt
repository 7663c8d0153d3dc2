pub mod Forms
pub mod Trees
pub mod Spelled
pub mod Faults
pub mod Limits
pub mod PartReaders
pub mod StatementReaders
pub mod DivisionReaders
