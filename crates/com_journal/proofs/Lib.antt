mod Options
mod Numbers
mod Fields
mod Segments
mod Spelled
mod FieldLaws
mod WordLaws
mod CallLaws
mod ReplyLaws
pub mod LineLaws
mod Plain
pub mod LineLengths
pub mod JournalLaws
mod WorkedLines
pub mod FirstLines
mod Exact
mod ScriptLaws
mod Found
mod Searched
mod Countable
mod Histories
