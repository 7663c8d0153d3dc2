pub mod Programs
pub mod Written
mod WorkedSources
pub mod WorkedPrograms
pub mod Runs
pub mod FirstLines
pub mod LiteralSizes
pub mod BadBytes
pub mod Steps
pub mod Refusals
pub mod Longest
pub mod LongestLiteral
pub mod LongestPicture
pub mod LongestFront
pub mod SpelledTokens
pub mod SpelledPlaces
pub mod SpelledOrder
mod WorkedComments
mod WorkedLiterals
pub mod TokenSizes
