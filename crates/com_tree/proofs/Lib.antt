pub mod Branches
pub mod Building
mod Choices
mod LevelNames
pub mod Levels
pub mod OverLeaf
mod Searching
pub mod Shaped
mod TreeFacts
pub mod Underneath
pub mod Walks
