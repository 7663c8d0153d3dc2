mod ApartNames
mod Arrays
mod DescriptionFacts
mod DescriptionLaws
mod DescriptionTexts
mod FaultlessNets
mod FaultOrder
mod FileNames
mod Files
mod NameLists
mod NameSets
pub mod OnLiterals
mod PartsLists
mod PathTexts
mod Outlines
mod Refusing
mod SoundParts
mod SoundTables
mod Tables
mod Walks
pub mod NumberedNames
