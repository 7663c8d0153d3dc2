pub mod ReadParts
pub mod PictureLaws
pub mod EntryLaws
pub mod NumeralLaws
pub mod ItemLaws
pub mod HeaderLaws
pub mod Firsts
pub mod Fronts
pub mod CharacterLaws
pub mod WholeLaws
pub mod LevelLaws
pub mod RunLaws
mod Sources
mod WorkedSources
mod WorkedFaults
mod WorkedDivisions
pub mod OneDivision
pub mod OccurrenceLaws
pub mod ColumnSteps
pub mod SeenTexts
pub mod NamePasses
pub mod NoFaults
pub mod SomeDivision
pub mod ClausePasses
pub mod Joined
pub mod CountedLaws
mod WorkedLevels
mod WorkedHeaders
mod WorkedLimits
mod ReadSteps
mod Sentences
mod OutputClauses
mod RightItems
pub mod Tests
pub mod LiteralTexts
pub mod EntryShapes
pub mod DivisionShapes
pub mod RightRecords
pub mod RightPlaces
pub mod OpeningAreas
pub mod RightRuns
pub mod TableNumbers
