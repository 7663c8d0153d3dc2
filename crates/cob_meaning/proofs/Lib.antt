pub mod Bounds
pub mod CheckedParts
pub mod CheckedText
pub mod Divided
pub mod FirstFaults
mod Fronts
mod Lasting
pub mod Members
mod NeverIdle
pub mod OneProgram
mod Placed
pub mod RangeFaults
pub mod Readable
mod Replies
pub mod SmallPrograms
mod SoundAreas
mod SoundLayouts
mod SoundTokens
mod Steady
mod Stored
pub mod Trees
mod WellFormed
mod WellFormedRuns
mod WorkedFaults
mod WorkedFollows
mod WorkedForms
mod WorkedLimits
mod WorkedMoves
mod WorkedNames
mod WorkedOneName
mod WorkedPasses
mod WorkedPrograms
mod WorkedRuns
mod WorkedSound
mod WorkedSources
mod WorkedStops
mod WorkedTrees
mod WorkedVerbs
