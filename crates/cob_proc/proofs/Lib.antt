pub mod Families
pub mod Fuel
pub mod FormsAgree
pub mod DivisionAgrees
pub mod PartsSpelled
pub mod StatementsSpelled
pub mod PartsOnly
pub mod StatementsOnly
pub mod DivisionSpelled
pub mod DivisionOnly
pub mod Cuts
pub mod CutFault
pub mod LimitPlaces
pub mod Pass
pub mod WorkedSources
pub mod WorkedFaults
mod WorkedComments
mod WorkedLimits
mod WorkedWords
