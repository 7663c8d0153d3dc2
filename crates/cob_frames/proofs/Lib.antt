pub mod EntrySteps
pub mod FrameSteps
pub mod UnitSteps
pub mod WorkedFrames
