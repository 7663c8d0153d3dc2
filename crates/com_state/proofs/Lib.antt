mod Accounts
mod Arriving
mod Aside
mod Branches
mod Changes
mod Changing
mod Chosen
mod Counts
mod Firsts
pub mod Frames
mod Giving
mod Going
mod Kept
mod Onces
mod Others
mod Places
mod Portioned
mod Receives
mod Refusals
mod Stays
pub mod StepCases
mod Stepped
mod Taken
mod WorkedInputs
mod WorkedNets
mod WorkedReceives
mod WorkedSends
mod WorkedUnits
pub mod Portions
pub mod Runs
pub mod Verbs
pub mod Whole
pub mod Fronts
mod Longer
mod Idling
mod Owned
pub mod Telling
mod Settled
pub mod Consistency
mod Holding
pub mod Doing
mod Flags
pub mod Awaiting
pub mod Replying
