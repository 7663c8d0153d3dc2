pub mod Lists
pub mod Fronts
mod Counting
mod Changes
mod Drawing
mod Looking
mod Committing
mod PassingOn
mod Toggling
mod Numbering
mod Joining
mod Closing
mod Beginning
mod Settling
mod Collecting
mod WorkedLists
