mod Messages
mod Wholes
mod Steps
mod Nothing
mod Ends
mod Fronts
mod WorkedFeeds
