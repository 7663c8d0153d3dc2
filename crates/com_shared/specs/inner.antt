-- What only private functions say.
pub mod Turns
pub mod Copies
pub mod Plain
pub mod Waits
pub mod Receiving
pub mod Arriving
pub mod Starting
