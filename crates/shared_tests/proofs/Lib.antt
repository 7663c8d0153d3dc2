pub mod Playing
pub mod Feeding
pub mod Beginning
pub mod Standing
pub mod Speaking
pub mod Crossing
