pub mod Compiled
pub mod Effects
pub mod Flat
pub mod inner
