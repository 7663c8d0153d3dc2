pub mod Machine
pub mod Places
pub mod Units
pub mod Weight
pub mod Within
pub mod inner
