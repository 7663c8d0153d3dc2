pub mod Contents
pub mod Requests
pub mod Stepping
