mod NameFields
pub mod Outputs
pub mod Parted
pub mod Paths
pub mod StatusKeys
