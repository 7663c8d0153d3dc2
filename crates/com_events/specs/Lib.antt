pub mod Calls
pub mod Fronts
pub use Rattle.com_cd.specs.InputArea
