pub mod InputArea
pub mod OutputArea
pub mod Designation
pub mod Parts
pub mod Status
pub use Rattle.com_text.specs.Name
pub use Rattle.com_text.specs.Text
