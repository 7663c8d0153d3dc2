pub mod Diaries
