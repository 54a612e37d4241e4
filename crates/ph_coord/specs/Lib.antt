pub mod Spelling
pub mod Narrow
