pub mod Place
pub mod Rows
pub mod Hits
