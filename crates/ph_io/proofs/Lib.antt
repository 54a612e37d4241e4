mod Copies
mod Places
mod Inserts
pub mod Appending
