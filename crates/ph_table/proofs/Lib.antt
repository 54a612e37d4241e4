pub mod Search
pub mod Places
mod Nearest
