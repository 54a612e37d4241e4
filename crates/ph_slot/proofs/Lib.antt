pub mod Names
pub mod Sizes
pub mod Variants
pub mod Refused
pub mod Plain
pub mod Commanded
pub mod Filed
pub mod Quiet
pub mod Loads
pub mod Slotted
pub mod Paged
pub mod Lifted
pub mod Pairings
pub mod Undos
pub mod Recorded
pub mod Groups
mod Fields
