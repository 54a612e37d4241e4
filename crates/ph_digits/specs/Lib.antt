pub mod Differences
pub mod WordOrder
