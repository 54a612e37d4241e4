pub mod Views
pub mod Zeros
pub mod Groups
pub mod Fronts
pub mod Chains
pub mod Steps
pub mod Made
pub mod Walk
mod Drawn
