pub mod Decided
pub mod Filled
pub mod Gaps
pub mod Ordered
pub mod Sides
