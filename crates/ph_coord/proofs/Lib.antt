pub mod Halves
pub mod Digits
pub mod Filled
pub mod Points
pub mod Signed
pub mod Ordered
