pub mod Compared
pub mod Fill
pub mod Sides
pub mod Squares
