pub mod Replies
pub mod SizeLines
pub mod Listed
pub mod Hits
pub mod Asked
pub mod SlotComparisons
pub mod Far
pub mod Backward
pub mod Differing
pub mod Shelves
pub mod Frames
pub mod Imports
mod Within
