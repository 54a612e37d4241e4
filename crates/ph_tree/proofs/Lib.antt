-- Lemmas on trees.
pub mod NodeComparisons
mod Fewer
mod Fields
mod Gone
mod NodeRooms
mod Offsets
mod PutRooms
mod PutCases
mod PutWays
mod RemovalCases
mod RoomLimits
mod Rooms
mod RowEdits
mod Shifted
pub mod Sizes
mod Steps
mod Trees
mod Walks
mod Wanted
mod Ways
