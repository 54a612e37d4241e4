-- The laws of set operations.
pub mod Sights
pub mod Parting
mod Missed
mod Spent
mod Taking
mod Rooms
mod LeftOrRight
mod Walking
mod Joining
mod Descending
mod Meetings
mod Overs
mod Pairs
mod Rooted
mod KeptRows
