-- Lemmas of searches and of balls.
pub mod Starts
pub mod NearestRows
pub mod FoundOrder
pub mod Nearing
pub mod Reached
pub mod Listing
pub mod HalfGaps
pub mod AddressSums
pub mod TwoWrites
pub mod TableSums
pub mod Entries
pub mod Scans
pub mod Ranks
pub mod Searches
mod SquaredDistances
mod FarRegions
mod BallStarts
mod Balls
mod SphereSeen
mod Queues
