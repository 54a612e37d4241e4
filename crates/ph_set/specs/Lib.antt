-- What the clauses of set operations cite.
pub mod Held
pub mod Meeting
pub mod Parts
pub mod Sides
pub mod Operations
pub mod ResultTrees
pub mod Visited
pub mod Sinks
pub mod SinkLaws
