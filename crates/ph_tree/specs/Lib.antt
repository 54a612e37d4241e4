-- What the clauses of trees cite.
pub mod Key
pub mod Step
pub mod Opened
pub mod Placed
pub mod Puts
pub mod Removals
pub mod Tree
pub mod Moves
pub mod Rooms
pub mod Spares
pub mod Spare
pub mod Stats
