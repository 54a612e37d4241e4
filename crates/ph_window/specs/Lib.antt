-- What the clauses of windows cite.
pub mod Corners
pub mod Seek
pub mod Window
pub mod Parting
pub mod Mark
pub mod Resumed
pub mod Page
