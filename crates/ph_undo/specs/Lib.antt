-- What the clauses of trees that keep their last edits cite.
pub mod Inverses
pub mod Rings
pub mod Kept
