-- What the clauses of paths cite.
pub mod Stacked
pub mod Path
pub mod Known
