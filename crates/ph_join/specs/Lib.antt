-- What the clauses of joins cite.
pub mod Joining
