-- Lemmas on paths, for walks.
pub mod Stacks
pub mod Knowns
pub mod Paths
pub mod Roots
pub mod Rising
