-- Lemmas on trees that keep their last edits.
pub mod Carried
mod Fields
pub mod Noted
pub mod Undone
pub mod WhichMoves
pub mod WhichRemovals
