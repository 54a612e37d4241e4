-- Lemmas on the bytes of trees.
mod Passing
mod SavedNodes
mod Snaps
mod RecordFaults
mod NodeReads
mod Stepping
mod Wholes
mod Fields
mod Rules
mod Sizes
mod EntryParts
mod Bytes
mod Framed
mod Headings
mod Asked
mod Loads
mod Behind
