-- Lemmas on nodes.
pub mod BodyArrays
pub mod Lengths
pub mod Marked
pub mod Merges
pub mod FoundSpots
pub mod ReversedChildren
mod Additions
mod Addressed
mod Assembled
mod ChildTests
mod Contents
mod EditReads
mod Fitting
mod Full
mod Halves
mod Keeps
mod Laid
mod Lent
mod Lifts
mod Listings
mod Lists
mod RecordNodes
mod NodeEdits
mod OldEdits
mod OldNodes
mod PairLists
mod Parts
mod Places
mod PointEdits
mod PutEdits
mod Reading
mod RecordEdits
mod Removed
mod Resized
mod ChildLists
mod Spliced
mod ValuePlaces
mod Valued
mod Fields
