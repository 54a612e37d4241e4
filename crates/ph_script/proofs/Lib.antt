-- `Pieces` has the laws that callers cite; the others are steps of this crate's proofs.
mod AsciiBytes
mod FaultText
mod Draws
mod EightDigits
mod FileNameBytes
mod FormRooms
mod FormsOfWord
mod FrontNumbers
mod KeptNumbers
mod LinePieces
mod NameBytes
pub mod Pieces
mod PlainLines
mod ReadPlaces
mod RowTexts
mod WordCuts
