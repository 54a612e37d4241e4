-- What the clauses of snapshots cite.
pub mod Faults
pub mod Headers
pub mod Saving
pub mod Reads
pub mod LoadedNodes
pub mod RecordPlaces
pub mod Frames
pub mod Columns
pub mod RowFormats
