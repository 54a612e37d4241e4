-- Laws, and steps of them; then worked rows (Rows..) and vectors (Vectors..), which hold by computation.
pub mod lemmas
pub mod laws
mod RowsCommands
mod RowsFiles
mod RowsLarge
mod RowsLines
mod RowsLoads
mod RowsProgram
mod RowsSearches
mod RowsSnapshots
mod RowsTables
mod RowsWide
mod VectorsFaults
mod VectorsLarge
mod VectorsSnapshots
mod VectorsWide
