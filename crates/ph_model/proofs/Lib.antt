-- Laws, and steps of them; then worked rows (Rows..) and vectors (Vectors..), which hold by computation.
pub mod lemmas
pub mod laws
mod RowsCombined
mod RowsMasks
mod VectorsDel
mod VectorsPutTree
