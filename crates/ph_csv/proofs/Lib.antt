pub mod FieldNumbers
pub mod RecordRows
pub mod LeftRecords
pub mod RowsSoFar
pub mod LineTexts
