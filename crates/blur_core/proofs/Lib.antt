pub mod Summing
pub mod SoFar
pub mod ColumnSums
pub mod Squares
