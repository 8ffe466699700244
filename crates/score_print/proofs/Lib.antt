pub mod Filling
pub mod RowSteps
