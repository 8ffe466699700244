pub mod Prices
pub mod Sheets
pub mod Weights
