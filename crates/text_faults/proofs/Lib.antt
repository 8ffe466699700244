pub mod FaultLines
pub mod RangeLemmas
pub mod Rows
pub mod Told
