pub mod Counts
pub mod Files
pub mod MemShelf
pub mod MemSink
pub mod Promises
pub mod Waiting
pub mod Written
