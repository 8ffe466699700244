pub mod Chunks
pub mod Events
pub mod Faults
pub mod Files
pub mod Messages
pub mod Numbers
pub mod Rows
