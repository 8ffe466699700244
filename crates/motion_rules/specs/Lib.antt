pub mod Afterbeats
pub mod Book
pub mod Clear
pub mod InnerVoices
pub mod Rows
pub mod Runs
pub mod Ways
