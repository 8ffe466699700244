pub mod Judgings
pub mod Trees
pub mod Walks
pub mod Writing
