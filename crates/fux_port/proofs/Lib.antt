pub mod Names
pub mod Pieces
pub mod Rises
pub mod Stands
