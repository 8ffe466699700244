pub mod Floors
pub mod Moves
pub mod Tables
