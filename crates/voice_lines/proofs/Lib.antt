pub mod CantusLines
pub mod Scores
