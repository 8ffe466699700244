pub mod SameAnswers
pub mod NumberSteps
pub mod Rounds
pub mod Purses
pub mod Better
