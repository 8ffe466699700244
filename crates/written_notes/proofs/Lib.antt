pub mod Steps
pub mod ValueSums
pub mod Downward
pub mod Pushed
