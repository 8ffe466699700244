pub mod Pushed
pub mod ReadingLemmas
pub mod RunLemmas
pub mod SignLemmas
pub mod Beside
pub mod Told
