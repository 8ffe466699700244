pub mod Laws
pub mod Runs
pub mod Sinks
pub mod Statuses
pub mod Tellings
