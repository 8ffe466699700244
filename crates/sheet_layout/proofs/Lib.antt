pub mod Apart
pub mod Within
pub mod Pushed
