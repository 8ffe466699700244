pub mod Fed
pub mod Finds
pub mod Levels
pub mod NextClaims
pub mod OwnClaims
pub mod Shown
