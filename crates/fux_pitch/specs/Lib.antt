pub mod AnyList
pub mod Key
pub mod Modes
pub mod Names
pub mod Pitch
pub mod Size
pub mod Spelling
