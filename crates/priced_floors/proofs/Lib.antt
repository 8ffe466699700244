pub mod Steps
pub mod Voices
