pub mod BookLaws
pub mod GaugeLemmas
pub mod LineLemmas
pub mod LowerVoices
pub mod MoveLemmas
pub mod Quiet
pub mod StrikeLemmas
pub mod VoiceLemmas
