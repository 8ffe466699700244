pub mod AfterbeatLemmas
pub mod BookLaws
pub mod LateLemmas
pub mod LowerVoices
pub mod Quiet
pub mod RunLemmas
pub mod WayLemmas
