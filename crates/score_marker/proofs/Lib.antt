pub mod CantusLemmas
pub mod ChargeLemmas
pub mod LawfulCantus
pub mod ListLemmas
pub mod MarkLemmas
pub mod SettingLemmas
pub mod UniqueLemmas
pub mod VoiceText
