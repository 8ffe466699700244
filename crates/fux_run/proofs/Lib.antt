pub mod AcceptedRuns
pub mod BlameStatuses
pub mod MakingLemmas
pub mod RunLemmas
pub mod SinkLemmas
