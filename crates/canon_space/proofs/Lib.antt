mod BarLemmas
mod Children
mod Passing
mod ScoreSteps
mod Trees
