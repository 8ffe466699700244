-- What a state knows of its prefix.
use Rattle.std.specs.Prelude.{List, [], ◌∷◌, ◌++◌, reverse}
use Rattle.fux_grid.specs.declared.cell.Cell.{Cell}
use Rattle.fux_grid.specs.declared.exercise.Exercise.{Exercise}
use Rattle.rule_law.specs.Newest.{AreNewestOf}
use Rattle.rule_law.specs.Prefixes.{GoesOn}
use Rattle.melody_rules.specs.Notes.{AreNotesOf}
use Rattle.rhythm_cadence.specs.Parts.{IsShapesOf}
use Rattle.dissonance_rules.specs.Starts.{AreStartsOf}
use Rattle.fux_judge.specs.declared.past.Past.{Past}
use Rattle.fux_judge.specs.declared.state.State.{State}
use Rattle.fux_judge.specs.GaugeStates.{AreAheadOf, AreGaugesOf}

-- the crates' parts are of the columns: the notes of each voice for melody, where its latest ones
-- start for dissonance, the shapes of the newest bar for rhythm
pub record IsPastOf (ex : Exercise) (p : List (List Cell)) (past : Past) : Type 0 where
  pub melody : AreNotesOf (reverse p) past.parts.first
  pub dissonance : AreStartsOf ex p past.parts.second.second.first
  pub rhythm : IsShapesOf ex p past.parts.second.second.second.first

-- the state is of the prefix: it knows its length and its newest columns, and what the crates keep
-- is of it
pub record IsStateOf (ex : Exercise) (p : List (List Cell)) (state : State) : Type 0 where
  pub newest : AreNewestOf ex.voices p state.newest
  pub past : IsPastOf ex p state.past
  pub gauges : AreGaugesOf ex (reverse p) state.gauges
  pub ahead : AreAheadOf ex p state.ahead

-- so far as rules and tolls read it: the gauges may be of another prefix
pub record IsReadOf (ex : Exercise) (p : List (List Cell)) (state : State) : Type 0 where
  pub newest : AreNewestOf ex.voices p state.newest
  pub past : IsPastOf ex p state.past

-- so far it is of a prefix with one column more, which was orderly before it
pub record HasCome (ex : Exercise) (state : State) (p : List (List Cell)) (col : List Cell) : Type 0 where
  pub reached : IsReadOf ex (p ++ col ∷ []) state
  pub on : GoesOn ex p (col ∷ [])
