-- What is right of an exercise hangs on its voices, its bars and its cantus: other lines and
-- another setting don't change it.
use Rattle.std.proofs.Common.{ℕ, List, Option, Some, None}
use Rattle.std.specs.Prelude.{All}
use Rattle.fux_grid.specs.declared.exercise.Exercise.{Exercise}
use Rattle.fux_grid.specs.declared.exercise.RangeLine.{RangeLine}
use Rattle.fux_grid.specs.declared.exercise.Relax.{Relax}
use Rattle.fux_grid.specs.declared.given.GivenBar.{GivenBar}
use Rattle.fux_grid.specs.Exercises.{IsFree, IsGiven, IsGivenBar, IsRangeLine, IsRelax}
use Rattle.fux_grid.specs.Grid.{Grid}
use Rattle.fux_text.specs.Grammar.{Sings}

-- the exercise with the lines and the setting of another one
abbrev pub alike : Exercise → Exercise → Exercise
alike ex other = record ex {
  mixed = other.mixed;
  ranges = other.ranges;
  relax = other.relax;
  given = other.given;
  setting = other.setting;
}

pub free-alike : (ex other : Exercise) (v : ℕ) → IsFree ex v → IsFree (alike ex other) v
free-alike ex other v free = record { there = free.there; no_cantus = free.no_cantus }

pub ranges-alike : (ex other : Exercise) (lines : List RangeLine) → All (IsRangeLine ex) lines
    → All (IsRangeLine (alike ex other)) lines
ranges-alike ex other lines fit = λ k d lt.
    let one = fit k d lt in
    record { free = free-alike ex other _ one.free; rises = one.rises; within = one.within }

pub relaxes-alike : (ex other : Exercise) (lines : List Relax) → All (IsRelax ex) lines
    → All (IsRelax (alike ex other)) lines
relaxes-alike ex other lines fit = λ k d lt.
    let one = fit k d lt in
    record {
      least_rule = one.least_rule;
      most_rule = one.most_rule;
      voices = one.voices;
      within = one.within;
      price = one.price;
    }

pub givens-alike : (ex other : Exercise) (lines : List GivenBar) → All (IsGivenBar ex) lines
    → All (IsGivenBar (alike ex other)) lines
givens-alike ex other lines fit = λ k d lt.
    let one = fit k d lt in
    record { free = free-alike ex other _ one.free; within = one.within; whole = one.whole; follow = one.follow }

pub given-alike : (ex other : Exercise) (score : Grid) → IsGiven ex score → IsGiven (alike ex other) score
given-alike ex other score given = record {
  complete = record { voices = given.complete.voices; whole = given.complete.whole };
  cantus = given.cantus;
}

pub sings-alike : (ex other : Exercise) (lines : List (List (List ℕ))) (o : Option Grid) → Sings ex lines o
    → Sings (alike ex other) lines o
sings-alike ex other lines None sings = sings
sings-alike ex other lines (Some score) (s, sung) =
    (record { given = given-alike ex other score s.given; full = s.full; follows = s.follows }, sung)
