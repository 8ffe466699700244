-- What is read at a moment is what the rows say at the end of the longer prefix.
use Rattle.std.proofs.Common.{◌≡◌, ℕ, ◌==◌, ◌||◌, Bool, true, false, Some, List, [], length, reverse, refl, ap, sym, ◌∙◌}
use Rattle.std.specs.Prelude.{if◌then◌else◌}
use Rattle.std.proofs.lemmas.Bool.{cond-true, cond-false}
use Rattle.fux_grid.specs.declared.cell.Cell.{Cell}
use Rattle.fux_grid.specs.declared.exercise.Exercise.{Exercise}
use Rattle.rule_law.specs.Places.{Row, reading_of}
use Rattle.rule_law.specs.Nearby.{whole_of}
use Rattle.rule_law.specs.Law.{reading-at_end}
use Rattle.rule_law.specs.Rulebooks.{RuleRow, no_toll}
use Rattle.melody_rules.specs.Book as melody_book
use Rattle.motion_rules.specs.Book as motion_book
use Rattle.dissonance_rules.specs.Book as dissonance_book
use Rattle.rhythm_cadence.specs.Book as rhythm_book
use Rattle.doubling_rules.specs.Book as doubling_book
use Rattle.melody_rules.specs.Rows as melody
use Rattle.motion_rules.specs.Rows as motion
use Rattle.dissonance_rules.specs.Rows as dissonance
use Rattle.rhythm_cadence.specs.Rows as rhythm
use Rattle.fux_judge.specs.declared.moment.Moment.{Moment}
use Rattle.fux_judge.specs.Crates.{Melody, Motion, Dissonance, Rhythm, crate_with}
use Rattle.fux_judge.specs.Rules.{is_toll_of_motion, is_toll_of_dissonance, is_toll_of_melody, is_toll_of_rhythm, is_toll_of_doubling, rule_at, toll_at, breaks, cost_enough, is_late}
use Rattle.fux_judge.specs.Moments.{IsAfter, is_broken_then, with_column}
use Rattle.fux_judge.proofs.CrateLemmas.{breaks_by_crate, not_shape, soon_in_dissonance, soon_in_motion, soon_in_rhythm}

-- what a row answers at the column is what is read there
pub row_then : {R : Type 0} (row : Row R) (p : List (List Cell)) (m : Moment) → IsAfter p m
    → row m.state.now.newest.len (reverse p) m.column.now [] ≡ reading_of row (with_column p m) (length p)
row_then row p m after =
    ap (λ i. row i (reverse p) m.column.now []) after.state.newest.count ∙ sym (reading-at_end row p m.column.now)

module _ (rule : ℕ) (voices : ℕ) (p : List (List Cell)) (m : Moment) where
  broken_then : (row : Row Bool) → breaks rule m.exercise.now voices ≡ row → row (length p) (reverse p) m.column.now []
      ≡ is_broken_then rule voices p m
  broken_then row e = sym (reading-at_end (breaks rule m.exercise.now voices) p m.column.now
      ∙ ap (λ (r : Row Bool). r (length p) (reverse p) m.column.now []) e)

  -- the same of a row that the rule is read by
  broken_by : (it : RuleRow) → rule_at rule ≡ it
      → it.broken m.exercise.now voices (length p) (reverse p) m.column.now [] ≡ is_broken_then rule voices p m
  broken_by it e =
      broken_then (it.broken m.exercise.now voices) (ap (λ (r : RuleRow). r.broken m.exercise.now voices) e)

  pub window_then : crate_with rule ≡ Some Melody → melody.looks_back rule ≡ true
      → melody.window_rows rule m.exercise.now voices (length p) (reverse p) m.column.now []
      ≡ is_broken_then rule voices p m
  window_then e l =
      broken_then (melody.window_rows rule m.exercise.now voices)
      (breaks_by_crate rule (Some Melody) e m.exercise.now voices
      ∙ cond-true (melody.looks_back rule) (melody.window_rows rule m.exercise.now voices)
      (whole_of (melody.near_rows rule m.exercise.now voices)) l)

  pub melodic_then : crate_with rule ≡ Some Melody → melody.looks_back rule ≡ false
      → whole_of (melody.near_rows rule m.exercise.now voices) (length p) (reverse p) m.column.now []
      ≡ is_broken_then rule voices p m
  melodic_then e l =
      broken_then (whole_of (melody.near_rows rule m.exercise.now voices))
      (breaks_by_crate rule (Some Melody) e m.exercise.now voices
      ∙ cond-false (melody.looks_back rule) (melody.window_rows rule m.exercise.now voices)
      (whole_of (melody.near_rows rule m.exercise.now voices)) l)

  module _ (soon : is_late rule ≡ false) where
    pub motion_then : crate_with rule ≡ Some Motion
        → whole_of (motion.near_rows rule m.exercise.now voices) (length p) (reverse p) m.column.now []
        ≡ is_broken_then rule voices p m
    motion_then e = broken_by (motion_book.at_once_row rule) (soon_in_motion rule soon e)

    pub dissonance_then : crate_with rule ≡ Some Dissonance
        → whole_of (dissonance.near_rows rule m.exercise.now voices) (length p) (reverse p) m.column.now []
        ≡ is_broken_then rule voices p m
    dissonance_then e = broken_by (dissonance_book.at_once_row rule) (soon_in_dissonance rule soon e)

    pub rhythm_then : crate_with rule ≡ Some Rhythm
        → whole_of (rhythm.near_rows rule m.exercise.now voices) (length p) (reverse p) m.column.now []
        ≡ is_broken_then rule voices p m
    rhythm_then e =
        sym (ap (λ b. if b then rhythm.shape_row m.exercise.now voices (length p) (reverse p) m.column.now []
        else whole_of (rhythm.near_rows rule m.exercise.now voices) (length p) (reverse p) m.column.now [])
        (not_shape rule soon e))
        ∙ broken_by (rhythm_book.at_once_row rule) (soon_in_rhythm rule soon e)

-- but for Q16 each toll is settled at its own column
module _ (toll : ℕ) (other : (toll == 16) ≡ false) (ex : Exercise) (i : ℕ) (behind : List (List Cell)) (now : List Cell)
    (ahead : List (List Cell)) where
  of_motion : (a b : Bool) → (if a || b
      then (if a then motion_book.inner_row else motion_book.run_row) else motion_book.at_once_toll toll).enough ex i
      behind now ahead ≡ true
  of_motion true b = refl
  of_motion false true = refl
  of_motion false false = refl

  of_rhythm : (a b c : Bool) → b ≡ false → (if a || b || c
      then (if a then rhythm_book.ligature_row
      else (if c then rhythm_book.inflection_row else rhythm_book.pattern_row))
      else no_toll).enough ex i behind now ahead ≡ true
  of_rhythm a true c e = cc
  of_rhythm true false c e = refl
  of_rhythm false false true e = refl
  of_rhythm false false false e = refl

  pub cost_settled_soon : cost_enough toll ex i behind now ahead ≡ true
  unfolding toll_at
  cost_settled_soon = at (is_toll_of_melody toll) (is_toll_of_motion toll) (is_toll_of_dissonance toll)
      (is_toll_of_rhythm toll) (is_toll_of_doubling toll)
    where
      at : (a b c d e : Bool) → (if a then melody_book.toll_row toll
          else (if b then motion_book.toll_row toll
          else (if c then dissonance_book.toll_row toll
          else (if d then rhythm_book.toll_row toll else (if e then doubling_book.toll_row toll else no_toll))))).enough
          ex i behind now ahead ≡ true
      at true b c d e = refl
      at false true c d e = of_motion (toll == 12) (toll == 14)
      at false false true d e = refl
      at false false false true e = of_rhythm (toll == 15) (toll == 16) (toll == 21) other
      at false false false false true = refl
      at false false false false false = refl
