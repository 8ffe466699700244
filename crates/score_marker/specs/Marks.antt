-- The marks of a setting: which breaks they are, and in which order they stand.
use Rattle.std.specs.Prelude.{◌≡◌, ◌↔◌, ℕ, Bool, ◌<◌, ◌/◌, ◌%◌, ◌^◌, ◌==◌, List, [], ◌∷◌, IsTrue, AllPairs, Contains, filter, length}
use Rattle.std.specs.Cmp.Lexicographic.{slice_cmp}
use Rattle.std.specs.Ordering.{nat_cmp}
use Rattle.std.specs.declared.cmp.Ordering.TheVariants.{Less}
use Rattle.fux_grid.specs.declared.cell.Cell.{Cell}
use Rattle.fux_grid.specs.declared.exercise.Exercise.{Exercise}
use Rattle.fux_grid.specs.Exercises.{bar_of, slot_of}
use Rattle.fux_judge.specs.Rules.{rules_read, all_sets, is_broken}
use Rattle.score_marker.specs.declared.mark.Mark.{Mark}

-- the mark of a break at a column, of a rule and for a set of voices
abbrev pub mark_at : ℕ → ℕ → ℕ → Mark
mark_at i rule voices = record { bar = bar_of i; slot = slot_of i; rule = rule; voices = record { bits = voices } }

-- a voice is in the set of these bits
abbrev pub has_voice : ℕ → ℕ → Bool
has_voice bits v = (bits / 2 ^ v) % 2 == 1

-- the voices of a set, the lowest first
abbrev pub voices_in : ℕ → List ℕ
voices_in bits = filter (has_voice bits) (0 ∷ 1 ∷ 2 ∷ 3 ∷ [])

-- what marks go by: their bar, their slot, their rule, and then their voices
abbrev pub mark_key : Mark → List ℕ
mark_key mark = mark.bar ∷ mark.slot ∷ mark.rule ∷ voices_in mark.voices.bits

-- a mark stands before another: of two lists the one with the lesser number at the first difference
-- comes first, and a list before those that it begins
abbrev pub IsBefore : Mark → Mark → Type 0
IsBefore mark other = slice_cmp nat_cmp (mark_key mark) (mark_key other) ≡ Less

-- the mark of a break of a list of columns: its rule is broken at its place for its voices
pub record IsBreak (ex : Exercise) (s : List (List Cell)) (mark : Mark) : Type 0 where
  pub place : ℕ
  pub there : place < length s
  pub bar : mark.bar ≡ bar_of place
  pub slot : mark.slot ≡ slot_of place
  pub rule : Contains rules_read mark.rule
  pub voices : Contains all_sets mark.voices.bits
  pub broken : IsTrue (is_broken mark.rule ex mark.voices.bits s place)

-- the marks of a list of columns: exactly its breaks, each before all later ones
pub record AreMarks (ex : Exercise) (s : List (List Cell)) (marks : List Mark) : Type 0 where
  pub each : (mark : Mark) → Contains marks mark ↔ IsBreak ex s mark
  pub ascend : AllPairs IsBefore marks

-- no two lists are the marks of one list of columns
abbrev pub MarksAreOne : Type 0
MarksAreOne = (ex : Exercise) (s : List (List Cell)) (a b : List Mark) → AreMarks ex s a → AreMarks ex s b → a ≡ b
