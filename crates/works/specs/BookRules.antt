-- The rules of canons and those of the book: read of the columns of a canon, whose voices are both
-- free voices of first species, the book's rules are broken just where a canon's are.
use Rattle.std.specs.Prelude.{◌≡◌, ℕ, ◌+◌, ◌*◌, ◌<◌, Bool, List, [], ◌++◌, None, length, reverse, slice_index_or, take}
use Rattle.std.specs.List.{list_any, range_with_len}
use Rattle.canon_space.specs.declared.canon.Canon.{Canon}
use Rattle.canon_space.specs.Rules.{breaks_some_rule, columns_of, pair_rules, voice_rules}
use Rattle.fux_grid.specs.declared.cell.Cell.{Cell}
use Rattle.fux_grid.specs.declared.exercise.Exercise.{Exercise}
use Rattle.fux_judge.specs.Rules.{all_sets, is_broken}

-- an exercise of first species whose two voices are those of a canon, and whose cantus is neither
abbrev pub as_exercise : Canon → Exercise
as_exercise canon = record {
  mode = canon.mode;
  voices = 2;
  bars = canon.bars;
  species = 1;
  species_voice = 0;
  mixed = None;
  cantus_voice = 2;
  cantus = [];
  ranges = [];
  relax = [];
  given = [];
  setting = None;
}

-- the rules of canons: S4, S6 to S9 and S26 of each voice, S10, S11, S13, S14, S16, S17 and S24 of
-- both
abbrev pub canon_rules : List ℕ
canon_rules = voice_rules ++ pair_rules

-- a rule of the book is broken for a set of voices at one of the eight columns of a bar, counted
-- from 0
abbrev pub breaks_in_bar : Canon → List (List Cell) → ℕ → ℕ → ℕ → Bool
breaks_in_bar canon bars bar rule voices =
    list_any (λ slot. is_broken rule (as_exercise canon) voices (columns_of bars) (8 * bar + slot)) (range_with_len 0 8)

-- one of these rules is, for some voices
abbrev pub breaks_the_book : Canon → List (List Cell) → ℕ → Bool
breaks_the_book canon bars bar =
    list_any (λ rule. list_any (breaks_in_bar canon bars bar rule) all_sets) canon_rules

-- a bar of a canon, after the bars before it, breaks one of a canon's rules exactly where one of
-- the book's is broken in it
abbrev pub CanonRulesAreTheBook : Type 0
CanonRulesAreTheBook =
    (canon : Canon) (bars : List (List Cell)) (bar : ℕ) → bar < length bars
    → breaks_some_rule canon (reverse (take bar bars)) (slice_index_or bars bar []) ≡ breaks_the_book canon bars bar
