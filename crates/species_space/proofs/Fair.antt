-- What is told of columns that are alike in some voices, or hold all.
use Rattle.std.proofs.Common.{◌≡◌, ℕ, zero, suc, ◌+◌, ◌<◌, ◌≤◌, ⊎_elim, IsTrue, List, [], ◌∷◌, length, reverse, slice_index_or, refl, ap, sym, ◌∙◌, ◌&&◌, ◌||◌, Bool, arith}
use Rattle.std.specs.Prelude.{None, false, nat_lt}
use Rattle.std.specs.List.{list_any}
use Rattle.std.proofs.lemmas.Bool.{cases_lt}
use Rattle.fux_pitch.specs.Size.{is_perfect_size}
use Rattle.fux_grid.specs.declared.cell.Cell.{Cell}
use Rattle.fux_grid.specs.declared.cell.Cell.TheVariants.{Rest, Hold, Start}
use Rattle.fux_grid.specs.declared.exercise.Exercise.{Exercise}
use Rattle.fux_grid.specs.Cells.{cell_in, is_hold}
use Rattle.fux_grid.specs.Columns.{line, newest_column}
use Rattle.rule_law.specs.Bars.{begins_bar}
use Rattle.rule_law.specs.Terms.{equal_perfects, holds_of, interval_of_cells, moves, starts}
use Rattle.rule_law.specs.Pairs.{go_same_way}
use Rattle.melody_rules.specs.Smooth.{is_rough_in}
use Rattle.motion_rules.specs.Rows.{are_outer}
use Rattle.fux_judge.specs.declared.state.State.{State}
use Rattle.fux_judge.specs.Pruning.{IsFairVoice, IsFairWithin, IsToldColumn, move_unfairly}
use Rattle.fux_judge.proofs.FairLemmas.{absent_fair, still_fair}
use Rattle.fux_judge.proofs.QuietLinks.{rules_none}
use Rattle.fux_judge.specs.Always.{sounding_rules}
use Rattle.fux_judge.specs.States.{IsStateOf}
use Rattle.species_space.specs.Blocks.{AreAlike, IsOnlyHolds}

held_cell : (c : Cell) → IsTrue (is_hold c) → starts c ≡ false
held_cell Rest h = refl
held_cell (Hold p) h = refl
held_cell (Start p) h = cc

held_cells : (cs : List Cell) → IsOnlyHolds cs → (v : ℕ) → starts (cell_in cs v) ≡ false
held_cells [] held v = refl
held_cells (c ∷ cs) held zero = held_cell c (held 0 c (omega arith))
held_cells (c ∷ cs) held (suc v) = held_cells cs (λ j d lt. held (suc j) d (omega (arith, lt))) v

-- a column of holds is fair
pub held_fair : (n : ℕ) (ex : Exercise) (state : State) (col : List Cell) → IsOnlyHolds col
    → IsFairWithin n ex state col
held_fair n ex state col held = λ nothing p is v lt. still_fair ex p col v (held_cells col held v)

none_starts : (cs : List Cell) → IsOnlyHolds cs → list_any starts cs ≡ false
none_starts [] held = refl
none_starts (c ∷ cs) held =
    rw (held_cell c (held 0 c (omega arith)), none_starts cs (λ j d lt. held (suc j) d (omega (arith, lt)))) refl

-- where no bar begins it is told of it what it keeps
pub held_told : (ex : Exercise) (state : State) (col : List Cell) → begins_bar state.newest.len ≡ false
    → IsOnlyHolds col → IsToldColumn ex state col
held_told ex state col inner held = record {
  fair = held_fair 4 ex state col held;
  sound = rules_none ex state.newest.len None col (rw (inner, none_starts col held) refl) sounding_rules;
}

-- what two voices do, by their cells
abbrev by_cells : Exercise → ℕ → ℕ → Cell → Cell → Cell → Cell → Bool
by_cells ex v w bv bw c d =
    nat_lt w ex.voices
    && (((moves bv c && moves bw d) && equal_perfects (interval_of_cells bv bw) (interval_of_cells c d))
    || (are_outer ex v w
    && (((moves bv c && moves bw d) && go_same_way (interval_of_cells bv c) (interval_of_cells bw d))
    && holds_of is_perfect_size (interval_of_cells c d))))

unfair_by_cells : (ex : Exercise) (before col : List Cell) (v w : ℕ) → move_unfairly ex before col v w
    ≡ by_cells ex v w (cell_in before v) (cell_in before w) (cell_in col v) (cell_in col w)
unfair_by_cells ex before col v w = refl

unfair_alike : (ex : Exercise) (before col other : List Cell) (v w : ℕ) → cell_in col v ≡ cell_in other v
    → cell_in col w ≡ cell_in other w → move_unfairly ex before other v w ≡ move_unfairly ex before col v w
unfair_alike ex before col other v w e f =
    unfair_by_cells ex before other v w
    ∙ ap (λ c. by_cells ex v w (cell_in before v) (cell_in before w) c (cell_in other w)) (sym e)
    ∙ ap (λ c. by_cells ex v w (cell_in before v) (cell_in before w) (cell_in col v) c) (sym f)
    ∙ sym (unfair_by_cells ex before col v w)

-- nor do the voices of a column that have the cells of such voices of another
pub alike_fair : (ex : Exercise) (state : State) (col other : List Cell) (n m count : ℕ) → length col ≡ ex.voices
    → AreAlike n col other → IsFairWithin m ex state col
    → ((v : ℕ) → v < count → v < ex.voices → (v < n) × (v < m)) → IsFairWithin count ex state other
alike_fair ex state col other n m count full alike told both = λ nothing p is v lt.
    ⊎_elim (λ less. here nothing p is v lt less) (λ more. absent_fair ex p other v more) (cases_lt v ex.voices)
  where
    same : (v : ℕ) → v < count → v < ex.voices → cell_in col v ≡ cell_in other v
    same v lt less = alike v (both v lt less).0 (omega (arith, less, full))

    here : ex.relax ≡ [] → (p : List (List Cell)) → IsStateOf ex p state → (v : ℕ) → v < count → v < ex.voices
        → IsFairVoice ex p other v
    here nothing p is v lt less =
        let known = told nothing p is v (both v lt less).1 in
        record {
          melody = ap (λ (c : Cell). is_rough_in ex v (line v (reverse p)) c) (sym (same v lt less)) ∙ known.melody;
          motion = λ lower low.
              unfair_alike ex (newest_column (reverse p)) col other lower v
              (same lower (omega (arith, low, lt)) (omega (arith, low, less))) (same v lt less)
              ∙ known.motion lower low;
        }

-- so it is where a walk goes on from behind such a column, and of no voice where it begins
pub first_fair : (ex : Exercise) (state : State) (menu : List (List Cell)) (from n k : ℕ) → ex.voices ≤ 4
    → ((j : ℕ) → from ≡ j + 1 → length (slice_index_or menu j []) ≡ ex.voices) → (from ≡ 0 → n ≡ 0)
    → ((j : ℕ) → from ≡ j + 1 → AreAlike n (slice_index_or menu j []) (slice_index_or menu k []))
    → ((j : ℕ) → from ≡ j + 1 → IsFairWithin 4 ex state (slice_index_or menu j []))
    → IsFairWithin n ex state (slice_index_or menu k [])
first_fair ex state menu zero n k few full none alike told = λ nothing p is v lt.
    absurd (omega (arith, lt, none refl))
first_fair ex state menu (suc j) n k few full none alike told =
    let e : suc j ≡ j + 1 = omega arith in
    alike_fair ex state (slice_index_or menu j []) (slice_index_or menu k []) n 4 n (full j e) (alike j e) (told j e)
    (λ v lt there. (lt, omega (arith, there, few)))
