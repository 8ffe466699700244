-- Bars that are given: their order, and what they give of a cell.
use Rattle.std.proofs.Common.{◌≡◌, ℕ, ◌==◌, ◌&&◌, ◌+◌, ◌<◌, List, [], length, slice_index_or, Some, None, ap, sym, ◌∙◌, subst, arith, inl, inr}
use Rattle.std.specs.List.{find}
use Rattle.std.specs.Option.{option_map_or}
use Rattle.std.proofs.lemmas.Bool.{cases_lt}
use Rattle.std.proofs.lemmas.List.{get_or_default}
use Rattle.fux_grid.specs.declared.cell.Cell.{Cell}
use Rattle.fux_grid.specs.declared.exercise.Exercise.{Exercise}
use Rattle.fux_grid.specs.declared.given.Given.{Given}
use Rattle.fux_grid.specs.declared.given.Given.TheVariants.{Blank}
use Rattle.fux_grid.specs.declared.given.GivenBar.{GivenBar}
use Rattle.fux_grid.specs.Cells.{cell_in}
use Rattle.fux_grid.specs.Exercises.{FitsGiven, bar_of, given_at, given_bar, slot_of}
use Rattle.fux_grid.specs.Givens.{IsEarlier, fits}

-- the first so many lines ascend
abbrev pub AscendTo : List GivenBar → ℕ → Type 0
AscendTo lines n = (i j : ℕ) (d : GivenBar) → i < j → j < n → IsEarlier (slice_index_or lines i d) (slice_index_or lines j d)

-- what comes before one that comes before another comes before that
earlier-on : (a b c : GivenBar) → IsEarlier a b → IsEarlier b c → IsEarlier a c
earlier-on a b c (inl h) (inl k) = inl (omega (arith, h, k))
earlier-on a b c (inl h) (inr (e, k)) = inl (omega (arith, h, e))
earlier-on a b c (inr (e, h)) (inl k) = inl (omega (arith, e, k))
earlier-on a b c (inr (e, h)) (inr (f, k)) = inr (e ∙ f, omega (arith, h, k))

pub ascend-more : (lines : List GivenBar) (m : ℕ) → AscendTo lines (m + 1)
    → ((d : GivenBar) → IsEarlier (slice_index_or lines m d) (slice_index_or lines (m + 1) d)) → AscendTo lines (m + 2)
ascend-more lines m before next i j d lt within = elim (cases_lt j (m + 1)) [
  | inl old ↦ before i j d lt old
  | inr new ↦
      let last : m + 1 ≡ j = omega (arith, new, within) in
      let P : ℕ → Type 0 = λ j. IsEarlier (slice_index_or lines i d) (slice_index_or lines j d) in
      subst P last (elim (cases_lt i m) [
        | inl far ↦ earlier-on (slice_index_or lines i d) (slice_index_or lines m d) (slice_index_or lines (m + 1) d)
            (before i m d far (omega arith)) (next d)
        | inr near ↦
            let here : m ≡ i = omega (arith, near, lt, last) in
            let Q : ℕ → Type 0 = λ i. IsEarlier (slice_index_or lines i d) (slice_index_or lines (m + 1) d) in
            subst Q here (next d)
      ])
]

-- what is given where a bar is, and where none is
pub given_at-some : (ex : Exercise) (i v : ℕ) (line : GivenBar) (d : Given) → given_bar ex v (bar_of i) ≡ Some line
    → slot_of i < length line.cells → slice_index_or line.cells (slot_of i) d ≡ given_at ex i v
unfolding given_at
given_at-some ex i v line d e within =
    get_or_default line.cells (slot_of i) d Blank within
    ∙ ap (λ o. option_map_or (λ line. slice_index_or line.cells (slot_of i) Blank) o Blank) (sym e)

pub given_at-none : (ex : Exercise) (i v : ℕ) → given_bar ex v (bar_of i) ≡ None → Blank ≡ given_at ex i v
unfolding given_at
given_at-none ex i v e =
    ap (λ o. option_map_or (λ line. slice_index_or line.cells (slot_of i) Blank) o Blank) (sym e)

-- where no bar is given, everything fits
pub nothing_given : (ex : Exercise) (s : List (List Cell)) → ex.given ≡ [] → FitsGiven ex s
nothing_given ex s e i v lt there =
    ap (λ given. fits given (cell_in (slice_index_or s i []) v))
    (sym (given_at-none ex i v (ap (find (λ line. (line.voice == v) && (line.bar == bar_of i))) e)))
