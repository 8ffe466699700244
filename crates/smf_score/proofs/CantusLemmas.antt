-- A bar that is one whole note has its cells (`whole_is`, `whole_back`); so has a cantus
-- (`cantus_is`, `cantus_back`).
use Rattle.std.proofs.Common.{◌≡◌, ℕ, zero, suc, ◌+◌, ◌-◌, ◌*◌, ◌<◌, ◌≤◌, Bool, true, false, List, [], ◌∷◌, ◌++◌, drop, take, length, replicate, Option, Some, None, Ok, refl, sym, ◌∙◌, ap, arith, cond, add-one}
use Rattle.std.specs.List.{list_all}
use Rattle.std.specs.Option.{ok_or}
use Rattle.std.proofs.lemmas.Bool.{and_parts}
use Rattle.std.proofs.lemmas.List.{length-drop, length-take-le}
use Rattle.std.proofs.Math.Seq.{take-add}
use Rattle.fux_pitch.specs.declared.pitch.Pitch.{Pitch}
use Rattle.fux_pitch.proofs.PitchLemmas.{equal_from_test}
use Rattle.fux_grid.proofs.PitchTests.{same_pitch-from_equal}
use Rattle.fux_grid.specs.declared.cell.Cell.{Cell}
use Rattle.fux_grid.specs.declared.cell.Cell.TheVariants.{Hold, Start}
use Rattle.smf_score.specs.declared.fault.SmfFault.TheVariants.{NotWhole}
use Rattle.smf_score.specs.Cantus.{bar_pitch, bars_from, holds, whole_note}
use Rattle.smf_score.specs.Faults.{each}
use Rattle.smf_score.proofs.EachLemmas.{each_ok, each_then}
use Rattle.voice_lines.specs.Lines.{cantus_cells, note_cells}

-- ---- the cells of a whole note

all_held : (p : Pitch) (cells : List Cell) → list_all (holds p) cells ≡ true → cells ≡ replicate (length cells) (Hold p)
all_held p [] h = refl
all_held p (Hold q ∷ cells) h =
    let parts = and_parts (holds p (Hold q)) (list_all (holds p) cells) h in
    ap (λ (r : Pitch). Hold r ∷ cells) (equal_from_test q p parts.0)
    ∙ ap (λ (cs : List Cell). Hold p ∷ cs) (all_held p cells parts.1)
all_held p cells h = absurd cc

held_all : (p : Pitch) (n : ℕ) → list_all (holds p) (replicate n (Hold p)) ≡ true
held_all p zero = refl
held_all p (suc n) = rw (same_pitch-from_equal p p refl) (held_all p n)

whole_is : (cells : List Cell) (p : Pitch) → whole_note cells ≡ Some p → cells ≡ note_cells p (length cells)
whole_is (Start q ∷ cells) p e = at (list_all (holds q) cells) refl e
  where
    at : (t : Bool) → list_all (holds q) cells ≡ t → cond t (Some q) None ≡ Some p
        → Start q ∷ cells ≡ note_cells p (suc (length cells))
    at false h f = absurd cc
    at true h f =
        let same : q ≡ p = cc in
        let count : suc (length cells) - 1 ≡ length cells = omega arith in
        ap (λ (cs : List Cell). Start q ∷ cs) (all_held q cells h)
        ∙ ap (λ (n : ℕ). Start q ∷ replicate n (Hold q)) (sym count)
        ∙ ap (λ (r : Pitch). note_cells r (suc (length cells))) same
whole_is cells p e = absurd cc

whole_back : (p : Pitch) (n : ℕ) → whole_note (note_cells p n) ≡ Some p
whole_back p n = rw (held_all p (n - 1)) refl

-- ---- the cells of a cantus

pitch_is : (bar : ℕ) (cells : List Cell) (p : Pitch) → bar_pitch (bar, cells) ≡ Ok p → whole_note cells ≡ Some p
pitch_is bar cells p = at (whole_note cells)
  where
    at : (o : Option Pitch) → ok_or o (NotWhole (bar + 1)) ≡ Ok p → o ≡ Some p
    at None e = absurd cc
    at (Some q) e = cc

-- the next bar, and those behind it
pub bars_next : (bar bars : ℕ) (cells : List Cell) → bar < bars
    → bars_from bar (bars - bar) cells ≡ (bar, take 8 cells) ∷ bars_from (bar + 1) (bars - (bar + 1)) (drop 8 cells)
bars_next bar bars cells more =
    let left : bars - bar ≡ suc (bars - (bar + 1)) = omega arith in
    rw (left, add-one bar) refl

-- the pitches of bars, one for each, have these cells
pub cantus_is : (bar n : ℕ) (cells : List Cell) (ps : List Pitch) → each bar_pitch (bars_from bar n cells) ≡ Ok ps
    → 8 * n ≤ length cells → (length ps ≡ n) × (take (8 * n) cells ≡ cantus_cells ps)
unfolding each
cantus_is bar zero cells ps e long =
    let none : [] ≡ ps = cc in (ap length (sym none), ap cantus_cells none)
cantus_is bar (suc n) cells ps e long =
    let parts = each_ok bar_pitch (bar, take 8 cells) (bars_from (suc bar) n (drop 8 cells)) ps e in
    let later = cantus_is (suc bar) n (drop 8 cells) parts.1 parts.3 (omega (arith, length-drop 8 cells)) in
    let eight : length (take 8 cells) ≡ 8 = length-take-le 8 cells (omega arith) in
    let own : take 8 cells ≡ note_cells parts.0 8 =
    whole_is (take 8 cells) parts.0 (pitch_is bar (take 8 cells) parts.0 parts.2)
    ∙ ap (note_cells parts.0) eight in
    let more : 8 * suc n ≡ 8 + 8 * n = omega arith in (
      ap length (sym parts.4) ∙ ap (λ k. suc k) later.0,
      ap (λ k. take k cells) more ∙ take-add 8 (8 * n) cells
          ∙ ap (λ (own : List Cell). own ++ take (8 * n) (drop 8 cells)) own
          ∙ ap (λ (behind : List Cell). note_cells parts.0 8 ++ behind) later.1
          ∙ ap cantus_cells parts.4,
    )

pub cantus_back : (bar : ℕ) (ps : List Pitch) → each bar_pitch (bars_from bar (length ps) (cantus_cells ps)) ≡ Ok ps
unfolding each
cantus_back bar [] = refl
cantus_back bar (p ∷ ps) =
    each_then bar_pitch (bar, note_cells p 8) (bars_from (suc bar) (length ps) (cantus_cells ps)) p ps
    (ap (λ (o : Option Pitch). ok_or o (NotWhole (bar + 1))) (whole_back p 8)) (cantus_back (suc bar) ps)
