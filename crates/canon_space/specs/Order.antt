-- Numbers of cells and of children stand in reading order, and each note of a gamut has one.
use Rattle.std.specs.Prelude.{◌≡◌, ℕ, zero, suc, ◌+◌, ◌-◌, ◌*◌, ◌/◌, ◌%◌, ◌<◌, ◌≤◌, ◌==◌, pos, true, false, List, [], ◌∷◌, Option, Some, None, IsSome, if◌then◌else◌, refl}
use Rattle.std.proofs.Common.{arith, sym, ap, ◌∙◌, subst, inl, inr}
use Rattle.std.proofs.lemmas.Bool.{cases_lt}
use Rattle.std.proofs.lemmas.Bool.Decides.{nat_tests}
use Rattle.std.proofs.lemmas.Cmp.{tied_itself}
use Rattle.std.proofs.lemmas.Int.{ints}
use Rattle.std.specs.Cmp.{int_cmp_is}
use Rattle.std.specs.Ordering.{ordering_then, int_cmp, nat_cmp}
use Rattle.std.specs.declared.cmp.Ordering.TheVariants.{Less, Equal}
use Rattle.fux_pitch.specs.declared.mode.Mode.{Mode}
use Rattle.fux_pitch.specs.declared.pitch.Pitch.{Pitch}
use Rattle.fux_pitch.specs.Modes.{is_in_gamut}
use Rattle.fux_pitch.specs.Pitch.{degree_of, key_of}
use Rattle.fux_pitch.specs.Spelling.{spelled}
use Rattle.fux_pitch.proofs.PitchLemmas.{key_of-number}
use Rattle.fux_pitch.proofs.SpellingLemmas.{key_of-spelled, spelled-known, spelled-own}
use Rattle.fux_grid.specs.declared.cell.Cell.{Cell}
use Rattle.fux_grid.specs.declared.cell.Cell.TheVariants.{Rest, Start}
use Rattle.fux_grid.specs.Order.{cell_order, column_order, pitch_order}
use Rattle.fux_grid.proofs.OrderLemmas.{cell_order-total}
use Rattle.canon_space.specs.Paths.{note_or_rest, numbered_bar, numbered_cell}

-- the note of a number above 0
pub record IsNote (n : ℕ) : Type 0 where
  pub pitch : Pitch
  pub is : numbered_cell n ≡ Start pitch
  pub key : key_of pitch ≡ pos (n + 23)

above_rest : (n : ℕ) → 1 ≤ n → numbered_cell n ≡ note_or_rest (spelled (n + 23))
above_rest n h =
    let some : (n == 0) ≡ false = grind (arith, nat_tests) in
    ap (λ b. if b then Rest else note_or_rest (spelled (n + 23))) some

note_of_number : (n : ℕ) → 1 ≤ n → n < 74 → IsNote n
note_of_number n h k = at (spelled (n + 23)) refl ((spelled-known (n + 23)).1 (omega (arith, h), omega (arith, k)))
  where
    at : (o : Option Pitch) → spelled (n + 23) ≡ o → IsSome (spelled (n + 23)) → IsNote n
    at None e s = let none : false ≡ true = subst IsSome e s in absurd (cc)
    at (Some p) e s = record {
      pitch = p;
      is = above_rest n h ∙ ap note_or_rest e;
      key = key_of-spelled (n + 23) p e;
    }

lower_first : (p q : Pitch) (m n : ℕ) → key_of p ≡ pos m → key_of q ≡ pos n → m < n → pitch_order p q ≡ Less
lower_first p q m n e f h =
    let less : int_cmp (key_of p) (key_of q) ≡ Less =
    sym (int_cmp_is (key_of p) (key_of q) Less (rw (e, f) (omega (arith, ints)))) in
    ap (λ o. ordering_then o (nat_cmp (degree_of p) (degree_of q))) less

-- a lesser number is read first
pub cells_in_order : (m n : ℕ) → m < n → n < 74 → cell_order (numbered_cell m) (numbered_cell n) ≡ Less
cells_in_order zero n h k =
    let note = note_of_number n (omega (arith, h)) k in
    ap (cell_order Rest) note.is
cells_in_order (suc m) n h k =
    let low = note_of_number (suc m) (omega arith) (omega (arith, h, k)) in
    let high = note_of_number n (omega (arith, h)) k in
    ap (λ c. cell_order c (numbered_cell n)) low.is ∙ ap (cell_order (Start low.pitch)) high.is
    ∙ lower_first low.pitch high.pitch (suc m + 23) (n + 23) low.key high.key (omega (arith, h))

pub bars_in_order : (j k : ℕ) → j < k → k < 5476 → column_order (numbered_bar j) (numbered_bar k) ≡ Less
bars_in_order j k h w = elim (cases_lt (j / 74) (k / 74)) [
  | inl low ↦ ap (λ o. ordering_then o (ordering_then (cell_order (numbered_cell (j % 74)) (numbered_cell (k % 74)))
      Equal)) (cells_in_order (j / 74) (k / 74) low (omega arith))
  | inr high ↦ (let same : j / 74 ≡ k / 74 = omega arith in
      let next : cell_order (numbered_cell (j % 74)) (numbered_cell (k % 74)) ≡ Less = cells_in_order (j % 74) (k % 74)
      (omega arith) (omega arith) in
      ap (λ n. ordering_then (cell_order (numbered_cell n) (numbered_cell (k / 74)))
      (ordering_then (cell_order (numbered_cell (j % 74)) (numbered_cell (k % 74))) Equal)) same
      ∙ ap (λ o. ordering_then o (ordering_then (cell_order (numbered_cell (j % 74)) (numbered_cell (k % 74))) Equal))
      (tied_itself cell_order-total (numbered_cell (k / 74)))
      ∙ ap (λ o. ordering_then o Equal) next)
]

-- a cell has a number
pub record HasNumber (c : Cell) : Type 0 where
  pub number : ℕ
  pub small : number < 74
  pub is : numbered_cell number ≡ c

pub rest_has_number : HasNumber Rest
rest_has_number = record { number = 0; small = omega arith; is = refl }

-- each note of a gamut has one
pub note_has_number : (mode : Mode) (bar bars : ℕ) (p : Pitch) → is_in_gamut mode bar bars p ≡ true → HasNumber (Start p)
note_has_number mode bar bars p h =
    let key = key_of-number p in
    let same : key.0 - 23 + 23 ≡ key.0 = omega (arith, key.2) in
    record {
      number = key.0 - 23;
      small = omega (arith, key.3);
      is = above_rest (key.0 - 23) (omega (arith, key.2))
          ∙ ap note_or_rest (ap spelled same ∙ spelled-own mode bar bars p key.0 key.1 h);
    }

-- and so has the bar of two cells that have one
pub record HasBarNumber (now : List Cell) : Type 0 where
  pub number : ℕ
  pub small : number < 5476
  pub is : numbered_bar number ≡ now

pub bar_has_number : (c d : Cell) → HasNumber c → HasNumber d → HasBarNumber (c ∷ d ∷ [])
bar_has_number c d m n =
    let high : (74 * m.number + n.number) / 74 ≡ m.number = omega (arith, m.small, n.small) in
    let low : (74 * m.number + n.number) % 74 ≡ n.number = omega (arith, m.small, n.small) in
    record {
      number = 74 * m.number + n.number;
      small = omega (arith, m.small, n.small);
      is = ap (λ a. numbered_cell a ∷ numbered_cell ((74 * m.number + n.number) % 74) ∷ []) high
          ∙ ap (λ b. numbered_cell m.number ∷ numbered_cell b ∷ []) low
          ∙ ap (λ x. x ∷ numbered_cell n.number ∷ []) m.is ∙ ap (λ x. c ∷ x ∷ []) n.is;
    }
