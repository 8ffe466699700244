-- What the part of a state says of S3.
use Rattle.std.proofs.Common.{◌≡◌, ℕ, zero, suc, ◌+◌, ◌-◌, ◌*◌, ◌%◌, ◌^◌, ◌<◌, ◌≤◌, ◌==◌, min, Bool, true, false, ◌&&◌, bit_and, List, [], ◌∷◌, ◌++◌, length, take, drop, get_or, refl, ap, sym, ◌∙◌, inl, inr, arith}
use Rattle.std.specs.Prelude.{Some, not, nat_lt, nat_eq, if◌then◌else◌}
use Rattle.std.specs.List.{starts_with}
use Rattle.std.proofs.lemmas.Bool.{cases_lt, ltb-true, eqb-false, eqb-true, not-true}
use Rattle.std.proofs.lemmas.List.{drop-take, drop_more, length-drop, length-take-le, take_all, take_more}
use Rattle.fux_grid.specs.declared.cell.Cell.{Cell}
use Rattle.fux_grid.specs.declared.exercise.Exercise.{Exercise}
use Rattle.fux_grid.specs.Cells.{cell_in}
use Rattle.fux_grid.specs.Exercises.{IsFree, bar_of, slot_of}
use Rattle.fux_grid.specs.Letters.{letters_of}
use Rattle.fux_grid.specs.Orderly.{voice_shapes}
use Rattle.fux_grid.specs.Shapes.{begins_shape, letter_of}
use Rattle.rule_law.specs.Bars.{begins_bar}
use Rattle.rule_law.specs.Places.{reading_of}
use Rattle.rule_law.specs.Voices.{is_free, voice_of, holds_of_voice}
use Rattle.rhythm_cadence.specs.Parts.{newest_bar, newest_start, newest_columns, shapes_begun, shapes_after, shapes_with}
use Rattle.rhythm_cadence.specs.Rows.{broken_in, may_go_on}
use Rattle.rhythm_cadence.proofs.BarReadings.{keeps_shapes, reading-bar}
use Rattle.rhythm_cadence.proofs.NewestBars.{shapes_begun-more}
use Rattle.rhythm_cadence.proofs.ShapeSets.{empty_set}

pub each_of_four : (P : ℕ → Type 0) → P 0 → P 1 → P 2 → P 3 → (v : ℕ) → v < 4 → P v
each_of_four P a b c d zero h = a
each_of_four P a b c d (suc zero) h = b
each_of_four P a b c d (suc (suc zero)) h = c
each_of_four P a b c d (suc (suc (suc zero))) h = d
each_of_four P a b c d (suc (suc (suc (suc v)))) h = absurd (omega arith)

-- the set of a voice with one more cell, by what was possible before it
pub set-same : (ex : Exercise) (p : List (List Cell)) (v i possible : ℕ) (now : Cell) → length p ≡ i
    → (0 < length p → possible ≡ shapes_begun ex v p) → shapes_after ex v i possible now
    ≡ shapes_after ex v (length p) (shapes_begun ex v p) now
set-same ex [] v i possible now e same = ap (λ n. shapes_after ex v n possible now) (sym e)
set-same ex (c ∷ p) v i possible now e same =
    ap (λ n. shapes_after ex v n possible now) (sym e)
    ∙ ap (λ n. shapes_after ex v (length (c ∷ p)) n now) (same (omega arith))

-- and with one more column
pub set-more : (ex : Exercise) (p : List (List Cell)) (col : List Cell) (v i possible : ℕ) → length p ≡ i
    → (0 < length p → possible ≡ shapes_begun ex v p) → shapes_after ex v i possible (cell_in col v)
    ≡ shapes_begun ex v (p ++ col ∷ [])
set-more ex p col v i possible e same =
    set-same ex p v i possible (cell_in col v) e same ∙ sym (shapes_begun-more ex v p col)

pub free_voice : (ex : Exercise) (v : ℕ) → nat_lt v ex.voices ≡ true → is_free ex v ≡ true → IsFree ex v
free_voice ex v there free = record {
  there = ltb-true v ex.voices there;
  no_cantus = eqb-false v ex.cantus_voice (not-true (v == ex.cantus_voice) free);
}

pub voice_of-alone : (v : ℕ) → v < 4 → voice_of (2 ^ v) ≡ Some v
voice_of-alone = each_of_four (λ v. voice_of (2 ^ v) ≡ Some v) refl refl refl refl

pub only_free : (n free : Bool) (x y : Bool) → (n ≡ true → free ≡ true → x ≡ y) → (n && (free && x)) ≡ (n && (free && y))
only_free true true x y f = f refl refl
only_free true false x y f = refl
only_free false free x y f = refl

-- a voice has left the shapes of the newest bar where none is left
pub none_left : (ex : Exercise) (p : List (List Cell)) (v possible : ℕ) → v < 4 → 0 < length p
    → (IsFree ex v → possible ≡ shapes_begun ex v p) → (nat_lt v ex.voices && (is_free ex v && (possible == 0)))
    ≡ reading_of (broken_in 3 ex (2 ^ v)) p (newest_start p)
none_left ex p v possible four some same =
    only_free (nat_lt v ex.voices) (is_free ex v) (possible == 0) (not (keeps_shapes ex p (newest_bar p) v))
    (λ there free. ap (λ n. n == 0) (same (free_voice ex v there free))
    ∙ empty_set (λ shape. starts_with nat_eq shape (letters_of v (newest_columns p)))
    (voice_shapes ex v (newest_bar p)))
    ∙ ap (holds_of_voice ex (λ v. is_free ex v && not (keeps_shapes ex p (newest_bar p) v)))
    (sym (voice_of-alone v four))
    ∙ sym (reading-bar ex (2 ^ v) p (newest_bar p) (omega arith, omega arith))

-- ---- of a score

-- the set of a voice in the bar that begins at column i, with one more column of a list
pub set-longer : (ex : Exercise) (s : List (List Cell)) (v i j possible kept : ℕ) → i ≤ j → j < length s
    → begins_bar i ≡ true → (i < j → possible ≡ shapes_begun ex v (take j s))
    → kept ≡ shapes_after ex v j possible (cell_in (get_or s j []) v) → kept ≡ shapes_begun ex v (take (j + 1) s)
set-longer ex s v i j possible kept from here begins same is =
    is ∙ elim (cases_lt i j) [
      | inl later ↦ set-more ex (take j s) col v j possible long (λ some. same later)
      | inr first ↦
          let start : i ≡ j = omega (arith, from, first) in
          by_start (begins_bar j) (sym (ap begins_bar start) ∙ begins)
          ∙ set-more ex (take j s) col v j (shapes_begun ex v (take j s)) long (λ some. refl)
    ] ∙ ap (shapes_begun ex v) (sym (take_more s j [] here))
  where
    col : List Cell
    col = get_or s j []

    long : length (take j s) ≡ j
    long = length-take-le j s (omega (arith, here))

    -- where a bar begins, nothing hangs on what was possible before
    by_start : (b : Bool) → b ≡ true
        → (if b then shapes_with (slot_of j) (letter_of (cell_in col v)) (voice_shapes ex v (bar_of j))
        else bit_and possible (shapes_with (slot_of j) (letter_of (cell_in col v)) (voice_shapes ex v (bar_of j))))
        ≡ (if b then shapes_with (slot_of j) (letter_of (cell_in col v)) (voice_shapes ex v (bar_of j))
        else bit_and (shapes_begun ex v (take j s))
        (shapes_with (slot_of j) (letter_of (cell_in col v)) (voice_shapes ex v (bar_of j))))
    by_start true e = refl
    by_start false e = cc

-- the columns of a bar, up to its end or the list's
bar_part : (s : List (List Cell)) (i e : ℕ) → e ≡ min (length s) (i + 8) → take 8 (drop i (take e s)) ≡ take 8 (drop i s)
bar_part s i e is =
    elim (cases_lt (i + 8) (length s)) [
      | inl longer ↦
          let end : e ≡ i + 8 = omega (arith, is, longer) in
          ap (λ n. take 8 (drop i (take n s))) end
          ∙ ap (take 8) (drop-take i 8 s)
          ∙ take_all 8 (take 8 (drop i s))
          (omega (arith, length-take-le 8 (drop i s) (omega (arith, longer, length-drop i s))))
      | inr shorter ↦
          let end : e ≡ length s = omega (arith, is, shorter) in
          ap (λ n. take 8 (drop i (take n s))) end ∙ ap (λ cols. take 8 (drop i cols)) (take_all (length s) s (omega arith))
    ]

-- none is left of the voice's shapes there exactly where the bar can't go on to one
pub none_left-of_score : (ex : Exercise) (s : List (List Cell)) (v i e : ℕ) → begins_bar i ≡ true
    → e ≡ min (length s) (i + 8) → i < length s
    → (shapes_begun ex v (take e s) == 0) ≡ not (may_go_on ex v i (get_or s i []) (drop (i + 1) s))
none_left-of_score ex s v i e begins is here =
    empty_set (λ shape. starts_with nat_eq shape (letters_of v (newest_columns (take e s))))
    (voice_shapes ex v (newest_bar (take e s)))
    ∙ ap not (ap (λ bar. begins_shape (voice_shapes ex v bar) (letters_of v (take 8 (drop (8 * (bar - 1)) (take e s)))))
    (same_bar (length (take e s)) long)
    ∙ ap (λ n. begins_shape (voice_shapes ex v (bar_of i)) (letters_of v (take 8 (drop n (take e s))))) start
    ∙ ap (λ cols. begins_shape (voice_shapes ex v (bar_of i)) (letters_of v cols)) (bar_part s i e is)
    ∙ ap (λ cols. begins_shape (voice_shapes ex v (bar_of i)) (letters_of v (take 8 cols))) (drop_more s i [] here))
  where
    slot : i % 8 ≡ 0
    slot = eqb-true (i % 8) 0 begins

    long : length (take e s) ≡ e
    long = length-take-le e s (omega (arith, is))

    same_bar : (n : ℕ) → n ≡ e → bar_of (n - 1) ≡ bar_of i
    same_bar n same = omega (arith, same, is, here, slot)

    start : 8 * (bar_of i - 1) ≡ i
    start = omega (arith, slot)
