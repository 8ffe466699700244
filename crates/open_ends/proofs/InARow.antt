-- Three bars in a row are counted where the columns at the beginnings of the last three bars pass
-- (`three_in_a_row`); a run goes on as it is kept (`kept_goes_on`), and one of three bars is kept
-- (`kept_three`).
use Rattle.std.specs.Prelude.{◌≡◌, ℕ, zero, suc, ◌+◌, ◌-◌, ◌*◌, ◌/◌, ◌%◌, ◌<◌, ◌≤◌, ◌≢◌, ◌==◌, ◌&&◌, Bool, true, false, nat_le, nat_lt, List, [], ◌∷◌, ◌++◌, drop, length, slice_index_or, take, if◌then◌else◌, refl}
use Rattle.std.specs.List.{list_all}
use Rattle.std.proofs.Common.{ap, sym, ◌∙◌, inl, inr, arith}
use Rattle.std.proofs.lemmas.Bool.{cases_lt, eq-eqb, eqb-false, eqb-true, le-leb, leb-false, lt-leb, ne_eqb}
use Rattle.std.proofs.lemmas.List.{drop-drop, drop_more, get_or-drop, length-append, length-drop, length-take, take-append-drop}
use Rattle.fux_grid.specs.declared.cell.Cell.{Cell}
use Rattle.fux_grid.specs.declared.exercise.Exercise.{Exercise}
use Rattle.fux_grid.specs.Exercises.{bar_of, columns_in, slot_of}
use Rattle.rule_law.specs.Bars.{begins_bar}
use Rattle.motion_rules.specs.Runs.{sound_imperfect, three_bar_lines}
use Rattle.open_ends.specs.BarRuns.{bar_lines, bars_after, in_a_row, may_come_to_four, while_it_may}

-- ---- one bar more

one_more : (bars : ℕ) (goes_on : Bool) → bars_after bars goes_on ≤ bars + 1
one_more bars false = omega arith
one_more bars true = at (nat_lt bars 3) refl
  where
    at : (b : Bool) → nat_lt bars 3 ≡ b → (if b then bars + 1 else 3) ≤ bars + 1
    at true e = omega arith
    at false e = let many : 3 ≤ bars = omega (arith, leb-false (suc bars) 3 e) in omega (arith, many)

-- so many are reached with one more where it goes on and one less was
reached : (k bars : ℕ) (goes_on : Bool) → k ≤ 2
    → nat_le (suc k) (bars_after bars goes_on) ≡ (goes_on && nat_le k bars)
reached k bars false few = lt-leb (suc k) 0 (omega arith)
reached k bars true few = at (nat_lt bars 3) refl
  where
    at : (b : Bool) → nat_lt bars 3 ≡ b → nat_le (suc k) (if b then bars + 1 else 3) ≡ nat_le k bars
    at true e =
        elim (cases_lt bars k) [
          | inl less ↦ lt-leb (suc k) (bars + 1) (omega (arith, less)) ∙ sym (lt-leb k bars less)
          | inr many ↦ le-leb (suc k) (bars + 1) (omega (arith, many)) ∙ sym (le-leb k bars many)
        ]
    at false e =
        let many : 3 ≤ bars = omega (arith, leb-false (suc bars) 3 e) in
        le-leb (suc k) 3 (omega (arith, few)) ∙ sym (le-leb k bars (omega (arith, few, many)))

-- ---- the columns at the beginnings of bars

module _ (degrees v w : ℕ) where
  abbrev sounds : List Cell → Bool
  sounds col = sound_imperfect degrees col v w

  abbrev row : List (List Cell) → ℕ
  row h = in_a_row degrees (bar_lines h) v w

  pub row-within : (line : List Cell) (behind newer : List (List Cell)) → begins_bar (length behind) ≡ true
      → length newer ≤ 7 → row (newer ++ line ∷ behind) ≡ bars_after (row behind) (sounds line)
  row-within line behind [] bar few =
      ap (λ b. in_a_row degrees (if b then line ∷ bar_lines behind else bar_lines behind) v w) bar
  row-within line behind (now ∷ newer) bar few =
      let older : List (List Cell) = newer ++ line ∷ behind in
      ap (λ b. in_a_row degrees (if b then now ∷ bar_lines older else bar_lines older) v w)
      (later (length older) (length newer) (length behind) (length-append newer (line ∷ behind))
      (eqb-true (slot_of (length behind)) 0 bar) few)
      ∙ row-within line behind newer bar (omega (arith, few))
    where
      later : (n k m : ℕ) → n ≡ k + suc m → m % 8 ≡ 0 → suc k ≤ 7 → (n % 8 == 0) ≡ false
      later n k m e slot few = ne_eqb (n % 8) 0 (λ h. omega (arith, e, slot, few, h))

  row-bar : (h : List (List Cell)) (d : ℕ) → d % 8 ≡ 0 → length h % 8 ≡ 0 → d + 8 ≤ length h
      → row (drop d h) ≡ bars_after (row (drop (d + 8) h)) (sounds (slice_index_or h (d + 7) []))
  row-bar h d whole slot long =
      let left : List (List Cell) = drop d h in
      let size : length left ≡ length h - d = length-drop d h in
      let more : length (drop 8 left) ≡ length left - 8 = length-drop 8 left in
      let few : length (take 7 left) ≤ 7 = omega (arith, length-take 7 left) in
      ap row (sym (take-append-drop 7 left) ∙ ap (λ t. take 7 left ++ t) (drop_more left 7 [] (omega (arith, size, long))))
      ∙ row-within (slice_index_or left 7 []) (drop 8 left) (take 7 left)
      (eq-eqb (slot_of (length (drop 8 left))) 0 (omega (arith, size, more, whole, slot, long))) few
      ∙ ap (λ t. bars_after (row t) (sounds (slice_index_or left 7 []))) (drop-drop 8 d h)
      ∙ ap (λ col. bars_after (row (drop (d + 8) h)) (sounds col)) (get_or-drop d h 7 [])

  -- no more are in a row than there are
  pub row-few : (h : List (List Cell)) → 8 * row h ≤ length h + 7
  row-few [] = omega arith
  row-few (col ∷ behind) = at (begins_bar (length behind)) refl (row-few behind)
    where
      counted : (n r x : ℕ) → n % 8 ≡ 0 → 8 * r ≤ n + 7 → x ≤ r + 1 → 8 * x ≤ suc n + 7
      counted n r x slot few more = omega (arith, slot, few, more)

      at : (b : Bool) → begins_bar (length behind) ≡ b → 8 * row behind ≤ length behind + 7
          → 8 * in_a_row degrees (if b then col ∷ bar_lines behind else bar_lines behind) v w ≤ suc (length behind) + 7
      at true e few =
          counted (length behind) (row behind) (bars_after (row behind) (sounds col))
          (eqb-true (slot_of (length behind)) 0 e) few (one_more (row behind) (sounds col))
      at false e few = omega (arith, few)

  pub three_in_a_row : (h : List (List Cell)) → begins_bar (length h) ≡ true
      → nat_le 3 (row h) ≡ (nat_le 4 (bar_of (length h)) && list_all sounds (three_bar_lines h))
  three_in_a_row h bar =
      let slot : length h % 8 ≡ 0 = eqb-true (slot_of (length h)) 0 bar in
      elim (cases_lt (length h) 24) [
        | inl short ↦
            lt-leb 3 (row h) (omega (arith, short, slot, row-few h))
            ∙ ap (λ b. b && list_all sounds (three_bar_lines h))
            (sym (lt-leb 4 (bar_of (length h)) (omega (arith, short))))
        | inr long ↦
            (ap (nat_le 3) (row-bar h 0 refl slot (omega (arith, long)))
            ∙ reached 2 (row (drop 8 h)) (sounds (slice_index_or h 7 [])) (omega arith)
            ∙ ap (λ b. sounds (slice_index_or h 7 []) && b)
            (ap (nat_le 2) (row-bar h 8 refl slot (omega (arith, long)))
            ∙ reached 1 (row (drop 16 h)) (sounds (slice_index_or h 15 [])) (omega arith)
            ∙ ap (λ b. sounds (slice_index_or h 15 []) && b)
            (ap (nat_le 1) (row-bar h 16 refl slot (omega (arith, long)))
            ∙ reached 0 (row (drop 24 h)) (sounds (slice_index_or h 23 [])) (omega arith)
            ∙ ap (λ b. sounds (slice_index_or h 23 []) && b) (le-leb 0 (row (drop 24 h)) (omega arith)))))
            ∙ ap (λ b. b && list_all sounds (three_bar_lines h))
            (sym (le-leb 4 (bar_of (length h)) (omega (arith, long))))
      ]

-- ---- what is kept of a run

module _ (ex : Exercise) where
  pub kept-none : (i : ℕ) → while_it_may ex i 0 ≡ 0
  kept-none i = at (may_come_to_four ex i 0)
    where
      at : (b : Bool) → ◌≡◌ {A = ℕ} (if b then 0 else 0) 0
      at true = refl
      at false = refl

  -- within a bar it stays
  pub kept_stays : (n bars : ℕ) → begins_bar n ≡ false → while_it_may ex (n - 1) bars ≡ while_it_may ex n bars
  kept_stays n bars within =
      ap (λ bar. if nat_le (bar + 4) (ex.bars + bars) then bars else 0) (same n (eqb-false (slot_of n) 0 within))
    where
      same : (n : ℕ) → n % 8 ≢ 0 → (n - 1) / 8 + 1 ≡ n / 8 + 1
      same n other = omega (arith, other)

  pub kept_three : (n bars : ℕ) → n % 8 ≡ 0 → 8 * bars ≤ n + 7 → n < columns_in ex
      → nat_le 3 (while_it_may ex (n - 1) bars) ≡ nat_le 3 bars
  kept_three n bars slot few here = at (may_come_to_four ex (n - 1) bars) refl
    where
      at : (b : Bool) → may_come_to_four ex (n - 1) bars ≡ b → nat_le 3 (if b then bars else 0) ≡ nat_le 3 bars
      at true e = refl
      at false e =
          sym (lt-leb 3 bars (omega (arith, leb-false (bar_of (n - 1) + 4) (ex.bars + bars) e, slot, few, here)))

  lost : (n bars more : ℕ) → n % 8 ≡ 0 → 8 * suc bars ≤ n + 7 → may_come_to_four ex (n - 1) (suc bars) ≡ false
      → more ≤ suc bars + 1 → while_it_may ex n more ≡ 0
  lost n bars more slot few fails at_most =
      ap (λ b. if b then more else 0)
      (lt-leb (bar_of n + 4) (ex.bars + more)
      (omega (arith, leb-false (bar_of (n - 1) + 4) (ex.bars + suc bars) fails, slot, few, at_most)))

  pub kept_goes_on : (n bars : ℕ) (goes_on : Bool) → n % 8 ≡ 0 → 8 * bars ≤ n + 7
      → while_it_may ex n (bars_after (while_it_may ex (n - 1) bars) goes_on)
      ≡ while_it_may ex n (bars_after bars goes_on)
  kept_goes_on n bars false slot few = refl
  kept_goes_on n zero true slot few = ap (λ kept. while_it_may ex n (bars_after kept true)) (kept-none (n - 1))
  kept_goes_on n (suc bars) true slot few = at (may_come_to_four ex (n - 1) (suc bars)) refl
    where
      at : (b : Bool) → may_come_to_four ex (n - 1) (suc bars) ≡ b
          → while_it_may ex n (bars_after (if b then suc bars else 0) true)
          ≡ while_it_may ex n (bars_after (suc bars) true)
      at true e = refl
      at false e =
          lost n bars 1 slot few e (omega arith)
          ∙ sym (lost n bars (bars_after (suc bars) true) slot few e (one_more (suc bars) true))
