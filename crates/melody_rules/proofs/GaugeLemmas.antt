-- What the gauges keep of a line that grows by a note.
use Rattle.std.proofs.Common.{◌≡◌, ℕ, suc, ◌+◌, ◌<◌, ◌≤◌, true, false, cond, Some, List, [], ◌∷◌, map, length, refl, ap, sym, ◌∙◌, arith}
use Rattle.std.specs.Prelude.{ℤ, pos, ◌-◌, if◌then◌else◌, ◌-ℤ◌, ◌<ℤ◌, ◌≤ℤ◌, int_lt, not, ◌&&◌}
use Rattle.std.specs.Int.{int_max}
use Rattle.std.specs.Ordering.{int_eq}
use Rattle.std.proofs.lemmas.Bool.Decides.{Decides-int_eq}
use Rattle.std.proofs.lemmas.Int.{ints, clamps}
use Rattle.std.proofs.lemmas.List.Sums.{count_by-le-length, sum_by-cons}
use Rattle.fux_pitch.specs.declared.pitch.Pitch.{Pitch}
use Rattle.fux_pitch.specs.Pitch.{key_of}
use Rattle.fux_grid.specs.declared.cell.Cell.{Cell}
use Rattle.fux_grid.specs.declared.cell.Cell.TheVariants.{Rest, Hold, Start}
use Rattle.fux_grid.specs.declared.exercise.Exercise.{Exercise}
use Rattle.fux_grid.specs.Cells.{notes_from}
use Rattle.rule_law.specs.Terms.{holds_of, interval_of_pitches, is_leap}
use Rattle.rule_law.proofs.MenuStarts.{as_number-bound}
use Rattle.melody_rules.specs.declared.gauges.climax.Climax.{Climax}
use Rattle.melody_rules.specs.declared.gauges.compass.Compass.{Compass}
use Rattle.melody_rules.specs.GaugeParts.{IsClimaxOf, IsCompassOf}
use Rattle.melody_rules.specs.ClimaxKeys.{climax_is, least_by_key, least_is}
use Rattle.melody_rules.specs.Gauges.{climax_least, has_notes, is_climax, is_final_climax, is_narrow, leaps_in, notes_at}
use Rattle.melody_rules.specs.GaugeLaws.{max_keeps}
use Rattle.melody_rules.specs.Keys.{greatest_key, least_key, span_is}
use Rattle.melody_rules.specs.Rows.{last_of, pitches}

-- a line has no more notes than cells
notes_held : (h : ℕ) (cells : List Cell) → length (map (λ n. n.pitch) (notes_from h cells)) ≤ length cells
notes_held h [] = omega arith
notes_held h (Rest ∷ cells) = omega (arith, notes_held 0 cells)
notes_held h (Hold p ∷ cells) = omega (arith, notes_held (suc h) cells)
notes_held h (Start p ∷ cells) = omega (arith, notes_held 0 cells)

pub length-pitches : (cells : List Cell) → length (pitches cells) ≤ length cells
length-pitches cells = notes_held 0 cells

pub leaps-bound : (ps : List Pitch) → leaps_in ps ≤ length ps
leaps-bound [] = omega arith
leaps-bound (p ∷ ps) =
    omega (arith, leaps-bound ps, as_number-bound (holds_of is_leap (interval_of_pitches (last_of ps) (Some p))))

max_rises : (k g : ℤ) → g <ℤ k → int_max k g ≡ k
max_rises k g h = omega (arith, ints, clamps, h)

under_first : (a b c : ℤ) → int_max a b <ℤ c → a <ℤ c
under_first a b c h = omega (arith, ints, clamps, h)

under_second : (a b c : ℤ) → int_max a b <ℤ c → b <ℤ c
under_second a b c h = omega (arith, ints, clamps, h)

unequal : (a c : ℤ) → a <ℤ c → int_eq a c ≡ false
unequal a c h = grind (arith, ints, Decides-int_eq)

pub equal : (a : ℤ) → int_eq a a ≡ true
equal a = grind (arith, ints, Decides-int_eq)

zero_first : (n : ℕ) → 0 + n ≡ n
zero_first n = omega arith

-- no note has a key above all of them
none_above : (key : ℤ) (ps : List Pitch) → greatest_key ps <ℤ key → notes_at key ps ≡ 0
none_above key [] h = refl
none_above key (p ∷ ps) h =
    sum_by-cons (λ q. cond (int_eq (key_of q) key) 1 0) p ps
    ∙ ap (λ b. cond b 1 0 + notes_at key ps) (unequal (key_of p) key (under_first (key_of p) (greatest_key ps) key h))
    ∙ zero_first (notes_at key ps)
    ∙ none_above key ps (under_second (key_of p) (greatest_key ps) key h)

-- a note above all others is the climax
pub climax_new : (p : Pitch) (ps : List Pitch) (key : ℕ) (kept : Climax) → pos key ≡ key_of p → kept.greatest < key
    → IsClimaxOf ps kept → IsClimaxOf (p ∷ ps) (record { greatest = key; count = 1 })
climax_new p ps key kept e h r =
    let below : pos kept.greatest <ℤ pos key = grind (arith, ints, h) in
    let above : greatest_key ps <ℤ key_of p = rw (← r.greatest, ← e) below in
    let top : greatest_key (p ∷ ps) ≡ key_of p = max_rises (key_of p) (greatest_key ps) above in
    record {
      greatest = e ∙ sym top;
      count =
          sym (ap (λ k. notes_at k (p ∷ ps)) top
          ∙ sum_by-cons (λ q. cond (int_eq (key_of q) (key_of p)) 1 0) p ps
          ∙ ap (λ b. cond b 1 0 + notes_at (key_of p) ps) (equal (key_of p))
          ∙ ap (λ n. 1 + n) (none_above (key_of p) ps above))
          ∙ sym (climax_is (p ∷ ps));
    }

-- a note at the climax is one more of it
pub climax_again : (p : Pitch) (ps : List Pitch) (key : ℕ) (kept : Climax) → pos key ≡ key_of p → kept.greatest ≡ key
    → IsClimaxOf ps kept → IsClimaxOf (p ∷ ps) (record { greatest = key; count = kept.count + 1 })
climax_again p ps key kept e h r =
    let same : greatest_key ps ≡ key_of p = sym r.greatest ∙ ap pos h ∙ e in
    let level : key_of p ≤ℤ greatest_key ps = rw same (omega (arith, ints)) in
    let top : greatest_key (p ∷ ps) ≡ key_of p = max_keeps (key_of p) (greatest_key ps) level ∙ same in
    let there : kept.count ≡ notes_at (key_of p) ps = r.count ∙ climax_is ps ∙ ap (λ k. notes_at k ps) same in
    record {
      greatest = e ∙ sym top;
      count =
          ap (λ n. n + 1) there
          ∙ one_first (notes_at (key_of p) ps)
          ∙ sym (ap (λ k. notes_at k (p ∷ ps)) top
          ∙ sum_by-cons (λ q. cond (int_eq (key_of q) (key_of p)) 1 0) p ps
          ∙ ap (λ b. cond b 1 0 + notes_at (key_of p) ps) (equal (key_of p)))
          ∙ sym (climax_is (p ∷ ps));
    }
  where
    one_first : (n : ℕ) → n + 1 ≡ 1 + n
    one_first n = omega arith

-- a note below the climax leaves it as it is
pub climax_under : (p : Pitch) (ps : List Pitch) (key : ℕ) (kept : Climax) → pos key ≡ key_of p → key < kept.greatest
    → IsClimaxOf ps kept → IsClimaxOf (p ∷ ps) kept
climax_under p ps key kept e h r =
    let under : pos key <ℤ pos kept.greatest = grind (arith, ints, h) in
    let below : key_of p <ℤ greatest_key ps = rw (← r.greatest, ← e) under in
    let top : greatest_key (p ∷ ps) ≡ greatest_key ps = max_keeps (key_of p) (greatest_key ps)
    (omega (arith, ints, below)) in
    record {
      greatest = r.greatest ∙ sym top;
      count =
          r.count ∙ climax_is ps
          ∙ sym (climax_is (p ∷ ps)
          ∙ ap (λ k. notes_at k (p ∷ ps)) top
          ∙ sum_by-cons (λ q. cond (int_eq (key_of q) (greatest_key ps)) 1 0) p ps
          ∙ ap (λ b. cond b 1 0 + notes_at (greatest_key ps) ps) (unequal (key_of p) (greatest_key ps) below)
          ∙ zero_first (notes_at (greatest_key ps) ps));
    }

-- a climax has no more notes than the line
pub climax-bound : (ps : List Pitch) (kept : Climax) → IsClimaxOf ps kept → kept.count ≤ length ps
climax-bound ps kept r = omega (arith, r.count, count_by-le-length (is_climax ps) ps)

-- what Q17 says at least, by what is kept
pub least_kept : (ex : Exercise) (v i : ℕ) (cells : List Cell) (kept : Climax) → length cells ≡ i
    → IsClimaxOf (pitches cells) kept
    → climax_least ex v cells ≡ (if is_final_climax ex v i (pos kept.greatest) then kept.count - 1 else 0)
least_kept ex v i cells kept long r =
    least_is ex v cells
    ∙ ap (λ n. least_by_key ex v n (pitches cells)) long
    ∙ ap (λ k. if is_final_climax ex v i k then notes_at (greatest_key (pitches cells)) (pitches cells) - 1 else 0)
    (sym r.greatest)
    ∙ ap (λ n. if is_final_climax ex v i (pos kept.greatest) then n - 1 else 0)
    (sym (r.count ∙ climax_is (pitches cells)))

-- a compass is narrow by its greatest key and its least
pub narrow_is : (ps : List Pitch) (kept : Compass) → IsCompassOf ps kept → is_narrow ps
    ≡ (kept.any && not (int_lt (pos 6) (pos kept.greatest -ℤ pos kept.least)))
narrow_is ps kept r =
    ap (λ b. has_notes ps && not b) (span_is 6 ps)
    ∙ ap (λ g. has_notes ps && not (int_lt (pos 6) (g -ℤ least_key ps))) (sym r.greatest)
    ∙ ap (λ l. has_notes ps && not (int_lt (pos 6) (pos kept.greatest -ℤ l))) (sym r.least)
    ∙ ap (λ a. a && not (int_lt (pos 6) (pos kept.greatest -ℤ pos kept.least))) (sym r.any)
