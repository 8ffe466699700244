-- Q17 by the greatest key, as it is computed: the notes that no note is above are those at the
-- greatest key (`climax_is`), and some note is a last climax where that key is one (`least_is`).
use Rattle.std.specs.Prelude.{◌≡◌, ℕ, ◌+◌, ◌-◌, ℤ, pos, ◌≤ℤ◌, int_le, int_lt, Bool, true, false, not, cond, ◌&&◌, ◌||◌, List, [], ◌∷◌, count_by, length, Option, Some, None, if◌then◌else◌, refl}
use Rattle.std.specs.Int.{int_max}
use Rattle.std.specs.List.{list_all, list_any}
use Rattle.std.specs.Ordering.{int_eq}
use Rattle.std.proofs.Common.{ap, sym, ◌∙◌, arith}
use Rattle.std.proofs.Math.Bool.{or-false}
use Rattle.std.proofs.lemmas.Bool.{and_from, and_parts}
use Rattle.std.proofs.lemmas.Bool.Decides.{Decides-int_eq}
use Rattle.std.proofs.lemmas.Int.{ints, clamps}
use Rattle.std.proofs.lemmas.List.Sums.{sum_by-cons}
use Rattle.fux_pitch.specs.declared.pitch.Pitch.{Pitch}
use Rattle.fux_pitch.specs.Pitch.{key_of}
use Rattle.fux_grid.specs.declared.cell.Cell.{Cell}
use Rattle.fux_grid.specs.declared.exercise.Exercise.{Exercise}
use Rattle.fux_grid.specs.Exercises.{bar_of}
use Rattle.fux_grid.specs.Menus.{range_of}
use Rattle.rule_law.specs.Gauges.{columns_from, menu_starts}
use Rattle.rule_law.specs.Law.{or_each}
use Rattle.melody_rules.specs.Gauges.{climax_least, climax_notes, climax_repeats, is_at_top, is_climax, is_final_climax, is_last_climax, is_topped, notes_at}
use Rattle.melody_rules.specs.Keys.{first_wins, greatest_key, second_wins}
use Rattle.melody_rules.specs.Rows.{pitches}

-- ---- which notes are the climax

highest : (a b c : ℤ) → int_le (int_max a b) c ≡ (int_le a c && int_le b c)
highest a b c = at (int_lt b a) refl
  where
    at : (t : Bool) → int_lt b a ≡ t → int_le (cond t a b) c ≡ (int_le a c && int_le b c)
    at true e = grind (arith, ints, e)
    at false e = grind (arith, ints, e)

none_above : (ps : List Pitch) (key : ℤ) → pos 0 ≤ℤ key
    → list_all (λ q. int_le (key_of q) key) ps ≡ int_le (greatest_key ps) key
none_above [] key h = grind (arith, ints, h)
none_above (p ∷ ps) key h =
    ap (λ b. int_le (key_of p) key && b) (none_above ps key h) ∙ sym (highest (key_of p) (greatest_key ps) key)

level : (g k : ℤ) → k ≤ℤ g → int_le g k ≡ int_eq k g
level g k h = grind (arith, ints, Decides-int_eq, h)

climax_at : (p : Pitch) (all : List Pitch) → key_of p ≤ℤ greatest_key all
    → is_climax all p ≡ int_eq (key_of p) (greatest_key all)
climax_at p all h =
    let low : pos 24 ≤ℤ key_of p = p.is_pitch.low in
    none_above all (key_of p) (omega (arith, ints, low)) ∙ level (greatest_key all) (key_of p) h

same_count : (ps all : List Pitch) → greatest_key ps ≤ℤ greatest_key all
    → count_by (is_climax all) ps ≡ notes_at (greatest_key all) ps
same_count [] all h = refl
same_count (p ∷ ps) all h =
    sum_by-cons (λ q. cond (is_climax all q) 1 0) p ps
    ∙ ap (λ b. cond b 1 0 + count_by (is_climax all) ps) (climax_at p all (omega (arith, ints, clamps, h)))
    ∙ ap (λ n. cond (int_eq (key_of p) (greatest_key all)) 1 0 + n) (same_count ps all (omega (arith, ints, clamps, h)))
    ∙ sym (sum_by-cons (λ q. cond (int_eq (key_of q) (greatest_key all)) 1 0) p ps)

pub climax_is : (ps : List Pitch) → climax_notes ps ≡ notes_at (greatest_key ps) ps
climax_is ps = same_count ps ps (omega (arith, ints))

-- ---- where it is the last

-- of keys that pass a test which each greater key passes too, the greater one does
module _ (test : ℤ → Bool) (rises : (a b : ℤ) → a ≤ℤ b → test a ≡ true → test b ≡ true) where
  either : (a b : ℤ) → (test a || test b) ≡ test (int_max a b)
  either a b = at (int_lt b a) refl
    where
      at : (t : Bool) → int_lt b a ≡ t → (test a || test b) ≡ test (cond t a b)
      at true e = first_wins (test a) (test b) (rises b a (grind (arith, ints, e)))
      at false e = second_wins (test a) (test b) (rises a b (grind (arith, ints, e)))

  alone : (p : Pitch) → key_of p ≡ int_max (key_of p) (pos 0)
  alone p = let low : pos 24 ≤ℤ key_of p = p.is_pitch.low in omega (arith, ints, clamps, low)

  some_passes : (p : Pitch) (ps : List Pitch)
      → list_any (λ q. test (key_of q)) (p ∷ ps) ≡ test (greatest_key (p ∷ ps))
  some_passes p [] = or-false (test (key_of p)) ∙ ap test (alone p)
  some_passes p (q ∷ qs) =
      ap (λ b. test (key_of p) || b) (some_passes q qs) ∙ either (key_of p) (greatest_key (q ∷ qs))

top_rises : (a b : ℤ) (ends : Option (Pitch × Pitch)) → a ≤ℤ b → is_at_top a ends ≡ true → is_at_top b ends ≡ true
top_rises a b None h e = refl
top_rises a b (Some ends) h e = grind (arith, ints, h, e)

all_rise : (ex : Exercise) (v : ℕ) (a b : ℤ) (js : List ℕ) → a ≤ℤ b
    → list_all (is_topped ex v a) js ≡ true → list_all (is_topped ex v b) js ≡ true
all_rise ex v a b [] h e = refl
all_rise ex v a b (j ∷ js) h e =
    let parts = and_parts (is_topped ex v a j) (list_all (is_topped ex v a) js) e in
    and_from (is_topped ex v b j) (list_all (is_topped ex v b) js)
    (or_each (not (menu_starts ex v j)) (is_at_top a (range_of ex v (bar_of j))) (not (menu_starts ex v j))
    (is_at_top b (range_of ex v (bar_of j)))
    (λ k. k) (top_rises a b (range_of ex v (bar_of j)) h) parts.0)
    (all_rise ex v a b js h parts.1)

pub last_is : (ex : Exercise) (v i : ℕ) (p : Pitch) (ps : List Pitch)
    → is_last_climax ex v i (p ∷ ps) ≡ is_final_climax ex v i (greatest_key (p ∷ ps))
last_is ex v i p ps =
    some_passes (is_final_climax ex v i) (λ a b h e. all_rise ex v a b (columns_from ex i) h e) p ps

-- what Q17 says at least, by the greatest key
abbrev pub least_by_key : Exercise → ℕ → ℕ → List Pitch → ℕ
least_by_key ex v i ps =
    if is_final_climax ex v i (greatest_key ps) then notes_at (greatest_key ps) ps - 1 else 0

least_of : (ex : Exercise) (v i : ℕ) (ps : List Pitch)
    → (if is_last_climax ex v i ps then climax_repeats ps else 0) ≡ least_by_key ex v i ps
least_of ex v i [] = either_way (is_final_climax ex v i (pos 0)) 0
  where
    either_way : (b : Bool) (n : ℕ) → n ≡ (if b then n else n)
    either_way true n = refl
    either_way false n = refl
least_of ex v i (p ∷ ps) =
    ap (λ b. if b then climax_repeats (p ∷ ps) else 0) (last_is ex v i p ps)
    ∙ ap (λ n. if is_final_climax ex v i (greatest_key (p ∷ ps)) then n - 1 else 0) (climax_is (p ∷ ps))

pub least_is : (ex : Exercise) (v : ℕ) (cells : List Cell)
    → climax_least ex v cells ≡ least_by_key ex v (length cells) (pitches cells)
least_is ex v cells = least_of ex v (length cells) (pitches cells)
