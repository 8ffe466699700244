-- Columns at which nothing begins: no bar and no note.
use Rattle.std.specs.Prelude.{◌≡◌, ℕ, zero, suc, ◌==◌, Bool, true, false, not, ◌&&◌, ◌||◌, cond, nat_le, nat_lt, List, [], ◌∷◌, Option, Some, None, if◌then◌else◌, refl}
use Rattle.std.specs.List.{list_any}
use Rattle.std.proofs.Common.{ap}
use Rattle.std.proofs.lemmas.Bool.{and_parts, and_right, not-true, or_parts}
use Rattle.fux_grid.specs.declared.cell.Cell.{Cell}
use Rattle.fux_grid.specs.declared.exercise.Exercise.{Exercise}
use Rattle.fux_grid.specs.Cells.{cell_in}
use Rattle.fux_grid.specs.Exercises.{bar_of}
use Rattle.rule_law.specs.Bars.{begins_bar, begins_inner_bar}
use Rattle.rule_law.specs.Growth.{sum_by-none}
use Rattle.rule_law.specs.Pairs.{both_move, count_pairs, go_same_way, move_alike, one_starts, some_pair}
use Rattle.rule_law.specs.Terms.{starts, interval_of_cells}
use Rattle.rule_law.specs.Voices.{count_free, holds_of_pair, holds_of_voice, is_free, on_free_voice, on_pair, on_voice, pair_of, voice_of, voice_pairs}

-- no bar begins at the column, and no note starts in it
abbrev pub is_quiet : ℕ → List Cell → Bool
is_quiet i now = not (begins_bar i) && not (list_any starts now)

none_starts : (now : List Cell) → list_any starts now ≡ false → (v : ℕ) → starts (cell_in now v) ≡ false
none_starts [] h v = refl
none_starts (c ∷ now) h zero = (or_parts (starts c) (list_any starts now) h).0
none_starts (c ∷ now) h (suc v) = none_starts now (or_parts (starts c) (list_any starts now) h).1 v

-- at a quiet column no bar begins, and no voice starts a note
pub quiet_slot : (i : ℕ) (now : List Cell) → is_quiet i now ≡ true → begins_bar i ≡ false
quiet_slot i now h = not-true (begins_bar i) (and_parts (not (begins_bar i)) (not (list_any starts now)) h).0

pub quiet_inner : (ex : Exercise) (i : ℕ) (now : List Cell) → is_quiet i now ≡ true → begins_inner_bar ex i ≡ false
quiet_inner ex i now h = ap (λ b. b && nat_le 2 (bar_of i) && nat_lt (bar_of i) ex.bars) (quiet_slot i now h)

pub quiet_cell : (i : ℕ) (now : List Cell) → is_quiet i now ≡ true → (v : ℕ) → starts (cell_in now v) ≡ false
quiet_cell i now h =
    none_starts now (not-true (list_any starts now) (and_parts (not (begins_bar i)) (not (list_any starts now)) h).1)

pub quiet_pair : (i : ℕ) (now : List Cell) → is_quiet i now ≡ true → (v w : ℕ) → one_starts now v w ≡ false
quiet_pair i now h v w = rw (quiet_cell i now h v, quiet_cell i now h w) refl

pub quiet_moves : (i : ℕ) (before now : List Cell) → is_quiet i now ≡ true → (v w : ℕ) → both_move before now v w
    ≡ false
quiet_moves i before now h v w = rw (quiet_cell i now h v) refl

pub quiet_alike : (i : ℕ) (before now : List Cell) → is_quiet i now ≡ true → (v w : ℕ) → move_alike before now v w
    ≡ false
quiet_alike i before now h v w = ap (λ b. b
    && go_same_way (interval_of_cells (cell_in before v) (cell_in now v))
    (interval_of_cells (cell_in before w) (cell_in now w))) (quiet_moves i before now h v w)

-- a test that fails always
pub on_voice-none : (ex : Exercise) (test : ℕ → Bool) (voices : ℕ) → ((v : ℕ) → test v ≡ false)
    → on_voice ex test voices ≡ false
on_voice-none ex test voices none = at (voice_of voices)
  where
    at : (voice : Option ℕ) → holds_of_voice ex test voice ≡ false
    at None = refl
    at (Some v) = and_right (nat_lt v ex.voices) (test v) (none v)

pub on_free_voice-none : (ex : Exercise) (test : ℕ → Bool) (voices : ℕ) → ((v : ℕ) → test v ≡ false)
    → on_free_voice ex test voices ≡ false
on_free_voice-none ex test voices none =
    on_voice-none ex (λ v. is_free ex v && test v) voices (λ v. and_right (is_free ex v) (test v) (none v))

pub on_pair-none : (ex : Exercise) (test : ℕ → ℕ → Bool) (voices : ℕ) → ((v w : ℕ) → test v w ≡ false)
    → on_pair ex test voices ≡ false
on_pair-none ex test voices none = at (pair_of voices)
  where
    at : (pair : Option (ℕ × ℕ)) → holds_of_pair ex test pair ≡ false
    at None = refl
    at (Some pair) = and_right (nat_lt pair.1 ex.voices) (test pair.0 pair.1) (none pair.0 pair.1)

pub count_pairs-none : (test : ℕ → ℕ → Bool) → ((v w : ℕ) → test v w ≡ false) → count_pairs test ≡ 0
count_pairs-none test none =
    sum_by-none (λ pair. cond (test pair.0 pair.1) 1 0) voice_pairs (λ pair. ap (λ b. cond b 1 0) (none pair.0 pair.1))

pub count_free-none : (ex : Exercise) (test : ℕ → Bool) → ((v : ℕ) → test v ≡ false) → count_free ex test ≡ 0
count_free-none ex test none =
    sum_by-none (λ v. cond (is_free ex v && test v) 1 0) (0 ∷ 1 ∷ 2 ∷ 3 ∷ [])
    (λ v. ap (λ b. cond b 1 0) (and_right (is_free ex v) (test v) (none v)))

-- of two readings the one that a test chooses
pub either_none : {X : Type 0} (chosen : Bool) (x y n : X) → x ≡ n → y ≡ n → (if chosen then x else y) ≡ n
either_none true x y n h k = h
either_none false x y n h k = k

-- a test of the voice of a set, where it fails for each of four
pub on_free_voice-kept : (ex : Exercise) (rough test : ℕ → Bool) (voices : ℕ)
    → list_any (λ v. nat_lt v ex.voices && (is_free ex v && rough v)) (0 ∷ 1 ∷ 2 ∷ 3 ∷ []) ≡ false
    → (rough 0 ≡ false → test 0 ≡ false) → (rough 1 ≡ false → test 1 ≡ false) → (rough 2 ≡ false → test 2 ≡ false)
    → (rough 3 ≡ false → test 3 ≡ false) → on_free_voice ex test voices ≡ false
on_free_voice-kept ex rough test voices h k0 k1 k2 k3 =
    let here : ℕ → Bool = λ v. nat_lt v ex.voices && (is_free ex v && rough v) in
    let a = or_parts (here 0) (here 1 || (here 2 || (here 3 || false))) h in
    let b = or_parts (here 1) (here 2 || (here 3 || false)) a.1 in
    let d = or_parts (here 2) (here 3 || false) b.1 in
    let e = or_parts (here 3) false d.1 in
    chosen (voices == 1) (Some 0) _ (one (nat_lt 0 ex.voices) (is_free ex 0) (rough 0) (test 0) a.0 k0)
    (chosen (voices == 2) (Some 1) _ (one (nat_lt 1 ex.voices) (is_free ex 1) (rough 1) (test 1) b.0 k1)
    (chosen (voices == 4) (Some 2) _ (one (nat_lt 2 ex.voices) (is_free ex 2) (rough 2) (test 2) d.0 k2)
    (chosen (voices == 8) (Some 3) None (one (nat_lt 3 ex.voices) (is_free ex 3) (rough 3) (test 3) e.0 k3) refl)))
  where
    one : (there free bad fails : Bool) → (there && (free && bad)) ≡ false → (bad ≡ false → fails ≡ false)
        → (there && (free && fails)) ≡ false
    one true true bad fails h k = k h
    one true false bad fails h k = refl
    one false free bad fails h k = refl

    chosen : (b : Bool) (x y : Option ℕ) → holds_of_voice ex (λ w. is_free ex w && test w) x ≡ false
        → holds_of_voice ex (λ w. is_free ex w && test w) y ≡ false
        → holds_of_voice ex (λ w. is_free ex w && test w) (if b then x else y) ≡ false
    chosen true x y h k = h
    chosen false x y h k = k

-- a test of the two voices of a set, where none of four voices' pairs passes a test that it implies
pub on_pair-kept : (ex : Exercise) (bad test : ℕ → ℕ → Bool) (voices : ℕ)
    → some_pair (λ v w. nat_lt w ex.voices && bad v w) ≡ false
    → ((v w : ℕ) → bad v w ≡ false → test v w ≡ false) → on_pair ex test voices ≡ false
unfolding voice_pairs
on_pair-kept ex bad test voices none kept =
    let here : ℕ → ℕ → Bool = λ v w. nat_lt w ex.voices && bad v w in
    let a = or_parts (here 0 1) _ none in
    let b = or_parts (here 0 2) _ a.1 in
    let c = or_parts (here 0 3) _ b.1 in
    let d = or_parts (here 1 2) _ c.1 in
    let e = or_parts (here 1 3) _ d.1 in
    chosen (voices == 3) (0, 1) _ a.0
    (chosen (voices == 5) (0, 2) _ b.0
    (chosen (voices == 9) (0, 3) _ c.0
    (chosen (voices == 6) (1, 2) _ d.0
    (chosen (voices == 10) (1, 3) _ e.0
    (chosen (voices == 12) (2, 3) None (or_parts (here 2 3) false e.1).0 refl)))))
  where
    one : (there breaks fails : Bool) → (there && breaks) ≡ false → (breaks ≡ false → fails ≡ false) → (there && fails)
        ≡ false
    one true breaks fails h k = k h
    one false breaks fails h k = refl

    chosen : (b : Bool) (x : ℕ × ℕ) (y : Option (ℕ × ℕ)) → (nat_lt x.1 ex.voices && bad x.0 x.1) ≡ false
        → holds_of_pair ex test y ≡ false → holds_of_pair ex test (if b then Some x else y) ≡ false
    chosen true x y h k = one (nat_lt x.1 ex.voices) (bad x.0 x.1) (test x.0 x.1) h (kept x.0 x.1)
    chosen false x y h k = k
