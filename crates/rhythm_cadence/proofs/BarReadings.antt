-- S3 at the bars of a list: where it is broken, and where that is settled.
use Rattle.std.proofs.Common.{◌≡◌, ℕ, ◌+◌, ◌-◌, ◌*◌, ◌%◌, ◌<◌, ◌≤◌, Bool, true, false, ◌&&◌, List, [], ◌∷◌, ◌++◌, length, get_or, take, drop, refl, ap, sym, ◌∙◌, arith}
use Rattle.std.specs.Prelude.{Option, Some, None, not, nat_lt}
use Rattle.std.proofs.lemmas.Bool.{eq-eqb, lt-ltb}
use Rattle.std.proofs.lemmas.List.{length-append, drop_more}
use Rattle.fux_grid.specs.declared.cell.Cell.{Cell}
use Rattle.fux_grid.specs.declared.exercise.Exercise.{Exercise}
use Rattle.fux_grid.specs.Exercises.{bar_of}
use Rattle.fux_grid.specs.Letters.{letters_of, bar_columns}
use Rattle.fux_grid.specs.Orderly.{voice_shapes, HasBegun}
use Rattle.fux_grid.specs.Shapes.{begins_shape}
use Rattle.fux_grid.proofs.OrderlyLemmas.{bar_columns-whole}
use Rattle.rule_law.specs.Bars.{begins_bar}
use Rattle.rule_law.specs.Places.{reading_of, settled_by}
use Rattle.rule_law.specs.Voices.{is_free, voice_of, holds_of_voice, on_free_voice}
use Rattle.rhythm_cadence.specs.Rows.{open_row, may_go_on, leaves_shapes, is_open, broken_in, enough_after}

-- tests that agree at each voice agree on a set
pub holds_of_voice-same : (ex : Exercise) (f g : ℕ → Bool) (voice : Option ℕ) → ((v : ℕ) → f v ≡ g v)
    → holds_of_voice ex (λ v. is_free ex v && f v) voice ≡ holds_of_voice ex (λ v. is_free ex v && g v) voice
holds_of_voice-same ex f g None e = refl
holds_of_voice-same ex f g (Some v) e = ap (λ b. nat_lt v ex.voices && (is_free ex v && b)) (e v)

-- the letters of a voice in a bar, as far as it goes, begin a shape
abbrev pub keeps_shapes : Exercise → List (List Cell) → ℕ → ℕ → Bool
keeps_shapes ex s bar v = begins_shape (voice_shapes ex v bar) (letters_of v (bar_columns s bar))

bar_of-start : (bar : ℕ) → 1 ≤ bar → bar_of (8 * (bar - 1)) ≡ bar
bar_of-start bar h = omega arith

begins_bar-start : (bar : ℕ) → begins_bar (8 * (bar - 1)) ≡ true
begins_bar-start bar = eq-eqb (8 * (bar - 1) % 8) 0 (omega arith)

may_go_on-bar : (ex : Exercise) (v : ℕ) (s : List (List Cell)) (bar : ℕ) → HasBegun s bar
    → may_go_on ex v (8 * (bar - 1)) (get_or s (8 * (bar - 1)) []) (drop (8 * (bar - 1) + 1) s)
    ≡ keeps_shapes ex s bar v
may_go_on-bar ex v s bar begun =
    ap (λ b. begins_shape (voice_shapes ex v b)
    (letters_of v (get_or s (8 * (bar - 1)) [] ∷ take 7 (drop (8 * (bar - 1) + 1) s)))) (bar_of-start bar begun.0)
    ∙ ap (λ cols. begins_shape (voice_shapes ex v bar) (letters_of v (take 8 cols)))
    (sym (drop_more s (8 * (bar - 1)) [] begun.1))

-- at the first column of a bar S3 is broken where its letters, as far as it goes, begin no shape
pub reading-bar : (ex : Exercise) (voices : ℕ) (s : List (List Cell)) (bar : ℕ) → HasBegun s bar
    → reading_of (broken_in 3 ex voices) s (8 * (bar - 1))
    ≡ on_free_voice ex (λ v. not (keeps_shapes ex s bar v)) voices
reading-bar ex voices s bar begun =
    holds_of_voice-same ex _ (λ v. not (keeps_shapes ex s bar v)) (voice_of voices)
    (λ v. ap (λ b. b && not (may_go_on ex v (8 * (bar - 1)) (get_or s (8 * (bar - 1)) []) (drop (8 * (bar - 1) + 1) s)))
    (begins_bar-start bar)
    ∙ ap not (may_go_on-bar ex v s bar begun))

-- elsewhere it is never broken
pub reading-within_bar : (ex : Exercise) (voices : ℕ) (s : List (List Cell)) (i : ℕ) → begins_bar i ≡ false
    → reading_of (broken_in 3 ex voices) s i ≡ false
reading-within_bar ex voices s i h =
    holds_of_voice-same ex _ (λ v. false) (voice_of voices)
    (λ v. ap (λ b. b && not (may_go_on ex v i (get_or s i []) (drop (i + 1) s))) h)
    ∙ never ex (voice_of voices)
  where
    fails : (a b : Bool) → (a && (b && false)) ≡ false
    fails true true = refl
    fails true false = refl
    fails false b = refl

    never : (ex : Exercise) (voice : Option ℕ) → holds_of_voice ex (λ v. is_free ex v && false) voice ≡ false
    never ex None = refl
    never ex (Some v) = fails (nat_lt v ex.voices) (is_free ex v)

-- a break of S3 is settled wherever it stands
not_open : (slot part goes : Bool) → (slot && not goes) ≡ true → (slot && part && goes) ≡ false
not_open true true true h = sym h
not_open true true false h = refl
not_open true false goes h = refl
not_open false part goes h = refl

broken_not_open : (ex : Exercise) (breaks opens : ℕ → Bool) (voice : Option ℕ)
    → ((v : ℕ) → breaks v ≡ true → opens v ≡ false) → holds_of_voice ex (λ v. is_free ex v && breaks v) voice ≡ true
    → holds_of_voice ex (λ v. is_free ex v && opens v) voice ≡ false
broken_not_open ex breaks opens None f h = refl
broken_not_open ex breaks opens (Some v) f h = only (nat_lt v ex.voices) (is_free ex v) (breaks v) (opens v) (f v) h
  where
    only : (a b x y : Bool) → (x ≡ true → y ≡ false) → (a && (b && x)) ≡ true → (a && (b && y)) ≡ false
    only true true x y f h = f h
    only true false x y f h = refl
    only false b x y f h = refl

pub break_is_settled : (ex : Exercise) (voices : ℕ) (s : List (List Cell)) (i : ℕ) → i < length s
    → reading_of (broken_in 3 ex voices) s i ≡ true → settled_by (enough_after 3 ex voices) s i ≡ true
break_is_settled ex voices s i here h =
    ap (λ b. b && not (reading_of (open_row ex voices) s i)) (lt-ltb i (length s) here)
    ∙ ap not (broken_not_open ex (λ v. leaves_shapes ex v i (get_or s i []) (drop (i + 1) s))
    (λ v. is_open ex v i (get_or s i []) (drop (i + 1) s)) (voice_of voices)
    (λ v. not_open (begins_bar i) (nat_lt (length (drop (i + 1) s)) 7)
    (may_go_on ex v i (get_or s i []) (drop (i + 1) s))) h)

-- whatever comes after a whole bar, S3 is read alike at it
pub whole_bar-stays : (ex : Exercise) (voices : ℕ) (p t : List (List Cell)) (bar : ℕ) → 1 ≤ bar → 8 * bar ≤ length p
    → reading_of (broken_in 3 ex voices) (p ++ t) (8 * (bar - 1)) ≡ reading_of (broken_in 3 ex voices) p (8 * (bar - 1))
whole_bar-stays ex voices p t bar first whole =
    reading-bar ex voices (p ++ t) bar (first, omega (arith, length-append p t))
    ∙ holds_of_voice-same ex (λ v. not (keeps_shapes ex (p ++ t) bar v)) (λ v. not (keeps_shapes ex p bar v))
    (voice_of voices)
    (λ v. ap (λ cols. not (begins_shape (voice_shapes ex v bar) (letters_of v cols)))
    (bar_columns-whole p t bar first whole))
    ∙ sym (reading-bar ex voices p bar (first, omega arith))
