-- The laws of these rules: what is settled stays, and everything is settled at the end.
use Rattle.std.specs.Prelude.{◌≡◌, ℕ, ◌+◌, ◌-◌, ◌*◌, ◌%◌, ◌<◌, ◌≤◌, ◌==◌, Bool, true, false, not, ◌&&◌, nat_lt, List, ◌∷◌, ◌++◌, Option, Some, None, IsTrue, if◌then◌else◌, length, drop, take, refl}
use Rattle.std.proofs.Common.{ap, sym, ◌∙◌, arith}
use Rattle.std.proofs.lemmas.List.{length-append, length-drop, take-append-le}
use Rattle.std.proofs.lemmas.Bool.{and_from, both_ways, eqb-true, false_from_ne_true, le-ltb, ltb-false}
use Rattle.fux_grid.specs.declared.cell.Cell.{Cell}
use Rattle.fux_grid.specs.declared.exercise.Exercise.{Exercise}
use Rattle.fux_grid.specs.Exercises.{bar_of, slot_of}
use Rattle.fux_grid.specs.Shapes.{begins_shape}
use Rattle.fux_grid.specs.Letters.{letters_of}
use Rattle.fux_grid.specs.Orderly.{voice_shapes}
use Rattle.fux_grid.proofs.ShapeBeginnings.{begins_shape-fewer, letters_of-append, take-append}
use Rattle.rule_law.specs.Bars.{begins_bar}
use Rattle.rule_law.specs.Places.{IsUndisturbed, reading_of, settled_by, IsLocal, Reading, SettlesAtEnd}
use Rattle.rule_law.specs.Growth.{EnoughStays}
use Rattle.rule_law.specs.Law.{local_from_row, reads_on, test_from_below}
use Rattle.rule_law.specs.Nearby.{whole_of}
use Rattle.rule_law.specs.Voices.{is_free, voice_of, holds_of_voice, on_free_voice}
use Rattle.rhythm_cadence.specs.Rows.{broken_in, near_rows, enough_after, leaves_shapes, may_go_on, is_open}

-- the readings of the rules, and where they are settled
abbrev pub rhythm_breaks : ℕ → Exercise → ℕ → Reading Bool
rhythm_breaks rule ex voices = reading_of (broken_in rule ex voices)

abbrev pub rhythm_settles : ℕ → Exercise → ℕ → Reading Bool
rhythm_settles rule ex voices = settled_by (enough_after rule ex voices)

-- two tests agree on a set where a third, which fails on it, tells them apart
agree : (a b f g o : Bool) → (o ≡ false → f ≡ g) → (a && (b && o)) ≡ false → (a && (b && f)) ≡ (a && (b && g))
agree true true f g o same h = same h
agree true false f g o same h = refl
agree false b f g o same h = refl

agree_on : (ex : Exercise) (f g o : ℕ → Bool) (voice : Option ℕ) → ((v : ℕ) → o v ≡ false → f v ≡ g v)
    → holds_of_voice ex (λ v. is_free ex v && o v) voice ≡ false → holds_of_voice ex (λ v. is_free ex v && f v) voice
    ≡ holds_of_voice ex (λ v. is_free ex v && g v) voice
agree_on ex f g o None same h = refl
agree_on ex f g o (Some v) same h = agree (nat_lt v ex.voices) (is_free ex v) (f v) (g v) (o v) (same v) h

-- letters that begin no shape begin none with more behind them
stays : (ex : Exercise) (v i : ℕ) (now : List Cell) (ahead t : List (List Cell)) → may_go_on ex v i now ahead ≡ false
    → may_go_on ex v i now (ahead ++ t) ≡ false
stays ex v i now ahead t h =
    let longer : letters_of v (now ∷ take 7 (ahead ++ t)) ≡ letters_of v (now ∷ take 7 ahead)
    ++ letters_of v (take (7 - length ahead) t) =
    ap (λ cols. letters_of v (now ∷ cols)) (take-append 7 ahead t)
    ∙ letters_of-append v (now ∷ take 7 ahead) (take (7 - length ahead) t) in
    false_from_ne_true (may_go_on ex v i now (ahead ++ t)) (λ e.
    both_ways (may_go_on ex v i now ahead) h
    (begins_shape-fewer (voice_shapes ex v (bar_of i)) (letters_of v (now ∷ take 7 ahead))
    (letters_of v (take (7 - length ahead) t))
    (sym (ap (begins_shape (voice_shapes ex v (bar_of i))) longer) ∙ e)))

-- a whole bar isn't changed by what comes after it
whole_stays : (ex : Exercise) (v i : ℕ) (now : List Cell) (ahead t : List (List Cell)) → 7 ≤ length ahead
    → may_go_on ex v i now (ahead ++ t) ≡ may_go_on ex v i now ahead
whole_stays ex v i now ahead t h =
    ap (λ cols. begins_shape (voice_shapes ex v (bar_of i)) (letters_of v (now ∷ cols))) (take-append-le 7 ahead t h)

undisturbed_bar : (slot part goes more : Bool) → (part ≡ false → more ≡ goes) → (goes ≡ false → more ≡ false)
    → (slot && part && goes) ≡ false → (slot && not more) ≡ (slot && not goes)
undisturbed_bar false part goes more f g h = refl
undisturbed_bar true false goes more f g h = ap not (f refl)
undisturbed_bar true true true more f g h = cc
undisturbed_bar true true false more f g h = ap not (g refl)

undisturbed_voice : (ex : Exercise) (v i : ℕ) (now : List Cell) (ahead t : List (List Cell)) → is_open ex v i now ahead
    ≡ false → leaves_shapes ex v i now (ahead ++ t) ≡ leaves_shapes ex v i now ahead
undisturbed_voice ex v i now ahead t h =
    undisturbed_bar (begins_bar i) (nat_lt (length ahead) 7) (may_go_on ex v i now ahead)
    (may_go_on ex v i now (ahead ++ t))
    (λ e. whole_stays ex v i now ahead t (ltb-false (length ahead) 7 e))
    (stays ex v i now ahead t) h

by_rule : (b o x x' y : Bool) → (o ≡ false → x ≡ x') → IsTrue (not (b && o)) → (if b then x else y)
    ≡ (if b then x' else y)
by_rule true true x x' y f h = cc
by_rule true false x x' y f h = f refl
by_rule false o x x' y f h = refl

undisturbed : (rule : ℕ) (ex : Exercise) (voices : ℕ)
    → IsUndisturbed (broken_in rule ex voices) (enough_after rule ex voices)
undisturbed rule ex voices i behind now ahead t enough =
    by_rule (rule == 3) (on_free_voice ex (λ v. is_open ex v i now ahead) voices)
    (on_free_voice ex (λ v. leaves_shapes ex v i now (ahead ++ t)) voices)
    (on_free_voice ex (λ v. leaves_shapes ex v i now ahead) voices)
    (whole_of (near_rows rule ex voices) i behind now ahead)
    (agree_on ex (λ v. leaves_shapes ex v i now (ahead ++ t)) (λ v. leaves_shapes ex v i now ahead)
    (λ v. is_open ex v i now ahead) (voice_of voices)
    (λ v. undisturbed_voice ex v i now ahead t))
    enough

-- so what is settled of them stays in every list
pub rhythm_reads_on : (rule : ℕ) (ex : Exercise) (voices : ℕ) (p t : List (List Cell)) (i : ℕ)
    → IsTrue (rhythm_settles rule ex voices p i) → rhythm_breaks rule ex voices (p ++ t) i
    ≡ rhythm_breaks rule ex voices p i
rhythm_reads_on rule ex voices =
    reads_on (broken_in rule ex voices) (enough_after rule ex voices) (undisturbed rule ex voices)

pub rhythm_is_local : (rule : ℕ) (ex : Exercise) (voices : ℕ)
    → IsLocal ex (rhythm_breaks rule ex voices) (rhythm_settles rule ex voices)
rhythm_is_local rule ex voices =
    local_from_row ex (broken_in rule ex voices) (enough_after rule ex voices) (undisturbed rule ex voices)

-- a bar that isn't open is closed for good
closed_stays : (slot part goes part' goes' : Bool) → (part ≡ false → part' ≡ false) → (goes ≡ false → goes' ≡ false)
    → (slot && part && goes) ≡ false → (slot && part' && goes') ≡ false
closed_stays false part goes part' goes' f g h = refl
closed_stays true false goes part' goes' f g h = let e : part' ≡ false = f refl in rw e refl
closed_stays true true true part' goes' f g h = cc
closed_stays true true false true goes' f g h = g refl
closed_stays true true false false goes' f g h = refl

both_fail : (a b o o' : Bool) → (o ≡ false → o' ≡ false) → (a && (b && o)) ≡ false → (a && (b && o')) ≡ false
both_fail true true o o' f h = f h
both_fail true false o o' f h = refl
both_fail false b o o' f h = refl

fails_on : (ex : Exercise) (o o' : ℕ → Bool) (voice : Option ℕ) → ((v : ℕ) → o v ≡ false → o' v ≡ false)
    → holds_of_voice ex (λ v. is_free ex v && o v) voice ≡ false → holds_of_voice ex (λ v. is_free ex v && o' v) voice
    ≡ false
fails_on ex o o' None f h = refl
fails_on ex o o' (Some v) f h = both_fail (nat_lt v ex.voices) (is_free ex v) (o v) (o' v) (f v) h

never_shorter : (ahead t : List (List Cell)) → nat_lt (length ahead) 7 ≡ false → nat_lt (length (ahead ++ t)) 7 ≡ false
never_shorter ahead t h =
    le-ltb (length (ahead ++ t)) 7 (omega (arith, ltb-false (length ahead) 7 h, length-append ahead t))

rule_stays : (b o o' : Bool) → (o ≡ false → o' ≡ false) → IsTrue (not (b && o)) → IsTrue (not (b && o'))
rule_stays true true o' f h = cc
rule_stays true false o' f h = ap not (f refl)
rule_stays false o o' f h = refl

-- what is enough stays enough when more columns come
pub rhythm_stays : (rule : ℕ) (ex : Exercise) (voices : ℕ) → EnoughStays (enough_after rule ex voices)
rhythm_stays rule ex voices i behind now ahead t h =
    rule_stays (rule == 3) (on_free_voice ex (λ v. is_open ex v i now ahead) voices)
    (on_free_voice ex (λ v. is_open ex v i now (ahead ++ t)) voices)
    (fails_on ex (λ v. is_open ex v i now ahead) (λ v. is_open ex v i now (ahead ++ t)) (voice_of voices)
    (λ v. closed_stays (begins_bar i) (nat_lt (length ahead) 7) (may_go_on ex v i now ahead)
    (nat_lt (length (ahead ++ t)) 7) (may_go_on ex v i now (ahead ++ t))
    (never_shorter ahead t) (stays ex v i now ahead t)))
    h

-- in a list of all columns each bar is whole
closed : (slot part goes : Bool) → (slot ≡ true → part ≡ false) → (slot && part && goes) ≡ false
closed false part goes f = refl
closed true part goes f = let e : part ≡ false = f refl in rw e refl

none_open : (ex : Exercise) (o : ℕ → Bool) (voice : Option ℕ) → ((v : ℕ) → o v ≡ false)
    → holds_of_voice ex (λ v. is_free ex v && o v) voice ≡ false
none_open ex o None h = refl
none_open ex o (Some v) h = fails (nat_lt v ex.voices) (is_free ex v) (o v) (h v)
  where
    fails : (a b c : Bool) → c ≡ false → (a && (b && c)) ≡ false
    fails true true c e = e
    fails true false c e = refl
    fails false b c e = refl

no_more : (b o : Bool) → o ≡ false → IsTrue (not (b && o))
no_more true o e = ap not e
no_more false o e = refl

-- at slot 0 of a list of whole bars, seven columns and more come after
seven_after : (s : List (List Cell)) (i bars : ℕ) → length s ≡ 8 * bars → i < length s → i % 8 ≡ 0
    → 7 ≤ length (drop (i + 1) s)
seven_after s i bars whole here slot = omega (arith, length-drop (i + 1) s)

pub rhythm_settles_at_end : (rule : ℕ) (ex : Exercise) (voices : ℕ)
    → SettlesAtEnd ex (rhythm_settles rule ex voices)
rhythm_settles_at_end rule ex voices s i whole here =
    and_from (nat_lt i (length s)) (reading_of (enough_after rule ex voices) s i) (test_from_below i (length s) here)
    (no_more (rule == 3) (reading_of (λ i behind now ahead. on_free_voice ex (λ v. is_open ex v i now ahead) voices) s
    i)
    (none_open ex _ (voice_of voices)
    (λ v. closed (begins_bar i) (nat_lt (length (drop (i + 1) s)) 7) _
    (λ e. le-ltb (length (drop (i + 1) s)) 7 (seven_after s i ex.bars whole here (eqb-true (slot_of i) 0 e))))))
