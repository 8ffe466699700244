use Rattle.std.specs.Prelude.{◌≡◌, ℕ, Bool, true, false, not, ◌||◌, List, Some, if◌then◌else◌, refl}
use Rattle.std.proofs.Common.{ap, sym, ◌∙◌}
use Rattle.fux_pitch.specs.declared.interval.Interval.{Interval}
use Rattle.fux_pitch.specs.declared.pitch.Pitch.{Pitch}
use Rattle.fux_pitch.specs.Size.{has_size, interval_between, is_consonant_size, is_consonant_within, is_imperfect_size, is_perfect_size, reduced}
use Rattle.fux_grid.specs.declared.cell.Cell.{Cell}
use Rattle.fux_grid.specs.Cells.{cell_in, pitch_of}
use Rattle.rule_law.specs.Terms.{clash, holds_of, interval_of_pitches, is_lowest}
use Rattle.rule_law.proofs.terms.is_clash.Goals as goal

clash-of : (col : List Cell) (v w : ℕ) (p q : Pitch) → pitch_of (cell_in col v) ≡ Some p
    → pitch_of (cell_in col w) ≡ Some q
    → clash col v w ≡ not (is_consonant_size (interval_between p q) (is_lowest col v || is_lowest col w))
clash-of col v w p q e f =
    let test : Interval → Bool = λ i. not (is_consonant_size i (is_lowest col v || is_lowest col w)) in
    ap (λ o. holds_of test (interval_of_pitches o (pitch_of (cell_in col w)))) e
    ∙ ap (λ o. holds_of test (interval_of_pitches (Some p) o)) f

always : (a b c l : Bool) → (a || b || false) ≡ true → (a || b || (if l then false else c)) ≡ true
always true true c true h = refl
always true true c false h = refl
always true false c true h = refl
always true false c false h = refl
always false true c true h = refl
always false true c false h = refl
always false false c l h = cc

never : (a b c l : Bool) → (a || b || c) ≡ false → (a || b || (if l then false else c)) ≡ false
never false false c true h = refl
never false false c false h = h
never true b c l h = cc
never false true c l h = cc

abbrev above_lowest : Interval → Bool
above_lowest i = has_size 3 5 (reduced i) || has_size 3 6 (reduced i) || has_size 4 6 (reduced i)

consonant_with : (i : Interval) (l : Bool) → is_consonant_size i true ≡ true → is_consonant_size i l ≡ true
consonant_with i l = always (is_perfect_size i) (is_imperfect_size i) (above_lowest i) l

dissonant_with : (i : Interval) (l : Bool) → is_consonant_size i false ≡ false → is_consonant_size i l ≡ false
dissonant_with i l = never (is_perfect_size i) (is_imperfect_size i) (above_lowest i) l

pub returns-then-is_consonant_within : goal.returns-then-is_consonant_within
returns-then-is_consonant_within c =
    let p = c.in-Some-Some.p in
    let q = c.in-Some-Some.q in
    let here : pitch_of (cell_in c.args.column.now c.args.v) ≡ Some p =
    sym (ap pitch_of c.cell_of.ensures) ∙ sym c.pitch.ensures ∙ c.in-Some-Some.is-0 in
    let there : pitch_of (cell_in c.args.column.now c.args.w) ≡ Some q =
    sym (ap pitch_of c.cell_of-2.ensures) ∙ sym c.pitch-2.ensures ∙ c.in-Some-Some.is-1 in
    let consonant : is_consonant_size (interval_between p q) true ≡ true =
    sym (ap (λ size. is_consonant_within size true) (c.reduce-size.ensures ∙ ap reduced c.interval_of.ensures.value))
    ∙ sym c.is_consonant_within.ensures ∙ c.if-is_consonant_within.true in
    sym (clash-of c.args.column.now c.args.v c.args.w p q here there
    ∙ ap not (consonant_with (interval_between p q) (is_lowest c.args.column.now c.args.v || is_lowest c.args.column.now c.args.w) consonant))

pub returns-then-not-is_consonant_within : goal.returns-then-not-is_consonant_within
returns-then-not-is_consonant_within c =
    let p = c.in-Some-Some.p in
    let q = c.in-Some-Some.q in
    let here : pitch_of (cell_in c.args.column.now c.args.v) ≡ Some p =
    sym (ap pitch_of c.cell_of.ensures) ∙ sym c.pitch.ensures ∙ c.in-Some-Some.is-0 in
    let there : pitch_of (cell_in c.args.column.now c.args.w) ≡ Some q =
    sym (ap pitch_of c.cell_of-2.ensures) ∙ sym c.pitch-2.ensures ∙ c.in-Some-Some.is-1 in
    let dissonant : is_consonant_size (interval_between p q) false ≡ false =
    sym (ap (λ size. is_consonant_within size false) (c.reduce-size.ensures ∙ ap reduced c.interval_of.ensures.value))
    ∙ sym c.is_consonant_within-2.ensures ∙ c.if-not-is_consonant_within.true in
    sym (clash-of c.args.column.now c.args.v c.args.w p q here there
    ∙ ap not (dissonant_with (interval_between p q) (is_lowest c.args.column.now c.args.v || is_lowest c.args.column.now c.args.w) dissonant))
