use Rattle.std.proofs.Common.{rules, ◌≡◌, ℕ, ◌<◌, ◌+◌, ◌∷◌, ◌++◌, [], List, false, true, ap, sym, ◌∙◌, arith, length}
use Rattle.std.specs.Prelude.{◌-◌, ◌*◌, ◌||◌, drop, nat_lt, slice_index_or}
use Rattle.std.proofs.lemmas.Bool.{eqb-true, false_from_ne_true}
use Rattle.std.proofs.lemmas.List.{length-append}
use Rattle.fux_grid.specs.declared.cell.Cell.{Cell}
use Rattle.fux_grid.specs.declared.exercise.Exercise.{Exercise}
use Rattle.fux_grid.specs.Columns.{earlier}
use Rattle.fux_grid.specs.Exercises.{slot_of}
use Rattle.rule_law.specs.Around.{AreKeptFrom}
use Rattle.rule_law.specs.Rulebooks.{newly_breaks}
use Rattle.rule_law.specs.Terms.{clash}
use Rattle.rule_law.specs.declared.newest.NewestColumns.{NewestColumns}
use Rattle.dissonance_rules.specs.Book.{late_row}
use Rattle.dissonance_rules.specs.Clashes.{newly_passing}
use Rattle.dissonance_rules.specs.Starts.{closes_pair, is_told_at}
use Rattle.dissonance_rules.proofs.Closings.{closed-breaks, closes-is, kept-unbroken, unclashing}
use Rattle.dissonance_rules.proofs.LatePlaces.{broken_within}
use Rattle.dissonance_rules.proofs.LateReadings.{pair_found}
use Rattle.dissonance_rules.proofs.LatestNotes.{own_unbroken, pair_holds, unsettled_unbroken, untold_unsettled}
use Rattle.dissonance_rules.proofs.closing.breaks_two.Goals as goal

-- the last bar hasn't begun
unended : (ex : Exercise) (newest : NewestColumns) (p : List (List Cell)) (col : List Cell) (first : ℕ)
    → AreKeptFrom ex newest (p ++ col ∷ []) first → nat_lt (8 * (ex.bars - 1)) newest.len ≡ false
    → nat_lt (8 * (ex.bars - 1)) (length (p ++ col ∷ [])) ≡ false
unended ex newest p col first kept early = ap (nat_lt (8 * (ex.bars - 1))) (sym kept.newest.count) ∙ early

pub returns-then-newest-place : goal.returns-then-newest-place
returns-then-newest-place c = λ voices pair p col are kept on.
    let ex = c.args.ex.now in
    let i = c.args.place in
    let early = unended ex c.args.newest.now p col (i - 3) kept c.requires.early in
    sym (own_unbroken ex voices p col i on early
    (omega (arith, kept.newest.count, length-append p (col ∷ []), c.if-newest-place.true)) c.args.rule c.requires.told)

pub returns-then-not-one_tells : goal.returns-then-not-one_tells
returns-then-not-one_tells c = λ voices pair p col are kept on.
    let ex = c.args.ex.now in
    let i = c.args.place in
    let starts = c.args.part.now in
    let early = unended ex c.args.newest.now p col (i - 3) kept c.requires.early in
    let four : length starts ≡ 4 = search rules in
    sym (unsettled_unbroken ex voices p col i on early c.args.rule c.requires.told
    (untold_unsettled ex voices p col i on early starts are four c.requires.valid.most_voices
    (omega (arith, kept.newest.count, length-append p (col ∷ []), c.requires.place, c.if-newest-place.false))
    (pair_holds ex (λ v w. is_told_at starts i v || is_told_at starts i w) voices c.args.v c.args.w pair
    c.requires.second ∙ sym c.one_tells.ensures ∙ c.if-not-one_tells.true)))

pub returns-then-begins_bar : goal.returns-then-begins_bar
returns-then-begins_bar c = λ voices pair p col are kept on.
    let ex = c.args.ex.now in
    let i = c.args.place in
    sym (false_from_ne_true (newly_breaks (late_row c.args.rule) ex voices p col i)
    (λ h. broken_within c.args.rule ex voices p col i on c.requires.told h
    (eqb-true (slot_of i) 0 (sym c.begins_bar.ensures ∙ c.if-begins_bar.true))))

pub returns-then-not-is_clash : goal.returns-then-not-is_clash
returns-then-not-is_clash c = λ voices pair p col are kept on.
    let ex = c.args.ex.now in
    let i = c.args.place in
    let s : List (List Cell) = p ++ col ∷ [] in
    let cells : c.at-now.result.now ≡ slice_index_or s i [] = c.at-now.ensures s kept.newest (omega (arith, kept.near)) in
    let none : clash (slice_index_or s i []) c.args.v c.args.w ≡ false =
    sym (ap (λ cells. clash cells c.args.v c.args.w) cells) ∙ sym c.is_clash.ensures ∙ c.if-not-is_clash.true in
    kept-unbroken c.args.rule ex voices p col i
    (pair_found c.args.rule ex voices i c.args.v c.args.w (earlier s i) (slice_index_or s i []) (drop (i + 1) s) pair
    c.requires.second
    ∙ unclashing c.args.rule ex i (earlier s i) (slice_index_or s i []) (drop (i + 1) s) c.args.v c.args.w
    c.requires.told none)

pub returns-then-not-closes_pair : goal.returns-then-not-closes_pair
returns-then-not-closes_pair c = λ voices pair p col are kept on.
    let ex = c.args.ex.now in
    let i = c.args.place in
    let starts = c.args.part.now in
    let s : List (List Cell) = p ++ col ∷ [] in
    let early = unended ex c.args.newest.now p col (i - 3) kept c.requires.early in
    let four : length starts ≡ 4 = search rules in
    let within : i < length p = omega
    (arith, kept.newest.count, length-append p (col ∷ []), c.requires.place, c.if-newest-place.false) in
    let cells : c.at-now.result.now ≡ slice_index_or s i [] = c.at-now.ensures s kept.newest (omega (arith, kept.near)) in
    let clashing : clash (slice_index_or s i []) c.args.v c.args.w ≡ true =
    sym (ap (λ cells. clash cells c.args.v c.args.w) cells) ∙ sym c.is_clash.ensures ∙ c.if-not-is_clash.false in
    let none : newly_passing ex voices p col i ≡ false =
    closes-is ex voices p col i on early starts are four c.requires.valid.most_voices within c.args.v c.args.w pair
    c.requires.second clashing
    ∙ ap (λ len. closes_pair ex starts (slice_index_or s i []) i len c.args.v c.args.w) (sym kept.newest.count)
    ∙ ap (λ cells. closes_pair ex starts cells i c.args.newest.now.len c.args.v c.args.w) (sym cells)
    ∙ sym c.closes_pair.ensures ∙ c.if-not-closes_pair.true in
    sym (unsettled_unbroken ex voices p col i on early c.args.rule c.requires.told none)

pub returns : goal.returns
returns c = λ voices pair p col are kept on.
    let ex = c.args.ex.now in
    let i = c.args.place in
    let starts = c.args.part.now in
    let s : List (List Cell) = p ++ col ∷ [] in
    let early = unended ex c.args.newest.now p col (i - 3) kept c.requires.early in
    let four : length starts ≡ 4 = search rules in
    let within : i < length p = omega
    (arith, kept.newest.count, length-append p (col ∷ []), c.requires.place, c.if-newest-place.false) in
    let cells : c.at-now.result.now ≡ slice_index_or s i [] = c.at-now.ensures s kept.newest (omega (arith, kept.near)) in
    let clashing : clash (slice_index_or s i []) c.args.v c.args.w ≡ true =
    sym (ap (λ cells. clash cells c.args.v c.args.w) cells) ∙ sym c.is_clash.ensures ∙ c.if-not-is_clash.false in
    let closed : newly_passing ex voices p col i ≡ true =
    closes-is ex voices p col i on early starts are four c.requires.valid.most_voices within c.args.v c.args.w pair
    c.requires.second clashing
    ∙ ap (λ len. closes_pair ex starts (slice_index_or s i []) i len c.args.v c.args.w) (sym kept.newest.count)
    ∙ ap (λ cells. closes_pair ex starts cells i c.args.newest.now.len c.args.v c.args.w) (sym cells)
    ∙ sym c.closes_pair.ensures ∙ c.if-not-closes_pair.false in
    c.breaks_clashing.ensures s (i - 3) kept (omega arith) clashing (sym c.begins_bar.ensures ∙ c.if-begins_bar.false)
    ∙ sym (closed-breaks ex voices p col i on early starts are four c.requires.valid.most_voices within c.args.v
    c.args.w pair c.requires.second c.args.rule c.requires.told closed)
