use Rattle.std.proofs.Common.{rules, ◌≡◌, ◌≤◌, ◌+◌, ◌∷◌, ◌++◌, [], ℕ, false, ap, sym, ◌∙◌, subst, inl, inr, arith, length}
use Rattle.std.specs.Prelude.{◌-◌, ◌*◌, nat_lt}
use Rattle.std.proofs.lemmas.Bool.{both_ways, cases_lt, ne_eqb}
use Rattle.std.proofs.lemmas.List.{get_or_push, length-append}
use Rattle.fux_grid.specs.Exercises.{slot_of}
use Rattle.rule_law.specs.Bars.{begins_bar}
use Rattle.rule_law.specs.Quiet.{is_quiet}
use Rattle.rule_law.specs.Rulebooks.{newly_breaks}
use Rattle.dissonance_rules.specs.Book.{late_count, late_first, late_row}
use Rattle.dissonance_rules.specs.Starts.{IsTelling}
use Rattle.dissonance_rules.proofs.BookLaws.{late_whole, late_within}
use Rattle.dissonance_rules.proofs.LatePlaces.{broken_within, quiet_settles}
use Rattle.dissonance_rules.proofs.LatestNotes.{own_unbroken, some_telling}
use Rattle.dissonance_rules.proofs.told.passing_left.Goals as goal

pub returns-then-places-eq0-clause-left : goal.returns-then-places-eq0-clause-left
returns-then-places-eq0-clause-left c = λ p col are newest on voices i among h.
    let ex = c.args.ex.now in
    let last : c.args.newest.now.len - 1 ≡ length p = omega (arith, newest.count, length-append p (col ∷ [])) in
    let counts : c.passing_places-places.result.count ≡ late_count c.args.rule ex (length p) = c.passing_places-places.ensures.count c.requires.told
    ∙ ap (late_count c.args.rule ex) last in
    absurd (omega (arith, among.from, among.to, counts, c.if-places-eq0.true))

pub returns-then-not-reaches_last_bar-clause-to : goal.returns-then-not-reaches_last_bar-clause-to
returns-then-not-reaches_last_bar-clause-to c =
    let counts = c.passing_places-places.ensures.count c.requires.told in
    let whole = late_whole c.args.rule c.args.ex.now (c.args.newest.now.len - 1) c.requires.told
    (omega (arith, counts, c.if-places-eq0.false)) in
    omega (arith, whole, c.told_places.ensures.to)

pub returns-then-not-reaches_last_bar-clause-left : goal.returns-then-not-reaches_last_bar-clause-left
returns-then-not-reaches_last_bar-clause-left c = λ p col are newest on voices i among h.
    let ex = c.args.ex.now in
    let kept = c.args.voices.now in
    let size : c.args.newest.now.len ≡ length p + 1 = newest.count ∙ length-append p (col ∷ []) in
    let last : c.args.newest.now.len - 1 ≡ length p = omega (arith, size) in
    let starts : c.passing_places-places.result.first ≡ late_first c.args.rule ex (length p) =
    c.passing_places-places.ensures.first c.requires.told ∙ ap (late_first c.args.rule ex) last in
    let early : nat_lt (8 * (ex.bars - 1)) (length (p ++ col ∷ [])) ≡ false =
    ap (nat_lt (8 * (ex.bars - 1))) (sym newest.count)
    ∙ sym c.reaches_last_bar.ensures ∙ c.if-not-reaches_last_bar.true in
    let four : length kept ≡ 4 = search rules in
    let reached : i ≤ length p = omega (arith, among.to, late_within ex c.args.rule (length p)) in
    elim (cases_lt i (length p)) [
      | inl within ↦
          let teller = some_telling ex voices p col i on early kept are four c.requires.valid.most_voices within
          c.args.rule c.requires.told h in
          let P : ℕ → Type 0 = λ k. IsTelling ex kept k i teller.0 in
          let inner : begins_bar i ≡ false = ne_eqb (slot_of i) 0
          (broken_within c.args.rule ex voices p col i on c.requires.told h) in
          c.told_places.ensures.told teller.0 i (subst P (sym last) teller.1) (omega (arith, among.from, starts))
          (omega (arith, within, last)) inner
      | inr past ↦
          let own : i ≡ length p = omega (arith, past, reached) in
          absurd (both_ways (newly_breaks (late_row c.args.rule) ex voices p col i)
          (own_unbroken ex voices p col i on early own c.args.rule c.requires.told) h)
    ]

pub returns-then-is_quiet-clause-left : goal.returns-then-is_quiet-clause-left
returns-then-is_quiet-clause-left c = λ p col are newest on voices i among h.
    let size : c.args.newest.now.len ≡ length p + 1 = newest.count ∙ length-append p (col ∷ []) in
    let last : c.args.newest.now.len - 1 ≡ length p = omega (arith, size) in
    let cells : c.at.result.now ≡ col = c.at.ensures (p ++ col ∷ []) newest (omega (arith, size, newest.count))
    ∙ get_or_push p col [] (c.args.newest.now.len - 1) (sym last) in
    absurd (quiet_settles c.args.rule c.args.ex.now voices p col i on c.requires.told h
    (sym (ap (λ k. is_quiet k col) last) ∙ sym (ap (is_quiet (c.args.newest.now.len - 1)) cells)
    ∙ sym c.is_quiet.ensures ∙ c.if-is_quiet.true))

pub returns-clause-left : goal.returns-clause-left
returns-clause-left c = λ p col are newest on voices i among h.
    let ex = c.args.ex.now in
    let size : c.args.newest.now.len ≡ length p + 1 = newest.count ∙ length-append p (col ∷ []) in
    let last : c.args.newest.now.len - 1 ≡ length p = omega (arith, size) in
    let starts : c.passing_places-places.result.first ≡ late_first c.args.rule ex (length p) =
    c.passing_places-places.ensures.first c.requires.told ∙ ap (late_first c.args.rule ex) last in
    let counts : c.passing_places-places.result.count ≡ late_count c.args.rule ex (length p) = c.passing_places-places.ensures.count c.requires.told
    ∙ ap (late_count c.args.rule ex) last in
    record { from = omega (arith, among.from, starts); to = omega (arith, among.to, starts, counts) }
