use Rattle.std.proofs.Common.{◌≡◌, ◌+◌, ◌∷◌, ◌++◌, [], ap, ◌∙◌, true, arith, length}
use Rattle.std.specs.Prelude.{◌-◌, slice_index_or}
use Rattle.std.proofs.lemmas.Bool.{both_ways}
use Rattle.std.proofs.lemmas.List.{length-append}
use Rattle.dissonance_rules.specs.Book.{late_count, late_first}
use Rattle.dissonance_rules.specs.Ligatures.{some_free_hold}
use Rattle.dissonance_rules.proofs.BookLaws.{late_within}
use Rattle.dissonance_rules.proofs.HeldLaws.{breaks-held}
use Rattle.dissonance_rules.proofs.held.held_left.Goals as goal

pub returns-then-places-eq0-clause-left : goal.returns-then-places-eq0-clause-left
returns-then-places-eq0-clause-left c = λ p col newest on voices i among h.
    let ex = c.args.ex.now in
    let last : c.args.newest.now.len - 1 ≡ length p = omega (arith, newest.count, length-append p (col ∷ [])) in
    let counts : c.suspension_places-places.result.count ≡ late_count c.args.rule ex (length p) =
    c.suspension_places-places.ensures.count c.requires.other ∙ ap (late_count c.args.rule ex) last in
    absurd (omega (arith, among.from, among.to, counts, c.if-places-eq0.true))

pub returns-then-some_free_hold-clause-left : goal.returns-then-some_free_hold-clause-left
returns-then-some_free_hold-clause-left c = λ p col newest on voices i among h.
    let ex = c.args.ex.now in
    let last : c.args.newest.now.len - 1 ≡ length p = omega (arith, newest.count, length-append p (col ∷ [])) in
    let starts : c.suspension_places-places.result.first ≡ late_first c.args.rule ex (length p) =
    c.suspension_places-places.ensures.first c.requires.other ∙ ap (late_first c.args.rule ex) last in
    let counts : c.suspension_places-places.result.count ≡ late_count c.args.rule ex (length p) =
    c.suspension_places-places.ensures.count c.requires.other ∙ ap (late_count c.args.rule ex) last in
    record { from = omega (arith, among.from, starts); to = omega (arith, among.to, starts, counts) }

pub returns-clause-left : goal.returns-clause-left
returns-clause-left c = λ p col newest on voices i among h.
    let ex = c.args.ex.now in
    let first = c.suspension_places-places.result.first in
    let size : c.args.newest.now.len ≡ length p + 1 = newest.count ∙ length-append p (col ∷ []) in
    let last : c.args.newest.now.len - 1 ≡ length p = omega (arith, size) in
    let starts : first ≡ late_first c.args.rule ex (length p) =
    c.suspension_places-places.ensures.first c.requires.other ∙ ap (late_first c.args.rule ex) last in
    let counts : c.suspension_places-places.result.count ≡ late_count c.args.rule ex (length p) =
    c.suspension_places-places.ensures.count c.requires.other ∙ ap (late_count c.args.rule ex) last in
    let place : first ≡ i = omega
    (arith, among.from, among.to, starts, counts, c.suspension_places-places.ensures.few) in
    let cells : c.at.result.now ≡ slice_index_or (p ++ col ∷ []) first [] =
    c.at.ensures (p ++ col ∷ []) newest (omega (arith, size, newest.count, c.suspension_places-places.ensures.near)) in
    let held : some_free_hold ex (slice_index_or (p ++ col ∷ []) i []) ≡ true =
    breaks-held c.args.rule ex voices p col i on c.requires.valid.most_voices
    (omega (arith, among.to, late_within ex c.args.rule (length p), length-append p (col ∷ []))) c.requires.other h in
    absurd (both_ways c.some_free_hold.result c.if-some_free_hold.false
    (c.some_free_hold.ensures ∙ ap (some_free_hold ex) cells
    ∙ ap (λ k. some_free_hold ex (slice_index_or (p ++ col ∷ []) k [])) place ∙ held))
