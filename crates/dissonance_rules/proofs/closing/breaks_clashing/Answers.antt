use Rattle.std.specs.Prelude.{◌≡◌, ◌+◌, ◌==◌, [], false, drop, slice_index_or}
use Rattle.std.proofs.Common.{ap, sym, ◌∙◌}
use Rattle.std.proofs.lemmas.Bool.{ne_eqb}
use Rattle.fux_grid.specs.Columns.{earlier}
use Rattle.rule_law.specs.Places.{reading_of}
use Rattle.dissonance_rules.specs.Clashes.{pair_rule}
use Rattle.dissonance_rules.proofs.Closings.{clashing-bad, mixed-unbroken, ways-of}
use Rattle.dissonance_rules.proofs.LateReadings.{first_way, second_way}
use Rattle.dissonance_rules.proofs.closing.breaks_clashing.Goals as goal

pub returns-then-rule-eq27 : goal.returns-then-rule-eq27
returns-then-rule-eq27 c = λ s first kept from clashing within.
    c.clash_unexcused.ensures s first kept from
    ∙ sym (ap (λ rule. reading_of (pair_rule rule c.args.ex.now) s c.args.i c.args.v c.args.w) c.if-rule-eq27.true)

pub returns-then-is_mixed : goal.returns-then-is_mixed
returns-then-is_mixed c = λ s first kept from clashing within.
    let ex = c.args.ex.now in
    let i = c.args.i in
    let other : (c.args.rule == 27) ≡ false = ne_eqb c.args.rule 27 c.if-rule-eq27.false in
    sym (ways-of ex i (earlier s i) (slice_index_or s i []) (drop (i + 1) s) c.args.v c.args.w c.args.rule c.requires.told
    other
    ∙ mixed-unbroken ex i (earlier s i) (slice_index_or s i []) (drop (i + 1) s) c.args.v c.args.w
    (sym c.is_mixed.ensures ∙ c.if-is_mixed.true))

pub returns-then-starts_badly : goal.returns-then-starts_badly
returns-then-starts_badly c = λ s first kept from clashing within.
    let ex = c.args.ex.now in
    let i = c.args.i in
    let other : (c.args.rule == 27) ≡ false = ne_eqb c.args.rule 27 c.if-rule-eq27.false in
    first_way _ _ _ _
    (ways-of ex i (earlier s i) (slice_index_or s i []) (drop (i + 1) s) c.args.v c.args.w c.args.rule c.requires.told
    other
    ∙ clashing-bad ex i (earlier s i) (slice_index_or s i []) (drop (i + 1) s) c.args.v c.args.w clashing within
    (sym c.is_mixed.ensures ∙ c.if-is_mixed.false))
    (c.starts_badly.ensures s first kept from) (c.if-starts_badly.ensures s first kept from)

pub returns-else-starts_badly : goal.returns-else-starts_badly
returns-else-starts_badly c = λ s first kept from clashing within.
    let ex = c.args.ex.now in
    let i = c.args.i in
    let other : (c.args.rule == 27) ≡ false = ne_eqb c.args.rule 27 c.if-rule-eq27.false in
    second_way _ _ _ _
    (ways-of ex i (earlier s i) (slice_index_or s i []) (drop (i + 1) s) c.args.v c.args.w c.args.rule c.requires.told
    other
    ∙ clashing-bad ex i (earlier s i) (slice_index_or s i []) (drop (i + 1) s) c.args.v c.args.w clashing within
    (sym c.is_mixed.ensures ∙ c.if-is_mixed.false))
    (c.starts_badly-else-starts_badly.ensures s first kept from) (c.if-starts_badly.ensures s first kept from)
