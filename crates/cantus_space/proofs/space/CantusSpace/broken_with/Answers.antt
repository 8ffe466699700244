use Rattle.std.proofs.Common.{◌≡◌, ◌==◌, ◌+◌, ◌||◌, ◌&&◌, not, length, ap, ◌∙◌, subst}
use Rattle.std.specs.List.{list_any}
use Rattle.fux_pitch.specs.Modes.{is_in_gamut}
use Rattle.melody_rules.specs.Rows.{pitches}
use Rattle.rule_law.specs.Voices.{has_rule}
use Rattle.cantus_space.specs.declared.plan.CantusPlan.{CantusPlan}
use Rattle.cantus_space.specs.Broken.{breaks_rule, is_broken_by, rules_claimed}
use Rattle.cantus_space.specs.Nodes.{started}
use Rattle.cantus_space.specs.Rules.{breaks, rules}
use Rattle.cantus_space.proofs.NodeLemmas.{pitches-started}
use Rattle.cantus_space.proofs.RuleSets.{any-own, or-assoc}
use Rattle.cantus_space.proofs.space.CantusSpace.broken_with.Goals as goal

pub returns : goal.returns
returns c = λ behind known rule.
    let p = c.args.pitch in
    let h = has_rule c.args.broken.bits rule in
    let plan = c.self.inside.plan in
    let gamut = is_in_gamut plan.mode (length behind + 1) plan.bars p in
    let Says : CantusPlan → Type 0 = λ t. has_rule c.broken_after.result.bits rule ≡ (h || is_broken_by t behind p rule) in
    subst Says c.self.view_is
    (c.broken_after.ensures (started behind) known.kept.notes rule
    ∙ ap (λ b. b || list_any (λ read. breaks (pitches (started behind)) p read && rule == read) rules) (c.with.ensures rule)
    ∙ ap (λ ps. (h || (not c.in_gamut-outside.result && rule == 2)) || list_any (λ read. breaks ps p read && rule == read) rules)
    (pitches-started behind)
    ∙ ap (λ b. (h || (not b && rule == 2)) || list_any (λ read. breaks behind p read && rule == read) rules)
    (c.in_gamut-outside.ensures ∙ ap (λ n. is_in_gamut plan.mode (n + 1) plan.bars p) known.kept.count)
    ∙ or-assoc h (not gamut && rule == 2) (list_any (λ read. breaks behind p read && rule == read) rules)
    ∙ ap (λ b. h || b) (any-own (breaks_rule plan behind p) rule rules_claimed))
