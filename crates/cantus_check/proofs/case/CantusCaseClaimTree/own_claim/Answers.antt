use Rattle.std.proofs.Common.{if◌then◌else◌, reverse, refl, ap, sym, ◌∙◌}
use Rattle.std.specs.Option.{option_map_or}
use Rattle.cert_text.specs.declared.claim.Claim.TheVariants.{Open, Broken, Floor, TheScore}
use Rattle.rule_law.specs.Voices.{has_rule}
use Rattle.cantus_space.specs.Broken.{rules_claimed}
use Rattle.cantus_space.specs.Rules.{floor_of}
use Rattle.cantus_check.specs.Claims.{has_break_of}
use Rattle.cantus_check.specs.Writer.{is_no_better, least_break}
use Rattle.cantus_check.proofs.Tellings.{cantus_test, find-same, first_is, no_better_test}
use Rattle.cantus_check.proofs.case.CantusCaseClaimTree.own_claim.Goals as goal

pub returns-then-is_cantus : goal.returns-then-is_cantus
returns-then-is_cantus c = λ ps judged.
    let it = c.args.self.now in
    let better = is_no_better it.head.best ps (floor_of it.space (reverse ps)) in
    let rule = least_break it.space ps in
    ap (λ b. if b then TheScore else option_map_or Broken rule (if better then Floor else Open)) (sym c.if-is_cantus.true)
    ∙ first_is it.space it.head.best ps c.is_cantus.result better rule
    (cantus_test it.head.best ps c.is_cantus.result (c.is_cantus.ensures ps judged)) refl refl

pub returns-in-Some : goal.returns-in-Some
returns-in-Some c = λ ps judged.
    let it = c.args.self.now in
    let better = is_no_better it.head.best ps (floor_of it.space (reverse ps)) in
    let unbroken = if better then Floor else Open in
    ap (λ o. option_map_or Broken o unbroken) (sym c.in-Some.is)
    ∙ ap (λ b. if b then TheScore else option_map_or Broken c.least_rule.result unbroken) (sym c.if-is_cantus.false)
    ∙ first_is it.space it.head.best ps c.is_cantus.result better c.least_rule.result
    (cantus_test it.head.best ps c.is_cantus.result (c.is_cantus.ensures ps judged))
    (c.least_rule.ensures
    ∙ find-same (has_rule c.args.known.now.broken.bits) (has_break_of it.space ps) judged.broken rules_claimed) refl

pub returns-then-is_no_better : goal.returns-then-is_no_better
returns-then-is_no_better c = λ ps judged.
    let it = c.args.self.now in
    let floor = floor_of it.space (reverse ps) in
    ap (λ b. if b then Floor else Open) (sym c.if-is_no_better.true)
    ∙ ap (λ o. option_map_or Broken o (if c.is_no_better.result then Floor else Open)) (sym c.in_default.is)
    ∙ ap (λ b. if b then TheScore
    else option_map_or Broken c.least_rule.result (if c.is_no_better.result then Floor else Open)) (sym c.if-is_cantus.false)
    ∙ first_is it.space it.head.best ps c.is_cantus.result c.is_no_better.result c.least_rule.result
    (cantus_test it.head.best ps c.is_cantus.result (c.is_cantus.ensures ps judged))
    (c.least_rule.ensures
    ∙ find-same (has_rule c.args.known.now.broken.bits) (has_break_of it.space ps) judged.broken rules_claimed)
    (no_better_test it.head.best ps floor c.is_no_better.result (c.is_no_better.ensures ps judged))

pub returns-else-is_no_better : goal.returns-else-is_no_better
returns-else-is_no_better c = λ ps judged.
    let it = c.args.self.now in
    let floor = floor_of it.space (reverse ps) in
    ap (λ b. if b then Floor else Open) (sym c.if-is_no_better.false)
    ∙ ap (λ o. option_map_or Broken o (if c.is_no_better.result then Floor else Open)) (sym c.in_default.is)
    ∙ ap (λ b. if b then TheScore
    else option_map_or Broken c.least_rule.result (if c.is_no_better.result then Floor else Open)) (sym c.if-is_cantus.false)
    ∙ first_is it.space it.head.best ps c.is_cantus.result c.is_no_better.result c.least_rule.result
    (cantus_test it.head.best ps c.is_cantus.result (c.is_cantus.ensures ps judged))
    (c.least_rule.ensures
    ∙ find-same (has_rule c.args.known.now.broken.bits) (has_break_of it.space ps) judged.broken rules_claimed)
    (no_better_test it.head.best ps floor c.is_no_better.result (c.is_no_better.ensures ps judged))
