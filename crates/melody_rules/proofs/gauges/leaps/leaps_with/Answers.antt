use Rattle.std.proofs.Common.{◌≡◌, ◌≤◌, Some, ap, ◌∙◌, refl, arith}
use Rattle.std.specs.Int.{from_bool}
use Rattle.rule_law.specs.Terms.{holds_of, interval_of_pitches, is_leap}
use Rattle.rule_law.proofs.MenuStarts.{as_number-bound}
use Rattle.melody_rules.specs.Rows.{last_of}
use Rattle.melody_rules.proofs.GaugeLemmas.{leaps-bound}
use Rattle.melody_rules.proofs.gauges.leaps.leaps_with.Goals as goal

pub returns : goal.returns
returns c = λ ps few r.
    let leap : c.from.result ≡ from_bool (holds_of is_leap (interval_of_pitches (last_of ps) (Some c.args.pitch))) =
    c.from.ensures ∙ ap from_bool (c.is_leap_to.ensures
    ∙ ap (λ l. holds_of is_leap (interval_of_pitches l (Some c.args.pitch))) r.last) in
    let one : from_bool (holds_of is_leap (interval_of_pitches (last_of ps) (Some c.args.pitch))) ≤ 1 = as_number-bound
    (holds_of is_leap (interval_of_pitches (last_of ps) (Some c.args.pitch))) in
    record {
      last = refl;
      notes = omega (arith, c.saturating_add.ensures, r.notes, few);
      leaps = omega (arith, c.saturating_add-2.ensures, r.leaps, leap, one, leaps-bound ps, few);
    }
