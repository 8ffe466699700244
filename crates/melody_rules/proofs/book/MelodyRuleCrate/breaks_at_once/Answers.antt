use Rattle.std.proofs.Common.{Bool, reverse, ap, sym, ◌∙◌}
use Rattle.std.proofs.lemmas.Bool.{cond-true}
use Rattle.rule_law.specs.Nearby.{whole_of}
use Rattle.rule_law.specs.Places.{Row}
use Rattle.melody_rules.specs.Rows.{looks_back, near_rows, window_rows}
use Rattle.melody_rules.proofs.book.MelodyRuleCrate.breaks_at_once.Goals as goal

pub returns-then-looks_back : goal.returns-then-looks_back
returns-then-looks_back c = λ soon p ahead long are before latest.
    let ex = c.args.ex.now in
    let rule = c.args.rule in
    c.breaks_looking_back.ensures c.args.i (reverse p) ahead are
    ∙ sym (ap (λ (row : Row Bool). row c.args.i (reverse p) c.args.now.now ahead)
    (cond-true (looks_back rule) (window_rows rule ex c.args.voices.bits)
    (whole_of (near_rows rule ex c.args.voices.bits)) (sym c.if-looks_back.ensures)))
