use Rattle.std.proofs.Common.{◌||◌, ◌∷◌, [], ap, sym, ◌∙◌, arith}
use Rattle.std.proofs.lemmas.List.{length-append}
use Rattle.cert_law.specs.Claims.{has_break_of}
use Rattle.cert_law.proofs.BreakLemmas.{breaks-push}
use Rattle.rule_law.specs.Voices.{has_rule}
use Rattle.cert_law.proofs.judged.Judged.after.Goals as goal

pub returns : goal.returns
returns c = λ p judged on.
    let ex = c.args.case.now.exercise.now in
    let col = c.args.column.now.items in
    let state = c.step-verdict.ensures.state p judged.state in
    record {
      prefix = on.longer;
      state = state;
      broken = λ r.
          c.joined.ensures r ∙ ap (λ b. b || has_rule c.step-verdict.result.broken.bits r) (judged.broken r)
          ∙ ap (λ b. has_break_of ex p r || b) (c.step-verdict.ensures.broken p judged.state on r)
          ∙ sym (breaks-push ex p col r);
      paid = omega (arith, judged.paid, c.step-verdict.ensures.paid p judged.state on);
      least = c.step-verdict.ensures.least p judged.state on.longer;
      low = c.step-verdict.ensures.least_bound;
      small = omega (
        arith,
        c.requires.small,
        c.step-verdict.ensures.bound,
        state.newest.count,
        judged.state.newest.count,
        length-append p (col ∷ []),
      );
      order = c.order_after.ensures p judged;
    }
