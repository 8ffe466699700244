use Rattle.std.proofs.Common.{ℕ, Option, subst, sym}
use Rattle.works.specs.Charged.{OfSetting, TellsWeighed}
use Rattle.works.proofs.ChargedLemmas.{tells_against, tells_weighing}
use Rattle.works.proofs.charging.weigh.Goals as goal

pub returns-in_default-against : goal.returns-in_default-against
returns-in_default-against g c =
    let ex = c.args.ex.now in
    let rules = c.args.rules.now in
    let P : Option ℕ → Type 0 = λ against. OfSetting ex (TellsWeighed against c.args.sheet.now rules) c.output_of.result in
    subst P (sym c.in_default-against.is) record {
      score = c.in-Some.score;
      given = c.in-Some.is;
      told = tells_weighing rules c.args.sheet.now c.in-Some.score c.in_ok-weighed.weighed c.output_of.result
          c.in_ok-weighed.ensures c.output_of.ensures;
    }

pub returns : goal.returns
returns g c =
    let ex = c.args.ex.now in
    let rules = c.args.rules.now in
    let output = c.in_ok-output_beside.field-0 in
    let P : Option ℕ → Type 0 = λ against. OfSetting ex (TellsWeighed against c.args.sheet.now rules) output in
    subst P (sym c.in-Some-against.is) record {
      score = c.in-Some.score;
      given = c.in-Some.is;
      told = tells_against rules c.args.sheet.now c.in-Some-against.budget c.in-Some.score c.in_ok-weighed.weighed
          c.in_ok-found.found output c.in_ok-weighed.ensures c.in_ok-found.ensures.0 c.in_ok-found.ensures.1
          c.in_ok-output_beside.ensures;
    }
