use Rattle.std.proofs.Common.{◌≡◌, ◌<◌, ◌+◌, ◌≤◌, true, false, length, refl, ap, sym, ◌∙◌, arith, inl, inr}
use Rattle.std.specs.Prelude.{nat_lt, slice_index, slice_set, if◌then◌else◌}
use Rattle.std.proofs.lemmas.Bool.{cases_eq, cases_lt}
use Rattle.std.proofs.lemmas.Bool.Decides.{nat_tests}
use Rattle.std.proofs.lemmas.List.{get_or-set_other, get_or-set_same, length-set}
use Rattle.cantus_space.specs.Ahead.{starts_ahead-none}
use Rattle.cantus_space.specs.Rules.{starts_ahead}
use Rattle.cantus_space.proofs.AheadLemmas.{nothing_kept}
use Rattle.cantus_space.proofs.ahead.starts_ahead.Goals as goal

pub loop-count-init : goal.loop-count-init
loop-count-init c = record {
  size = refl;
  filled = λ n.
      let none : nat_lt n 0 ≡ false = grind (arith, nat_tests) in
      nothing_kept n ∙ sym (ap (λ b. if b then starts_ahead c.args.plan.now n else 0) none);
}

pub loop-count-preserved : goal.loop-count-preserved
loop-count-preserved c =
    let plan = c.args.plan.now in
    let at = c.loop-count.count in
    let within : at < length c.loop-count.ahead =
    omega (arith, c.loop-count.invariant.size, c.loop-count-test.true, c.requires.most_bars) in
    record {
      size = length-set c.loop-count.ahead at c.count_ahead.result ∙ c.loop-count.invariant.size;
      filled = λ n. elim (cases_eq n at) [
        | inl same ↦ (let now : nat_lt n (at + 1) ≡ true = grind (arith, nat_tests, same) in
            ap (slice_index (slice_set c.loop-count.ahead at c.count_ahead.result)) same
            ∙ get_or-set_same c.loop-count.ahead at c.count_ahead.result 0 within ∙ c.count_ahead.ensures.value
            ∙ ap (starts_ahead plan) (sym same) ∙ sym (ap (λ b. if b then starts_ahead plan n else 0) now))
        | inr apart ↦ (let after : nat_lt n (at + 1) ≡ nat_lt n at = grind (arith, nat_tests, apart) in
            get_or-set_other c.loop-count.ahead at n c.count_ahead.result 0 apart ∙ c.loop-count.invariant.filled n
            ∙ sym (ap (λ b. if b then starts_ahead plan n else 0) after))
      ];
    }

pub returns : goal.returns
returns c = λ count few.
    let plan = c.args.plan.now in
    elim (cases_lt count c.loop-count.count) [
      | inl within ↦ (let now : nat_lt count c.loop-count.count ≡ true = grind (arith, nat_tests, within) in
          c.loop-count.invariant.filled count ∙ ap (λ b. if b then starts_ahead plan count else 0) now)
      | inr beyond ↦ (let over : nat_lt count c.loop-count.count ≡ false = grind (arith, nat_tests, beyond) in
          let whole : plan.bars ≤ count = omega (arith, beyond, c.loop-count-test.false) in
          c.loop-count.invariant.filled count ∙ ap (λ b. if b then starts_ahead plan count else 0) over
          ∙ sym (starts_ahead-none plan count whole))
    ]
