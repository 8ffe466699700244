use Rattle.std.proofs.Common.{◌≡◌, ◌==◌, List, [], ◌∷◌, ap, sym, ◌∙◌, refl, subst, arith}
use Rattle.std.proofs.lemmas.Nat.Bits.{bit_at-zero}
use Rattle.std.specs.declared.cmp.Ordering.TheVariants.{Equal}
use Rattle.cert_text.specs.declared.answers.CertHead.{CertHead}
use Rattle.cert_text.specs.declared.answers.CertHead.TheVariants.{Best, Nothing}
use Rattle.cert_law.specs.Writer.{columns_order}
use Rattle.cert_law.specs.Prefixes.{order_with}
use Rattle.cert_law.proofs.BreakLemmas.{breaks-none}
use Rattle.fux_grid.specs.declared.cell.Cell.{Cell}
use Rattle.fux_grid.specs.declared.exercise.Exercise.{Exercise}
use Rattle.fux_judge.specs.Gauges.{least_of}
use Rattle.fux_judge.specs.States.{IsStateOf}
use Rattle.cert_law.proofs.judged.Judged.start.Goals as goal

start_order : (head : CertHead) → Equal ≡ order_with head []
start_order Nothing = refl
start_order (Best penalty score) = none score.columns
  where
    none : (s : List (List Cell)) → Equal ≡ columns_order s []
    none [] = refl
    none (c ∷ s) = refl

pub returns : goal.returns
returns c = λ t same sheets. record {
  prefix = record { few = omega arith; menus = λ i h. absurd (omega (arith, h)); follows = tt };
  state = subst (λ (ex : Exercise). IsStateOf ex [] c.start-state.result) (sym same) c.start-state.ensures;
  broken = λ r. ap (λ n. n == 1) (bit_at-zero r) ∙ sym (breaks-none t.exercise r);
  paid = refl;
  least =
      c.least.ensures.value [] c.start-state.ensures record
      { few = omega arith; menus = λ i h. absurd (omega (arith, h)); follows = tt }
      ∙ ap (λ ex. least_of ex c.args.sheet.now []) (sym same) ∙ ap (λ sheet. least_of t.exercise sheet []) (sym sheets);
  low = c.least.ensures.bound;
  small = omega arith;
  order = start_order t.head;
}
