use Rattle.std.proofs.Common.{◌≡◌, ◌+◌, ℕ, ap, sym, ◌∙◌, add-one, length, arith}
use Rattle.rule_law.specs.Growth.{sum_below}
use Rattle.fux_judge.specs.Penalties.{new_toll}
use Rattle.fux_judge.specs.Rules.{toll_at}
use Rattle.fux_judge.proofs.LateLemmas.{count_is, first_is, is_among}
use Rattle.fux_judge.proofs.late_tolls.charges_of.Goals as goal

pub loop-k-preserved : goal.loop-k-preserved
loop-k-preserved c = record {
  value = λ p col come.
      let ex = c.args.ex.now in
      let toll = c.args.toll in
      let first = c.places_of-places.result.first in
      let count = c.places_of-places.result.count in
      let f = c.places_of-places.ensures.first in
      let n = c.places_of-places.ensures.count in
      let charge : ℕ → ℕ = λ i. new_toll ex c.args.sheet.now p col i toll in
      let of : ℕ → ℕ = λ k. charge ((toll_at toll).first ex (length p) + k) in
      let start = first_is (toll_at toll).first (toll_at toll).count ex c.args.next.now p col come first count f n in
      let here : c.charge_at-charge.result ≡ of c.loop-k.k =
      c.charge_at-charge.ensures.value p col come
      (is_among (toll_at toll).first (toll_at toll).count ex c.args.next.now p col come first count f n c.loop-k.k
      (omega (arith, c.loop-k-test.true)))
      ∙ ap (λ x. charge (x + c.loop-k.k)) start in
      ap (λ s. s + c.charge_at-charge.result) (c.loop-k.invariant.value p col come)
      ∙ ap (λ x. sum_below of c.loop-k.k + x) here
      ∙ sym (ap (sum_below of) (add-one c.loop-k.k));
  small = omega (arith, c.charge_at-charge.ensures.bound);
}

pub returns-clause-value : goal.returns-clause-value
returns-clause-value c = λ p col come.
    let ex = c.args.ex.now in
    let toll = c.args.toll in
    let n = count_is (toll_at toll).first (toll_at toll).count ex c.args.next.now p col come
    c.places_of-places.result.first c.places_of-places.result.count c.places_of-places.ensures.first
    c.places_of-places.ensures.count in
    let end : c.loop-k.k ≡ (toll_at toll).count ex (length p) = omega (arith, n, c.loop-k-test.false) in
    c.loop-k.invariant.value p col come
    ∙ ap (sum_below (λ k. new_toll ex c.args.sheet.now p col ((toll_at toll).first ex (length p) + k) toll)) end
