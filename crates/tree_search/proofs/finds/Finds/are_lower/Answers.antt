use Rattle.std.proofs.Common.{◌≡◌, ◌≤◌, ℕ, Bool, true, false, nat_lt, length, refl, sym, arith}
use Rattle.std.specs.Bool.{OnFalse}
use Rattle.std.proofs.lemmas.Bool.Decides.{nat_tests}
use Rattle.tree_search.specs.Finds.{HasHigh, kept}
use Rattle.tree_search.proofs.finds.Finds.are_lower.Goals as goal

-- a test that fails
unless : (x floor : ℕ) (P : Type 0) → (floor ≤ x → P) → (b : Bool) → nat_lt x floor ≡ b → OnFalse b P
unless x floor P from true e = tt
unless x floor P from false e = from (grind (arith, nat_tests))

pub returns-in-Some-clause-not_lower : goal.returns-in-Some-clause-not_lower
returns-in-Some-clause-not_lower c =
    let top = c.in-Some.field-0.now in
    unless top.0 c.args.floor (length (kept c.args.self.now) ≡ c.args.self.now.most → HasHigh c.args.floor (kept c.args.self.now))
    (λ high full. record {
      leaf = top;
      here = (0, omega (arith, c.in-Some.ensures.variant.0 refl, c.args.self.now.leaves.data.ok.0), sym c.in-Some.ensures.lookup);
      high = high;
    })
    (nat_lt top.0 c.args.floor) refl
