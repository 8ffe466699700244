use Rattle.std.proofs.Common.{ℕ, Option, subst, sym, arith}
use Rattle.std.specs.Prelude.{IfSome, ◌≤◌, ◌^◌}
use Rattle.priced_paths.proofs.Pushes.{number-read, number-small}
use Rattle.priced_paths.proofs.guide.PricedGuide.number.Goals as goal

pub returns : goal.returns
returns g c =
    let self = c.args.self.now in
    let read = number-read self.numbers.now c.args.case c.args.node c.as_slice.result.now c.index-self-case.result
    (omega (arith, self.each, c.requires.case)) c.as_slice.ensures in
    let small = number-small _ c.args.node _ (self.small c.args.case c.requires.case) c.requires.node self.sound.few in
    let P : Option ℕ → Type 0 = λ o. IfSome o (λ own. own ≤ 2 ^ 55) in
    record { value = read; small = subst P (sym read) small }
