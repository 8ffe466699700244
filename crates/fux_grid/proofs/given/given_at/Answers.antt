use Rattle.std.proofs.Common.{◌==◌, ◌&&◌, ◌∙◌, ap, sym, arith}
use Rattle.std.specs.List.{find}
use Rattle.fux_grid.specs.Exercises.{bar_of}
use Rattle.fux_grid.proofs.GivenLemmas.{given_at-none, given_at-some}
use Rattle.fux_grid.proofs.given.given_at.Goals as goal

pub returns-in-Some : goal.returns-in-Some
returns-in-Some c =
    let found = c.find_bar.ensures ∙ ap (λ lines. find (λ line. (line.voice == c.args.v)
    && (line.bar == bar_of c.args.i)) lines) c.as_slice.ensures in
    given_at-some c.args.ex.now c.args.i c.args.v c.in-Some.line c.index-line-i.result
    (sym found ∙ c.in-Some.is) (omega arith)

pub returns-in-None : goal.returns-in-None
returns-in-None c =
    let found = c.find_bar.ensures ∙ ap (λ lines. find (λ line. (line.voice == c.args.v)
    && (line.bar == bar_of c.args.i)) lines) c.as_slice.ensures in
    given_at-none c.args.ex.now c.args.i c.args.v (sym found ∙ c.in-None.is)
