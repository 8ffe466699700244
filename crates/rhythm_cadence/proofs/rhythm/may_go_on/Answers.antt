use Rattle.std.proofs.Common.{◌≡◌, ◌+◌, ◌<◌, ◌==◌, min, Bool, true, false, length, take, refl, ap, ◌∙◌, arith}
use Rattle.std.specs.Prelude.{not}
use Rattle.rhythm_cadence.specs.Parts.{shapes_after, shapes_begun}
use Rattle.rhythm_cadence.proofs.PartLemmas.{none_left-of_score, set-longer}
use Rattle.rhythm_cadence.proofs.rhythm.may_go_on.Goals as goal

pub loop-j-preserved : goal.loop-j-preserved
loop-j-preserved c = λ past.
    let ex = c.args.ex.now in
    set-longer ex c.args.score.now.columns c.args.v c.args.i c.loop-j.j c.loop-j.possible c.kept-possible.result
    c.loop-j.auto.j (omega (arith, c.loop-j-test.true, c.min-end.ensures, c.len.ensures.value)) c.requires.bar
    c.loop-j.invariant
    (c.kept-possible.ensures ∙ ap (shapes_after ex c.args.v c.loop-j.j c.loop-j.possible) c.cell.ensures)

pub returns : goal.returns
returns c =
    let ex = c.args.ex.now in
    let s = c.args.score.now.columns in
    let i = c.args.i in
    let end : c.min-end.result ≡ min (length s) (i + 8) = c.min-end.ensures ∙ ap (λ n. min n (i + 8)) c.len.ensures.value in
    let some : i < c.min-end.result = omega (arith, end, c.requires.place) in
    let last : c.loop-j.j ≡ c.min-end.result =
    omega (arith, c.loop-j-test.false, c.loop-j.auto.j-end (omega (arith, some))) in
    let all : c.loop-j.possible ≡ shapes_begun ex c.args.v (take c.min-end.result s) =
    c.loop-j.invariant (omega (arith, last, some)) ∙ ap (λ n. shapes_begun ex c.args.v (take n s)) last in
    ap not (ap (λ n. n == 0) all
    ∙ none_left-of_score ex s c.args.v i c.min-end.result c.requires.bar end c.requires.place)
    ∙ twice _
  where
    twice : (b : Bool) → not (not b) ≡ b
    twice true = refl
    twice false = refl
