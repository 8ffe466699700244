use Rattle.std.proofs.Common.{◌≡◌, ◌-◌, [], ◌∷◌, ◌++◌, map, subst, sym, ap, ◌∙◌, append_assoc, append-nil, arith}
use Rattle.std.proofs.lemmas.List.Elements.{All-nil}
use Rattle.fux_pitch.specs.Pitch.{degree_of}
use Rattle.drill_exercise.specs.Drill.{AreNaturals, drill_degrees, walk}
use Rattle.drill_exercise.proofs.WalkLemmas.{walk-end, walked}
use Rattle.drill_exercise.proofs.cantus.cantus.Goals as goal

pub loop-init : goal.loop-init
loop-init c =
    let empty = c.in_ok-line.ensures.items in (
      omega arith,
      omega arith,
      ap (λ ds. ds ++ walk 21 c.args.n 29) (c.in_ok-put.ensures.degrees ∙ ap (λ ps. map degree_of ps ++ 29 ∷ []) empty),
      c.in_ok-put.ensures.naturals (subst AreNaturals (sym empty) (All-nil _)),
    )

pub loop-preserved : goal.loop-preserved
loop-preserved c =
    let (low, high, so_far, naturals) = c.loop.invariant in (
      c.moved-degree.ensures.low,
      c.moved-degree.ensures.high,
      walked (map degree_of c.loop.line.items)
          (map degree_of c.put-in-loop.new.line.items) 23 c.loop.counter c.loop.x c.next_number-x.result c.loop.degree
          c.moved-degree.result
          (29 ∷ walk 21 c.args.n 29) c.loop-test.true c.in_ok-put-2.ensures.degrees c.next_number-x.ensures.value
          c.moved-degree.ensures.value so_far,
      c.in_ok-put-2.ensures.naturals naturals,
    )

pub returns-clause-degrees : goal.returns-clause-degrees
unfolding drill_degrees
returns-clause-degrees c =
    let (low, high, so_far, naturals) = c.loop.invariant in
    let left : 23 - c.loop.counter ≡ 0 = omega arith in
    let line : map degree_of c.loop.line.items ≡ 29 ∷ walk 21 c.args.n 29 =
    sym (append-nil (map degree_of c.loop.line.items))
    ∙ ap (λ t. map degree_of c.loop.line.items ++ t)
    (sym (walk-end (23 - c.loop.counter) c.loop.x c.loop.degree left)) ∙ so_far in
    c.in_ok-put-4.ensures.degrees ∙ ap (λ t. t ++ 29 ∷ []) (c.in_ok-put-3.ensures.degrees ∙ ap (λ t. t ++ 30 ∷ []) line)
    ∙ append_assoc (29 ∷ walk 21 c.args.n 29) (30 ∷ []) (29 ∷ [])

pub returns-clause-naturals : goal.returns-clause-naturals
returns-clause-naturals c = c.in_ok-put-4.ensures.naturals (c.in_ok-put-3.ensures.naturals c.loop.invariant.3)
