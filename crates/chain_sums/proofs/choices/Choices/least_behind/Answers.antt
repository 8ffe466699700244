use Rattle.std.proofs.Common.{◌≡◌, ℕ, List, [], Some, None, length, get_or, arith}
use Rattle.std.proofs.lemmas.List.{get_or_default}
use Rattle.fux_grid.specs.declared.cell.Cell.{Cell}
use Rattle.chain_sums.specs.declared.candidates.Candidate.{Candidate}
use Rattle.chain_sums.specs.Sums.{sum_behind}
use Rattle.chain_sums.proofs.CandidateLemmas.{later_no_less, tried_are_enough, tried_more}
use Rattle.chain_sums.proofs.ChoiceLemmas.{sum_behind_is}
use Rattle.chain_sums.proofs.LeastLemmas.{row_is_enough}
use Rattle.chain_sums.proofs.choices.Choices.least_behind.Goals as goal

pub loop-candidate-preserved : goal.loop-candidate-preserved
loop-candidate-preserved g c =
    let chains = g.L.Links.chains c.args.links.now in
    let its = c.args.self.now in
    let before = Some c.args.prev.now.items in
    let at : ℕ = c.loop-candidate.candidate-index in
    let none : Candidate = record { bound = 0; number = 0; own = 0 } in
    let here : Candidate = get_or its.candidates.now at none in
    let d : List Cell = get_or (chains.menu c.args.i) here.number [] in
    let rest = get_or its.sums.now here.number None in
    record {
      least = rw c.lesser_with-least.ensures.value
          (tried_more chains c.args.i before its.sums.now its.candidates.now at here c.loop-candidate.least
          (sum_behind chains c.args.i before d rest) c.loop-candidate-test.true
          (get_or_default its.candidates.now at none here c.loop-candidate-test.true) c.loop-candidate.invariant.least
          (sum_behind_is chains c.args.i before d rest));
      bound = λ most h. c.lesser_with-least.ensures.bound most h (c.loop-candidate.invariant.bound most h);
    }

pub lesser_with-least-requires-clause-rows : goal.lesser_with-least-requires-clause-rows
lesser_with-least-requires-clause-rows g c =
    c.rows_from-rows.ensures (g.L.Links.moves c.args.links.now c.args.i) c.requires.choices.moves.choir

pub returns-then-is_reached-clause-least : goal.returns-then-is_reached-clause-least
returns-then-is_reached-clause-least g c =
    let chains = g.L.Links.chains c.args.links.now in
    let its = c.args.self.now in
    let before = Some c.args.prev.now.items in
    let at : ℕ = c.loop-candidate.candidate-index in
    let none : Candidate = record { bound = 0; number = 0; own = 0 } in
    let here : Candidate = get_or its.candidates.now at none in
    let is : here ≡ get_or its.candidates.now at here = get_or_default
    its.candidates.now at none here c.loop-candidate-test.true in
    row_is_enough chains c.args.i before its.sums.now c.loop-candidate.least c.requires.place
    c.requires.choices.row
    (tried_are_enough chains (g.L.Links.own c.args.links.now c.args.i) c.args.i before its.sums.now
    (length (chains.menu c.args.i)) its.candidates.now at c.loop-candidate.least
    (omega (arith, c.loop-candidate-test.true)) c.requires.choices.candidates c.loop-candidate.invariant.least
    (later_no_less its.candidates.now at here c.loop-candidate.least c.requires.choices.order
    c.loop-candidate-test.true is c.if-is_reached.ensures))

pub returns-clause-least : goal.returns-clause-least
returns-clause-least g c =
    let chains = g.L.Links.chains c.args.links.now in
    let its = c.args.self.now in
    let before = Some c.args.prev.now.items in
    row_is_enough chains c.args.i before its.sums.now c.loop-candidate.least c.requires.place c.requires.choices.row
    (tried_are_enough chains (g.L.Links.own c.args.links.now c.args.i) c.args.i before its.sums.now
    (length (chains.menu c.args.i)) its.candidates.now c.loop-candidate.candidate-index c.loop-candidate.least
    c.loop-candidate.auto.candidate-index-end c.requires.choices.candidates c.loop-candidate.invariant.least
    (λ e d h l. absurd (omega (arith, c.loop-candidate-test.false))))
