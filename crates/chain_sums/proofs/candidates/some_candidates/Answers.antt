use Rattle.std.proofs.Common.{◌≡◌, ◌+◌, ℕ, List, [], None, length, get_or, sym, ap, ◌∙◌, subst, arith}
use Rattle.fux_grid.specs.declared.cell.Cell.{Cell}
use Rattle.chain_sums.specs.declared.candidates.Candidate.{Candidate}
use Rattle.chain_sums.specs.Candidates.{AreCandidates}
use Rattle.chain_sums.specs.Chains.{IsKnown}
use Rattle.chain_sums.specs.Rows.{IsSumOf}
use Rattle.chain_sums.proofs.CandidateLemmas.{candidates_more, candidates_none, candidates_skip}
use Rattle.chain_sums.proofs.LeastLemmas.{length-columns}
use Rattle.chain_sums.proofs.candidates.some_candidates.Goals as goal

pub loop-k-init : goal.loop-k-init
loop-k-init g c =
    let chains = g.L.Links.chains c.args.links.now in
    record {
      room = omega (arith, c.in_ok-found.ensures.capacity, c.len.ensures);
      few = omega (arith, c.in_ok-found.ensures.len);
      are = subst (λ (xs : List Candidate). AreCandidates chains (g.L.Links.own c.args.links.now c.args.i) c.args.i
          c.args.row.now 0 xs) (sym c.in_ok-found.ensures.items)
          (candidates_none chains (g.L.Links.own c.args.links.now c.args.i) c.args.i c.args.row.now);
    }

pub loop-k-preserved-in_default : goal.loop-k-preserved-in_default
loop-k-preserved-in_default g c =
    let chains = g.L.Links.chains c.args.links.now in
    let same : c.column.result.now.items ≡ get_or (chains.menu c.args.i) c.loop-k.k [] = c.column.ensures
    ∙ ap (λ xs. get_or xs c.loop-k.k []) c.requires.menu in
    record {
      room = c.loop-k.invariant.room;
      few = omega (arith, c.loop-k.invariant.few);
      are = candidates_skip chains (g.L.Links.own c.args.links.now c.args.i) c.args.i c.args.row.now c.loop-k.k
          c.loop-k.found.items c.loop-k.invariant.are
          (λ before x s. c.in_default.ensures.low before x
          (subst (λ (d : List Cell). IsSumOf chains c.args.i before d (get_or c.args.row.now c.loop-k.k None) x)
          (sym same) s));
    }

pub loop-k-preserved : goal.loop-k-preserved
loop-k-preserved g c =
    let chains = g.L.Links.chains c.args.links.now in
    let own = g.L.Links.own c.args.links.now c.args.i in
    let same : c.column.result.now.items ≡ get_or (chains.menu c.args.i) c.loop-k.k [] = c.column.ensures
    ∙ ap (λ xs. get_or xs c.loop-k.k []) c.requires.menu in
    record {
      room = omega (arith, c.loop-k.invariant.room, c.push_reserved.ensures.capacity);
      few = omega (arith, c.loop-k.invariant.few, c.push_reserved.ensures.len);
      are = subst (λ (xs : List Candidate). AreCandidates chains own c.args.i c.args.row.now (c.loop-k.k + 1) xs)
          (sym c.push_reserved.ensures.items)
          (candidates_more chains own c.args.i c.args.row.now c.loop-k.k c.loop-k.found.items c.loop-k.invariant.are
          c.in-Some.candidate
          c.in-Some.ensures.number (subst (λ (d : List Cell). IsKnown (own d) c.in-Some.candidate.own) same
          c.in-Some.ensures.known)
          (λ before x s. c.in-Some.ensures.low before x
          (subst (λ (d : List Cell). IsSumOf chains c.args.i before d (get_or c.args.row.now c.loop-k.k None) x)
          (sym same) s)));
    }

pub returns : goal.returns
returns g c =
    let chains = g.L.Links.chains c.args.links.now in
    let end : c.loop-k.k ≡ length (chains.menu c.args.i) =
    omega (
      arith,
      c.loop-k-test.false,
      c.loop-k.auto.k-end,
      c.len-k-end.ensures,
      length-columns
          c.args.menu.now.columns.items (chains.menu c.args.i) c.requires.menu,
    ) in
    subst (λ (n : ℕ). AreCandidates chains (g.L.Links.own c.args.links.now c.args.i) c.args.i c.args.row.now n
    c.loop-k.found.items) end c.loop-k.invariant.are
