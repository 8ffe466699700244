use Rattle.std.proofs.Common.{◌≡◌, [], slice_index_or, take, ap, sym, ◌∙◌, arith}
use Rattle.species_space.specs.Blocks.{columns_seen}
use Rattle.species_space.proofs.Passing.{agree_more, same_takes}
use Rattle.species_space.proofs.blocks.MenuView.end_of_agreement.Goals.{then-block-end, else-block-end}
use Rattle.species_space.proofs.blocks.MenuView.end_of_agreement.Goals as goal

pub loop-v-init : goal.loop-v-init
loop-v-init c =
    record {
      onward = omega (arith, c.requires.within, c.len-end.ensures);
      within = omega (arith, c.len-end.ensures);
      cells = λ u lt. absurd (omega (arith, lt));
    }

pub loop-v-preserved : goal.loop-v-preserved
loop-v-preserved c =
    let menu = columns_seen c.args.self.now in
    let v = c.loop-v.v in
    let block = c.block_end-block.result in
    let ends = c.block_end-block.ensures in
    let kept = c.requires.cut.kept v (omega (arith, c.loop-v-test.true, c.requires.voices)) in
    let old = c.loop-v.invariant in
    let end = c.if-block-end.end in
    elim c.if-block-end.branch [
      | then-block-end w ↦ record {
        onward = omega (arith, ends.onward, w.end-is);
        within = omega (arith, w.if-block-end.true, w.end-is, old.within);
        cells = agree_more menu v _ c.args.k c.loop-v.end block end kept ends
            (omega (arith, w.if-block-end.true, w.end-is)) (omega (arith, w.end-is))
            (omega (arith, ends.onward, w.end-is)) (omega (arith, w.if-block-end.true, w.end-is, old.within))
            old.cells;
      }
      | else-block-end w ↦ record {
        onward = omega (arith, old.onward, w.end-is);
        within = omega (arith, old.within, w.end-is);
        cells = agree_more menu v _ c.args.k c.loop-v.end block end kept ends (omega (arith, w.end-is))
            (omega (arith, w.if-block-end.false, w.end-is)) (omega (arith, old.onward, w.end-is))
            (omega (arith, w.end-is, old.within)) old.cells;
      }
    ]

pub returns-then-changes_always : goal.returns-then-changes_always
returns-then-changes_always c =
    let menu = columns_seen c.args.self.now in
    record {
      onward = omega arith;
      within = omega (arith, c.requires.within);
      cells = λ j le lt.
          let same : j ≡ c.args.k = omega (arith, le, lt) in
          ap (λ n. take c.args.voices (slice_index_or menu n [])) same;
    }

pub returns : goal.returns
returns c =
    let menu = columns_seen c.args.self.now in
    let k = c.args.k in
    let kept = c.loop-v.invariant in
    let full = c.requires.cut.full.1 in
    record {
      onward = kept.onward;
      within = omega (arith, kept.within);
      cells = λ j le lt.
          same_takes c.args.voices (slice_index_or menu j []) (slice_index_or menu k [])
          (full j [] (omega (arith, lt, kept.within)) ∙ sym (full k [] (c.requires.within)))
          (λ u b. kept.cells u (omega (arith, b, c.loop-v-test.false)) j le lt);
    }
