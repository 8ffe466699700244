use Rattle.std.proofs.Common.{ℕ, List, Option, ap, sym, ◌∙◌, subst, length, ◌+◌}
use Rattle.std.proofs.lemmas.List.{length_push}
use Rattle.cert_check.specs.Boards.{AreBounds, IsBoundAt}
use Rattle.cert_check.proofs.BoundLemmas.{bound_at, bounds_more}
use Rattle.cert_check.proofs.board.Board.bounds.Goals as goal

pub loop-number-preserved : goal.loop-number-preserved
loop-number-preserved c =
    let board = c.args.self.now in
    let ex = board.exercise.now in
    let before = c.loop-number.bounds.items in
    let least = c.least_through.result in
    let pushed = c.in_ok-push.ensures.items in
    let at = c.place_of-i.ensures in
    let counted = c.loop-number.invariant.counted in
    record {
      counted = ap length pushed ∙ length_push before least ∙ ap (λ n. n + 1) counted;
      are = subst (λ (bs : List (Option ℕ)). AreBounds ex board.sheet.now board.stated.now bs) (sym pushed)
          (bounds_more ex board.sheet.now board.stated.now before least c.loop-number.invariant.are
          (subst (λ (n : ℕ). IsBoundAt ex board.sheet.now board.stated.now n least) (sym counted)
          (bound_at ex board.sheet.now board.stated.now c.loop-number.number c.place_of-i.result.0 c.place_of-i.result.1
          least at.is at.within c.least_through.ensures)));
    }
