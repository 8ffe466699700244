use Rattle.std.specs.Prelude.{refl}
use Rattle.std.proofs.Common.{ap, sym, ◌∙◌, arith}
use Rattle.rhythm_cadence.proofs.AllRules.{book_breaks}
use Rattle.rhythm_cadence.proofs.book.RhythmRuleCrate.broken_in.Goals as goal

pub returns-in-25 : goal.returns-in-25
returns-in-25 c =
    let s = c.args.score.now.columns in
    c.breaks_quaver.ensures s 0 refl (omega arith)
    ∙ ap (λ r. book_breaks r c.args.ex.now c.args.voices.bits s c.args.i) (sym c.in-25.is)
