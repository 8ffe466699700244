use Rattle.std.proofs.Common.{List, ap, sym, ◌∙◌}
use Rattle.cert_law.specs.Entries.{entry_of, number_in}
use Rattle.cert_law.proofs.TailLemmas.{stated-push}
use Rattle.cert_text.specs.declared.potential.Potential.{Potential}
use Rattle.fux_grid.specs.declared.exercise.Exercise.{Exercise}
use Rattle.cert_check.proofs.entries.EntriesTails.behind.Goals as goal

pub returns : goal.returns
returns c = λ p size.
    let it = c.args.self.now in
    let i = c.args.i in
    let k = c.args.k in
    c.number_in.ensures ∙ ap number_in c.entry_of.ensures
    ∙ ap (λ (ex : Exercise). number_in (entry_of ex c.board.result.stated.now i k)) c.board.ensures.exercise
    ∙ ap (λ (entries : List Potential). number_in (entry_of it.exercise entries i k)) c.board.ensures.stated
    ∙ sym (stated-push it.exercise it.sheet it.entries p i k size c.requires.within)
