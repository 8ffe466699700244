use Rattle.std.proofs.Common.{sym, ◌∙◌}
use Rattle.whole_lines.specs.Ended.{is_end}
use Rattle.whole_lines.proofs.EndedLemmas.{no_words}
use Rattle.whole_lines.proofs.places.Words.first.Goals as goal

pub returns-then-is_empty : goal.returns-then-is_empty
returns-then-is_empty c =
    sym (no_words is_end c.args.self.column c.args.self.rest.now (sym c.is_empty.ensures ∙ c.if-is_empty.true))
