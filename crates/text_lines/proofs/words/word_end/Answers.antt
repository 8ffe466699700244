use Rattle.std.proofs.Common.{length, ap, ◌∙◌}
use Rattle.std.specs.Prelude.{unwrap_or}
use Rattle.text_lines.specs.Words.{is_blank}
use Rattle.text_lines.proofs.Parts.{end_of}
use Rattle.text_lines.proofs.words.word_end.Goals as goal

pub returns-clause-value : goal.returns-clause-value
returns-clause-value c =
    c.unwrap_or.ensures ∙ ap (λ found. unwrap_or found (length c.args.text.now)) c.blank_in.ensures.first
    ∙ end_of is_blank c.args.text.now
