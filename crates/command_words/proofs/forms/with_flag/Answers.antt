use Rattle.std.proofs.Common.{refl}
use Rattle.clap.specs.Words.{app_of}
use Rattle.command_words.specs.Forms.{flag_word}
use Rattle.command_words.proofs.FormLemmas.{added, is_flag}
use Rattle.command_words.proofs.forms.with_flag.Goals as goal

pub returns : goal.returns
returns c =
    added c.arg.result c.args.command (app_of c.args.command) c.action-flag.result (flag_word c.args.name.now) refl
    (rw (c.action-flag.ensures, c.long.ensures) c.new.ensures.optional.1)
    (is_flag c.args.name c.new.result c.long.result c.action-flag.result c.new.ensures.rule c.long.ensures
    c.action-flag.ensures)
    c.arg.ensures
