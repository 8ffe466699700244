use Rattle.std.proofs.Common.{refl}
use Rattle.clap.specs.Words.{app_of}
use Rattle.command_words.specs.Forms.{option_word}
use Rattle.command_words.proofs.FormLemmas.{added, is_option}
use Rattle.command_words.proofs.forms.with_option.Goals as goal

pub returns : goal.returns
returns c =
    added c.arg.result c.args.command (app_of c.args.command) c.required-option.result
    (option_word c.args.needed c.args.name.now) refl
    (rw (c.required-option.ensures, c.long.ensures) c.new.ensures.optional.1)
    (is_option c.args.needed c.args.name c.new.result c.long.result c.required-option.result c.new.ensures.rule
    c.long.ensures
    c.required-option.ensures)
    c.arg.ensures
