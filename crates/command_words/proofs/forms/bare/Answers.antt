use Rattle.std.proofs.Common.{true, ap, ◌∙◌}
use Rattle.clap.specs.Simple.{Shape, app_of_fields, on_top}
use Rattle.command_words.proofs.forms.bare.Goals as goal

-- the words behind a command's first have no program's name before them
abbrev nameless : Shape → Shape
nameless shape = record shape { no_binary_name = true }

pub returns : goal.returns
returns c = ap app_of_fields c.no_binary_name.ensures ∙ ap (on_top nameless) c.new.ensures.app
