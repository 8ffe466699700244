use Rattle.std.proofs.Common.{◌≡◌, drop}
use Rattle.clap.specs.Words.{app_of}
use Rattle.command_words.specs.Forms.{with_parts}
use Rattle.command_words.proofs.forms.with_parts.Given as goal

-- the command so far, with what is left, is the whole
abbrev pub invariant-loop-part : goal.invariant-loop-part
invariant-loop-part l =
    with_parts (app_of l.longer) (drop l.part-index l.parts) ≡ with_parts (app_of l.fn.command) l.parts
