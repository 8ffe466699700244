use Rattle.std.proofs.Common.{inl, inr, ◌∙◌}
use Rattle.clap.specs.Words.{app_of, found_of, kind_of, rows_of}
use Rattle.command_words.specs.Commands.{texts}
use Rattle.command_words.proofs.Taken.{none_found, rows_found, simple_of}
use Rattle.command_words.proofs.command.taken.Goals as goal

pub returns-in-Ok : goal.returns-in-Ok
returns-in-Ok c =
    let app = app_of c.args.command in
    let known = c.in-Ok.ensures in
    rows_found app (texts c.args.words.now) (rows_of (found_of c.in-Ok.matches)) (known.kinds c.requires)
    (known.matches (simple_of app c.requires)).0

pub returns : goal.returns
returns c =
    let app = app_of c.args.command in
    elim (c.in-Err.ensures.kinds c.requires) [
      | inl memory ↦ absurd (c.in_default.not-OutOfMemory (c.kind.ensures ∙ memory))
      | inr among ↦ none_found app (texts c.args.words.now) (kind_of c.in-Err.error) among
    ]
