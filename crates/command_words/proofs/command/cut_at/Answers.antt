use Rattle.std.proofs.Common.{◌+◌, ◌-◌, ap, drop, length, map, sym, ◌∙◌, arith}
use Rattle.std.specs.Prelude.{string_bytes}
use Rattle.std.proofs.lemmas.List.{drop-map, length-drop, take-map, take_all}
use Rattle.command_words.specs.Commands.{texts}
use Rattle.command_words.proofs.command.cut_at.Goals as goal

pub returns-clause-before : goal.returns-clause-before
returns-clause-before c = sym (take-map string_bytes c.args.place c.args.words.now)

pub returns-clause-behind : goal.returns-clause-behind
returns-clause-behind c =
    let words = c.args.words.now in
    let from = c.args.place + 1 in
    ap texts (take_all (length words - from) (drop from words) (omega (arith, length-drop from words)))
    ∙ sym (drop-map string_bytes from words)
