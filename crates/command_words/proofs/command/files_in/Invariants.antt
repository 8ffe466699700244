use Rattle.std.proofs.Common.{◌≡◌, drop}
use Rattle.command_words.specs.Commands.{files_from, texts}
use Rattle.command_words.proofs.command.files_in.Given as goal

-- the first is among the words that are left
abbrev pub invariant-loop-word : goal.invariant-loop-word
invariant-loop-word l = record {
  here : l.place ≡ l.word-index;
  first : files_from 0 (texts l.words) ≡ files_from l.place (texts (drop l.word-index l.words));
}
