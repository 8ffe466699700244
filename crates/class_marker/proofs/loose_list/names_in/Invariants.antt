use Rattle.std.proofs.Common.{[], ◌≡◌, ◌+◌, ◌≤◌, length, map}
use Rattle.std.specs.Prelude.{string_bytes}
use Rattle.std.specs.Str.Lines.{lines}
use Rattle.class_marker.specs.LooseLists.{names_from}
use denote.Shadow.{shadow}
use denote.Text.{Utf8}
use Rattle.class_marker.proofs.loose_list.names_in.Given as goal

abbrev pub invariant-loop-rest : goal.invariant-loop-rest
invariant-loop-rest l = record {
  so_far : names_from 1 [] (lines l.text) ≡ names_from l.number (map string_bytes l.names.items) (lines l.rest);
  number : l.number + length l.rest ≤ length l.text + 1;
  utf8 : shadow (Utf8 l.rest);
}

abbrev pub decreases-loop-rest : goal.decreases-loop-rest
decreases-loop-rest l = length l.rest
