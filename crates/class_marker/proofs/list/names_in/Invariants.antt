use Rattle.std.proofs.Common.{◌≡◌, ℕ, ◌≤◌, length, map}
use Rattle.std.specs.Prelude.{string_bytes}
use Rattle.whole_lines.specs.Ended.{is_feed, said}
use Rattle.class_marker.specs.Lists.{names_row}
use Rattle.class_marker.proofs.ListLemmas.{from}
use denote.Shadow.{shadow}
use denote.Text.{Utf8}
use Rattle.class_marker.proofs.list.names_in.Given as goal

abbrev pub invariant-loop-rest : goal.invariant-loop-rest
invariant-loop-rest l = record {
  so_far : (column : ℕ) × (said is_feed names_row l.text ≡ from l.text column (map string_bytes l.names.items) l.rest);
  few : length l.names.items ≤ 512;
  utf8 : shadow (Utf8 l.rest);
}

abbrev pub decreases-loop-rest : goal.decreases-loop-rest
decreases-loop-rest l = length l.rest
