-- Marks at written notes.
use Rattle.std.specs.Prelude.{ℕ, ◌+◌, ◌/◌, ◌%◌, ◌^◌, ◌==◌, ◌&&◌, Bool, nat_le, nat_lt, List, filter}
use Rattle.std.specs.List.{list_any, range_with_len}
use Rattle.written_notes.specs.declared.bar.Written.{Written}
use Rattle.written_notes.specs.declared.marks.SheetMark.{SheetMark}
use Rattle.written_notes.specs.declared.marks.Spot.{Spot}

-- a voice is in the set of these bits
abbrev pub has_voice : ℕ → ℕ → Bool
has_voice bits v = (bits / 2 ^ v) % 2 == 1

-- a voice is the highest of the set of these bits
abbrev pub is_topped : ℕ → ℕ → Bool
is_topped bits v = bits / 2 ^ v == 1

-- a mark's place is within a written note
abbrev pub is_at : SheetMark → ℕ → Written → Bool
is_at mark bar note =
    (mark.bar == bar) && nat_le note.slot mark.slot && nat_lt mark.slot (note.slot + note.slots)

-- a written note is red: a mark at its place has its voice
abbrev pub is_red : List SheetMark → Spot → Bool
is_red marks spot =
    list_any (λ mark. is_at mark spot.bar spot.note && has_voice mark.voices.bits spot.voice) marks

-- a rule is shown at a written note: a mark of the rule at its place has its voice as its highest
abbrev pub shows_rule : List SheetMark → Spot → ℕ → Bool
shows_rule marks spot rule =
    list_any (λ mark. (mark.rule == rule) && is_at mark spot.bar spot.note
    && is_topped mark.voices.bits spot.voice) marks

-- the rules that are shown at a written note, each once, in ascending order
abbrev pub rules_at : List SheetMark → Spot → List ℕ
rules_at marks spot = filter (shows_rule marks spot) (range_with_len 1 33)
