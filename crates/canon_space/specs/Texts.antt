-- The text of a canon as one row of words, each with the byte that ends it: five lines, each ended
-- by a line feed, whose words have one space between them. The kind of a fault is the number of its
-- line.
use Rattle.std.specs.Prelude.{◌≡◌, ◌↔◌, ℕ, ◌+◌, ◌-◌, ◌==◌, ◌≤◌, ℤ, pos, ◌-ℤ◌, nat_lt, int_le, List, [], ◌∷◌, ◌++◌, codes, length, option_map, option_and_then, Option, Some, None, Result, Ok, Err, if◌then◌else◌}
use Rattle.fux_pitch.specs.declared.mode.Mode.{Mode}
use Rattle.fux_pitch.specs.declared.pitch.Pitch.{Pitch}
use Rattle.fux_pitch.specs.Pitch.{key_of}
use Rattle.fux_text.specs.Names.{mode_named, pitch_named}
use Rattle.text_lines.specs.Numbers.{number_within}
use Rattle.text_lines.specs.Rows.{Place, Row, word_place}
use Rattle.whole_lines.specs.Ended.{IsText, IsTextFault, ended_place, is_end, said}
use Rattle.canon_space.specs.declared.canon.Canon.{Canon}
use Rattle.canon_space.specs.declared.reading.LeaderLine.{LeaderLine}

-- the place of a word that a space ends, and of the last one of a line
abbrev pub spaced : {V : Type 0} → ℕ → (List ℕ → Option V) → Place ℕ V
spaced line named = ended_place line 32 named

abbrev pub last : {V : Type 0} → ℕ → (List ℕ → Option V) → Place ℕ V
last line named = ended_place line 10 named

-- a pitch whose key isn't below that of another
abbrev pub unless_below : Pitch → Pitch → Option Pitch
unless_below low high = if int_le (key_of low) (key_of high) then Some high else None

abbrev pub high_named : Pitch → List ℕ → Option Pitch
high_named low word = option_and_then (unless_below low) (pitch_named word)

-- a number from -14 to 14
abbrev pub shift_named : List ℕ → Option ℤ
shift_named [] = None
shift_named (b ∷ bs) =
    if b == 45 then option_map (λ n. pos 0 -ℤ pos n) (number_within 1 14 bs)
    else option_map pos (number_within 0 14 (b ∷ bs))

-- the ranges by voice, of a leader and of the range of its follower
abbrev pub ranges_of : LeaderLine → Pitch × Pitch → List (Pitch × Pitch)
ranges_of leader range =
    if leader.voice == 0 then leader.range ∷ range ∷ [] else range ∷ leader.range ∷ []

-- what the lines say
abbrev pub canon_said : Mode → ℕ → LeaderLine → ℤ → ℕ → Pitch × Pitch → Canon
canon_said mode bars leader shift delay range = record {
  mode = mode;
  bars = bars;
  leader = leader.voice;
  shift = shift;
  delay = delay;
  ranges = ranges_of leader range;
}

-- the lines of a text from each on, by what those before it say: behind the fifth line there is
-- nothing

-- `LOW HIGH` of the follower
abbrev pub range_row : Mode → ℕ → LeaderLine → ℤ → ℕ → Row ℕ Canon
range_row mode bars leader shift delay =
    Row.place (spaced 5 pitch_named) (λ low.
    Row.place (last 5 (high_named low)) (λ high. Row.ends 6 (canon_said mode bars leader shift delay (low, high))))

-- `follower SHIFT DELAY LOW HIGH`
abbrev pub follower_row : Mode → ℕ → LeaderLine → Row ℕ Canon
follower_row mode bars leader =
    Row.place (word_place 5 (codes "follower ")) (λ _.
    Row.place (spaced 5 shift_named) (λ shift.
    Row.place (spaced 5 (number_within 1 (bars - 2))) (range_row mode bars leader shift)))

-- `leader V LOW HIGH`
abbrev pub leader_row : Mode → ℕ → Row ℕ Canon
leader_row mode bars =
    Row.place (word_place 4 (codes "leader ")) (λ _.
    Row.place (spaced 4 (number_within 0 1)) (λ voice.
    Row.place (spaced 4 pitch_named) (λ low.
    Row.place (last 4 (high_named low)) (λ high.
    follower_row mode bars (record { voice = voice; range = (low, high) })))))

-- `bars N`
abbrev pub bars_row : Mode → Row ℕ Canon
bars_row mode =
    Row.place (word_place 3 (codes "bars ")) (λ _. Row.place (last 3 (number_within 3 24)) (leader_row mode))

-- `mode M`
abbrev pub mode_row : Row ℕ Canon
mode_row = Row.place (word_place 2 (codes "mode ")) (λ _. Row.place (last 2 mode_named) bars_row)

-- `fux-canon 1`
abbrev pub canon_row : Row ℕ Canon
canon_row =
    Row.place (word_place 1 (codes "fux-canon ")) (λ _. Row.place (word_place 1 (codes "1" ++ 10 ∷ [])) (λ _. mode_row))

-- the canon that a text is of, or its first line at fault; a text of more than 65,536 bytes is at
-- fault in its first line
unfoldable pub canon_of : List ℕ → Result Canon ℕ
canon_of text = if nat_lt 65536 (length text) then Err 1 else said is_end canon_row text

-- ---- without reading

-- a text is read as a canon just where it is short and its words are right and say it, and a line
-- is told just where the first word at fault is one of that line
abbrev pub CanonTextsAreRead : Type 0
CanonTextsAreRead = (text : List ℕ) (canon : Canon)
    → IsText (length text ≤ 65536) is_end canon_row text canon ↔ (canon_of text ≡ Ok canon)

abbrev pub CanonFaultsAreRead : Type 0
CanonFaultsAreRead = (text : List ℕ) (line : ℕ)
    → IsTextFault (length text ≤ 65536) 1 is_end canon_row text line ↔ (canon_of text ≡ Err line)
