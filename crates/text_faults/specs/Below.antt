-- The faults of a text at fault: the first of all, and then of each later line its own first fault,
-- where the line is judged by itself.
use Rattle.std.specs.Prelude.{◌≡◌, ◌<◌, ◌↔◌, ℕ, Contains, List, [], ◌∷◌, ◌++◌, Option, Some, None, Result, Ok, Err, codes, nat_lt, if◌then◌else◌}
use Rattle.fux_text.specs.declared.fault.TextKind.{TextKind}
use Rattle.fux_text.specs.declared.fault.TextKind.TheVariants as kinds
use Rattle.fux_text.specs.Texts.{HasFault}
use Rattle.text_lines.specs.Faults.{Fault}
use Rattle.text_lines.specs.Lines.{TextLines}
use Rattle.text_lines.specs.Reading.{fault_at, same_text}
use Rattle.text_lines.specs.Utf8.{text_in}
use Rattle.text_lines.specs.Words.{LineWords, PlacedWord, first_word}
use Rattle.text_faults.specs.declared.found.FoundFault.{FoundFault}
use Rattle.text_faults.specs.declared.known.Known.{Known}
use Rattle.text_faults.specs.Given.{given_judged}
use Rattle.text_faults.specs.HeadLines.{Judged, bars_judged, cantus_judged, mode_judged, species_judged, version_judged, voices_judged}
use Rattle.text_faults.specs.Known.{nothing_known}
use Rattle.text_faults.specs.Range.{range_judged}
use Rattle.text_faults.specs.Relax.{relax_judged}
use Rattle.text_faults.specs.Sing.{sing_judged}

-- ---- a line by itself

-- the lines of each name. A line of another first word is wrong at that
abbrev pub named_judged : Known → PlacedWord → LineWords → Judged
named_judged known word at =
    if same_text word.text (codes "sing") then sing_judged known at
    else if same_text word.text (codes "cantus") then cantus_judged known at
    else if same_text word.text (codes "range") then range_judged known at
    else if same_text word.text (codes "fux") then version_judged known at
    else if same_text word.text (codes "mode") then mode_judged known at
    else if same_text word.text (codes "voices") then voices_judged known at
    else if same_text word.text (codes "bars") then bars_judged known at
    else if same_text word.text (codes "species") then species_judged known at
    else if same_text word.text (codes "given") then given_judged known at
    else if same_text word.text (codes "relax") then relax_judged known at
    else Err (fault_at kinds.Head word)

abbrev pub judged_from : Known → Option (PlacedWord × LineWords) → Judged
judged_from known None = Ok known
judged_from known (Some found) = named_judged known found.0 found.1

-- what is known behind a line, by what is known above it, or what is wrong with it
unfoldable pub judged : Known → LineWords → Judged
judged known line = judged_from known (first_word line)

-- what is known behind a line: nothing more where it is wrong
abbrev pub known_behind : Known → Judged → Known
known_behind known (Ok more) = more
known_behind known (Err fault) = known

-- and behind lines, one after the other
abbrev pub known_after : Known → List LineWords → Known
known_after known [] = known
known_after known (line ∷ lines) = known_after (known_behind known (judged known line)) lines

-- ---- what is told

abbrev pub found : Fault TextKind → FoundFault
found f = record { kind = f.kind; line = f.line; column = f.column }

-- a fault of one of these lines, judged by itself, and by what is known above the first
pub record IsFaultOfOne (known : Known) (lines : List LineWords) (f : FoundFault) : Type 0 where
  pub above : List LineWords
  pub line : LineWords
  pub below : List LineWords
  pub stands : lines ≡ above ++ line ∷ below
  pub fault : Fault TextKind
  pub wrong : judged (known_after known above) line ≡ Err fault
  pub there : fault.line ≡ line.line
  pub is : f ≡ found fault

-- these faults stand behind a line, each behind those before it, in a later line
abbrev pub StandBehind : ℕ → List FoundFault → Type 0
StandBehind number [] = Unit {0}
StandBehind number (f ∷ faults) = (number < f.line) × StandBehind f.line faults

-- these are the faults of lines, of those behind the line of a number: all of them and no others,
-- in order, and no line has two
pub record AreBelow (number : ℕ) (lines : List LineWords) (faults : List FoundFault) : Type 0 where
  pub each : (f : FoundFault)
      → Contains faults f ↔ (IsFaultOfOne nothing_known lines f × (number < f.line))
  pub order : StandBehind number faults

-- the lines of bytes that are a text
abbrev pub lines_read : Result TextLines (Fault TextKind) → List LineWords
lines_read (Ok text) = text.lines
lines_read (Err fault) = []

unfoldable pub lines_judged : List ℕ → List LineWords
lines_judged bytes = lines_read (text_in kinds.TooLong kinds.NotUtf8 bytes)

-- the first fault of bytes, and those behind it
abbrev pub AreFrom : FoundFault → List ℕ → List FoundFault → Type 0
AreFrom first bytes [] = ⊥
AreFrom first bytes (f ∷ faults) = (f ≡ first) × AreBelow first.line (lines_judged bytes) faults

-- these are the faults of a text
pub record AreFaults (bytes : List ℕ) (faults : List FoundFault) : Type 0 where
  pub first : FoundFault
  pub has : HasFault bytes first.kind first.line first.column
  pub all : AreFrom first bytes faults

-- ---- one line after the other

-- what is told of a line behind this one
abbrev pub told_of : ℕ → Judged → List FoundFault
told_of first (Ok known) = []
told_of first (Err fault) = if nat_lt first fault.line then found fault ∷ [] else []

-- what is told of lines behind the line of this number
abbrev pub told_below : ℕ → Known → List LineWords → List FoundFault
told_below first known [] = []
told_below first known (line ∷ lines) =
    told_of first (judged known line)
    ++ told_below first (known_behind known (judged known line)) lines
