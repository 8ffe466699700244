-- The lines of lists of prices, and which line may stand where.
use Rattle.std.specs.Prelude.{ℕ, ◌+◌, ◌-◌, ◌*◌, ◌<◌, ◌≤◌, ◌==◌, ◌&&◌, nat_lt, not, Bool, true, false, ⊤, IsTrue, List, [], ◌∷◌, ◌++◌, codes, length, map, if◌then◌else◌}
use Rattle.std.specs.Fmt.{decimal}
use Rattle.fux_pitch.specs.declared.pitch.Pitch.{Pitch}
use Rattle.fux_pitch.specs.Names.{name_of}
use Rattle.fux_grid.specs.declared.exercise.Exercise.{Exercise}
use Rattle.fux_text.specs.Words.{text_line}
use Rattle.melody_rules.specs.GaugeParts.{place_in}
use Rattle.price_check.specs.declared.line.Before.{Before}
use Rattle.price_check.specs.declared.line.PriceLine.{PriceLine}
use Rattle.price_check.specs.declared.line.PriceLine.TheVariants as lines

-- a line: what a list keeps beside what always is; the voice by whose greatest key its cases go,
-- with the keys that part them; what a strike of a pitch is charged; or the line behind all lists
pub data Line : Type 0 where
  Keeps : Bool → Bool → Line
  Cases : ℕ → List ℕ → Line
  Price : ℕ → ℕ → Pitch → ℕ → Line
  Claims : Line

-- ---- the words of a line

abbrev pub if_kept : Bool → List ℕ → List (List ℕ)
if_kept kept word = if kept then word ∷ [] else []

abbrev pub line_words : Line → List (List ℕ)
line_words (Keeps turns runs) = codes "keeps" ∷ (if_kept turns (codes "turns") ++ if_kept runs (codes "runs"))
line_words (Cases voice keys) = codes "cases" ∷ decimal voice ∷ map decimal keys
line_words (Price case voice pitch number) =
    codes "price" ∷ decimal case ∷ decimal voice ∷ name_of pitch ∷ decimal number ∷ []
line_words Claims = codes "claims" ∷ []

-- its text: the words with a space between them, and a line feed
abbrev pub line_text : Line → List ℕ
line_text line = text_line (line_words line)

abbrev pub keeps_text : Bool → Bool → List ℕ
keeps_text turns runs = line_text (Keeps turns runs)

abbrev pub cases_text : ℕ → List ℕ → List ℕ
cases_text voice keys = line_text (Cases voice keys)

-- ---- which lines may stand where

-- a free voice of an exercise
abbrev pub is_free_voice : Exercise → ℕ → Bool
is_free_voice ex v = nat_lt v ex.voices && not (v == ex.cantus_voice)

-- the place of a price among all: prices go up by case, then voice, then pitch
abbrev pub price_place : ℕ → ℕ → Pitch → ℕ
price_place case voice pitch = (4 * case + voice) * 147 + place_in pitch

-- the greatest price that may be stated
abbrev pub most_price : ℕ
most_price = 1048576

-- keys that fall from below one, so many at most
abbrev pub AreFalling : ℕ → ℕ → List ℕ → Type 0
AreFalling high most [] = ⊤
AreFalling high most (key ∷ keys) = (key < high) × (1 ≤ most) × AreFalling key (most - 1) keys

-- what stands before the first list
abbrev pub nothing_before : Before
nothing_before = record { lists = 0; kept = false; cases = 0; last = 0 }

-- a line may stand behind those before: eight lists at most, of a free voice's cases behind the
-- line of what is kept, and prices of its cases behind these, each later than the one before; the
-- last line behind some list
abbrev pub Fits : Exercise → Before → Line → Type 0
Fits ex before (Keeps turns runs) = before.lists < 8
Fits ex before (Cases voice keys) = IsTrue before.kept × IsTrue (is_free_voice ex voice) × AreFalling 127 15 keys
Fits ex before (Price case voice pitch number) =
    (1 ≤ case) × (case ≤ before.cases) × IsTrue (is_free_voice ex voice)
    × (before.last < price_place case voice pitch) × (1 ≤ number) × (number ≤ most_price)
Fits ex before Claims = 0 < before.lists

-- what stands before the next line
abbrev pub after : Before → Line → Before
after before (Keeps turns runs) = record { lists = before.lists + 1; kept = true; cases = 0; last = 0 }
after before (Cases voice keys) = record before { kept = false; cases = length keys + 1; last = 0 }
after before (Price case voice pitch number) = record before { last = price_place case voice pitch }
after before Claims = before

-- the line that is meant
abbrev pub line_of : PriceLine → Line
line_of (lines.Keeps turns runs) = Keeps turns runs
line_of (lines.Cases voice keys) = Cases voice keys.items
line_of (lines.Price case voice pitch number) = Price case voice pitch number
line_of lines.Claims = Claims
