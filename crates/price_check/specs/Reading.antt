-- Reading a line of the lists, word by word. It is refused at the first byte of the first word that
-- can't stand there: so many bytes are left.
use Rattle.std.specs.Prelude.{ℕ, zero, suc, ◌+◌, ◌==◌, ◌&&◌, ◌||◌, nat_lt, not, Bool, true, false, List, [], ◌∷◌, codes, drop, length, slice_index, take, Option, Some, None, option_map, Result, Ok, Err, if◌then◌else◌}
use Rattle.std.specs.List.{position}
use Rattle.std.specs.Option.{ok_or, option_and_then}
use Rattle.fux_pitch.specs.declared.pitch.Pitch.{Pitch}
use Rattle.fux_grid.specs.declared.exercise.Exercise.{Exercise}
use Rattle.fux_text.specs.Names.{pitch_named}
use Rattle.text_lines.specs.Faults.{◌>>=◌}
use Rattle.text_lines.specs.Numbers.{number_within}
use Rattle.text_lines.specs.Reading.{same_text}
use Rattle.price_check.specs.declared.line.Before.{Before}
use Rattle.price_check.specs.declared.words.Kind.{Kind}
use Rattle.price_check.specs.declared.words.Kind.TheVariants as kinds
use Rattle.price_check.specs.declared.words.Part.{Part}
use Rattle.price_check.specs.declared.words.Part.TheVariants as parts
use Rattle.price_check.specs.declared.words.Word.{Word as SeenWord}
use Rattle.price_check.specs.PriceLines.{Keeps, Cases, Price, Claims, Line, is_free_voice, most_price, price_place}

-- ---- words

-- a word, whether a line feed ends it or a space, and the bytes behind that
pub record Word : Type 0 where
  pub text : List ℕ
  pub ends : Bool
  pub rest : List ℕ

abbrev pub word_of : SeenWord → Word
word_of seen = record { text = seen.text.now; ends = seen.ends; rest = seen.rest.now }

-- a space or a line feed
abbrev pub is_end : ℕ → Bool
is_end byte = (byte == 32) || (byte == 10)

-- the word that ends at this place
abbrev pub word_to : List ℕ → ℕ → Word
word_to bytes i = record { text = take i bytes; ends = slice_index bytes i == 10; rest = drop (i + 1) bytes }

-- the word at the front of some bytes
unfoldable pub first_word : List ℕ → Option Word
first_word bytes = option_map (word_to bytes) (position is_end bytes)

-- what the first word says, and the bytes behind it; refused where it says nothing
unfoldable pub said : {A : Type 0} → (Word → Option A) → List ℕ → Result (A × List ℕ) ℕ
said says bytes = do
  w ← ok_or (first_word bytes) (length bytes)
  x ← ok_or (says w) (length bytes)
  Ok (x, w.rest)

-- what is read, seen otherwise
abbrev pub seen_by : {X Y E : Type 0} → (X → Y) → Result X E → Result Y E
seen_by view (Ok x) = Ok (view x)
seen_by view (Err e) = Err e

-- ---- what a word says

-- where this holds
abbrev pub only_if : {A : Type 0} → Bool → A → Option A
only_if holds x = if holds then Some x else None

-- the first word of a line says of which kind it is
unfoldable pub kind_of : Before → Word → Option Kind
kind_of before w =
    if same_text w.text (codes "keeps") then only_if (nat_lt before.lists 8) (kinds.Keeps w.ends)
    else (if same_text w.text (codes "cases") then only_if (before.kept && not w.ends) kinds.Cases
    else (if same_text w.text (codes "price") then only_if (nat_lt 0 before.cases && not w.ends) kinds.Price
    else (if same_text w.text (codes "claims") then only_if (nat_lt 0 before.lists && w.ends) kinds.Claims else None)))

-- what is kept: turning notes, behind which runs may stand, or runs alone
unfoldable pub part_of : Word → Option Part
part_of w =
    if same_text w.text (codes "turns") then Some (parts.Turns w.ends)
    else (if same_text w.text (codes "runs") then only_if w.ends parts.Runs else None)

unfoldable pub runs_of : Word → Option Bool
runs_of w = if same_text w.text (codes "runs") then only_if w.ends true else None

-- a free voice
abbrev pub free_or_none : Exercise → ℕ → Option ℕ
free_or_none ex v = only_if (is_free_voice ex v) v

abbrev pub free_named : Exercise → List ℕ → Option ℕ
free_named ex text = option_and_then (free_or_none ex) (number_within 0 3 text)

unfoldable pub voice_of : Exercise → Word → Option (ℕ × Bool)
voice_of ex w = option_map (λ v. (v, w.ends)) (free_named ex w.text)

-- a key below another one
abbrev pub if_below : ℕ → ℕ → Option ℕ
if_below high key = only_if (nat_lt key high) key

unfoldable pub key_of : ℕ → Word → Option (ℕ × Bool)
key_of high w = option_map (λ key. (key, w.ends)) (option_and_then (if_below high) (number_within 0 126 w.text))

-- a case, of so many; the line goes on
unfoldable pub case_of : ℕ → Word → Option ℕ
case_of cases w = if w.ends then None else number_within 1 cases w.text

-- the voice of a price; the line goes on
unfoldable pub inner_voice_of : Exercise → Word → Option ℕ
inner_voice_of ex w = if w.ends then None else free_named ex w.text

-- a pitch whose price is later than the last one; the line goes on
abbrev pub if_later : ℕ → ℕ → ℕ → Pitch → Option Pitch
if_later last case voice pitch = only_if (nat_lt last (price_place case voice pitch)) pitch

unfoldable pub pitch_of : ℕ → ℕ → ℕ → Word → Option Pitch
pitch_of last case voice w = if w.ends then None else option_and_then (if_later last case voice) (pitch_named w.text)

-- a price; the line ends
unfoldable pub number_of : Word → Option ℕ
number_of w = if w.ends then number_within 1 most_price w.text else None

-- ---- lines

-- behind `keeps`, which may end the line
abbrev pub behind_part : Part → List ℕ → Result (Line × List ℕ) ℕ
behind_part (parts.Turns true) bytes = Ok (Keeps true false, bytes)
behind_part (parts.Turns false) bytes = do
  runs ← said runs_of bytes
  Ok (Keeps true true, runs.1)
behind_part parts.Runs bytes = Ok (Keeps false true, bytes)

unfoldable pub keeps_in : Bool → List ℕ → Result (Line × List ℕ) ℕ
keeps_in true bytes = Ok (Keeps false false, bytes)
keeps_in false bytes = do
  part ← said part_of bytes
  behind_part part.0 part.1

-- a key, and those behind it where the line goes on
abbrev pub key_and_more : ℕ → Bool → List ℕ → (List ℕ → Result (List ℕ × List ℕ) ℕ) → Result (List ℕ × List ℕ) ℕ
key_and_more key true bytes more = Ok (key ∷ [], bytes)
key_and_more key false bytes more = do
  others ← more bytes
  Ok (key ∷ others.0, others.1)

-- keys that fall from below one, so many at most, to the line's end
unfoldable pub keys_in : ℕ → ℕ → List ℕ → Result (List ℕ × List ℕ) ℕ
keys_in zero high bytes = Err (length bytes)
keys_in (suc most) high bytes = do
  key ← said (key_of high) bytes
  key_and_more key.0.0 key.0.1 key.1 (keys_in most key.0.0)

-- behind `cases`
abbrev pub behind_voice : ℕ → Bool → List ℕ → Result (Line × List ℕ) ℕ
behind_voice voice true bytes = Ok (Cases voice [], bytes)
behind_voice voice false bytes = do
  keys ← keys_in 15 127 bytes
  Ok (Cases voice keys.0, keys.1)

unfoldable pub cases_in : Exercise → List ℕ → Result (Line × List ℕ) ℕ
cases_in ex bytes = do
  voice ← said (voice_of ex) bytes
  behind_voice voice.0.0 voice.0.1 voice.1

-- behind `price`
unfoldable pub price_in : Exercise → Before → List ℕ → Result (Line × List ℕ) ℕ
price_in ex before bytes = do
  case ← said (case_of before.cases) bytes
  voice ← said (inner_voice_of ex) case.1
  pitch ← said (pitch_of before.last case.0 voice.0) voice.1
  number ← said number_of pitch.1
  Ok (Price case.0 voice.0 pitch.0 number.0, number.1)

abbrev pub behind_kind : Exercise → Before → Kind → List ℕ → Result (Line × List ℕ) ℕ
behind_kind ex before (kinds.Keeps ends) bytes = keeps_in ends bytes
behind_kind ex before kinds.Cases bytes = cases_in ex bytes
behind_kind ex before kinds.Price bytes = price_in ex before bytes
behind_kind ex before kinds.Claims bytes = Ok (Claims, bytes)

-- the line at the front of some bytes, and those behind it
unfoldable pub line_in : Exercise → Before → List ℕ → Result (Line × List ℕ) ℕ
line_in ex before bytes = do
  kind ← said (kind_of before) bytes
  behind_kind ex before kind.0 kind.1
