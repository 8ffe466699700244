-- What would be right where a fault stands: for each kind of fault a table of sentences, of which
-- the first that fits is told.
use Rattle.std.specs.Prelude.{ℕ, ◌-◌, ◌==◌, ◌&&◌, not, Bool, List, [], ◌∷◌, ◌++◌, codes, drop, take, if◌then◌else◌}
use Rattle.std.specs.List.{before_first, list_any}
use Rattle.fux_text.specs.declared.fault.TextKind.{TextKind}
use Rattle.fux_text.specs.declared.fault.TextKind.TheVariants as kinds
use Rattle.text_lines.specs.Reading.{same_text}
use Rattle.text_lines.specs.Words.{is_blank}
use Rattle.text_faults.specs.declared.found.FoundFault.{FoundFault}
use Rattle.text_faults.specs.declared.shown.Form.TheVariants as form
use Rattle.text_faults.specs.ItemHints.{item_hint, pitch_hint}
use Rattle.text_faults.specs.MarkedLines.{from_ink}
use Rattle.text_faults.specs.Shown.{Sentence, name_in, said}
use Rattle.text_faults.specs.Slots.{bar_told, counted, end_told, given_told, last_told}
use Rattle.text_faults.specs.WordTests.{begins, begins_within, first_fit, has, is_empty}
use Rattle.text_faults.specs.Written.{pitch_told, written}

-- where bytes stop being UTF-8
unfoldable pub utf8_hint : List ℕ → List ℕ
utf8_hint here = first_fit (
    (begins (0xFF ∷ []), codes "the file is UTF-16: save it as UTF-8")
    ∷ (begins (0xFE ∷ []), codes "the file is UTF-16: save it as UTF-8")
    ∷ (begins (0 ∷ []), codes "the file is UTF-16: save it as UTF-8")
    ∷ [])
    (codes "these bytes are no UTF-8, and may be Latin-1: save the file as UTF-8") here

-- the words that lines begin with
abbrev pub first_words : List (List ℕ)
first_words =
    codes "fux" ∷ codes "mode" ∷ codes "voices" ∷ codes "bars" ∷ codes "species" ∷ codes "cantus"
    ∷ codes "range" ∷ codes "relax" ∷ codes "given" ∷ codes "sing" ∷ []

unfoldable pub is_first_word : List ℕ → Bool
is_first_word text = list_any (λ name. same_text text name) first_words

-- where a line of another name is to stand, or none
unfoldable pub head_hint : ℕ → List ℕ → Sentence
head_hint number word = first_fit (
    (λ w. is_empty w && (number == 1), (codes "the file is empty: its first line is `fux 1`", form.Nothing))
    ∷ (is_empty, (codes "the text ends here, and a line is missing", form.Nothing))
    ∷ (begins (0xEF ∷ 0xBB ∷ 0xBF ∷ []), (codes "a byte order mark stands here: save the file as plain UTF-8", form.Nothing))
    ∷ (begins (codes "{"), (codes "this is a word processor's file: save it as plain text", form.Nothing))
    ∷ (begins (codes "PK"), (codes "this is a word processor's file: save it as plain text", form.Nothing))
    ∷ (begins (codes "<"), (codes "this is a page or a document with marks: save it as plain text", form.Nothing))
    ∷ (begins (codes "%"), (codes "this is a page or a document with marks: save it as plain text", form.Nothing))
    ∷ (begins (codes ";"), (codes "the ; of a comment is the first byte of its line: take the blanks away", form.Nothing))
    ∷ (begins (codes "#"), (codes "a comment begins with ;", form.Nothing))
    ∷ (begins (codes "/"), (codes "a comment begins with ;", form.Nothing))
    ∷ (begins (codes "-"), (codes "a comment begins with ;", form.Nothing))
    ∷ (has 124, (codes "a sing line is one line: put this at the end of the line above", form.Nothing))
    ∷ (has 58, (codes "a sing line is one line: put this at the end of the line above", form.Nothing))
    ∷ (begins_within 65 90, (codes "the words of a line are small: ", form.Small))
    ∷ (begins (codes "sing"), (codes "no sing line stands here: each voice has one, and the cantus firmus none", form.Nothing))
    ∷ (begins (codes "given"), (codes "given lines stand before the sing lines, and need `fux 2` in the first line", form.Nothing))
    ∷ (λ w. not (is_first_word w), (codes "no line begins with this word", form.Nothing))
    ∷ [])
    (codes "this line stands in the wrong place, or another one is missing above it", form.Nothing) word

-- a version
unfoldable pub version_hint : List ℕ → List ℕ
version_hint word = first_fit (
    (has 13, codes "the lines end by carriage returns alone: save the file with line feeds")
    ∷ [])
    (codes "the versions are 1 and 2, and nothing stands behind them") word

-- a line that begins so
unfoldable pub line_hint : List ℕ → List ℕ
line_hint line =
    if begins (codes "voices") line then codes "the number of voices is 2, 3 or 4"
    else if begins (codes "species") line then
    codes "a species is 1 to 5, with its voice, as in `species 2 voice 1`: voices count from 0"
    else if begins (codes "relax") line then
    codes "a relax line is as `relax S4 all 1 6 100`: a rule, voices, bars and a price"
    else codes "nothing stands behind this line"

-- a mode
unfoldable pub mode_hint : List ℕ → Sentence
mode_hint word = first_fit (
    (begins_within 65 90, (codes "the modes are in small letters: ", form.Small))
    ∷ [])
    (codes "the modes are dorian, phrygian, lydian, mixolydian, aeolian and ionian", form.Nothing) word

-- a word of a line that begins so
unfoldable pub word_hint : List ℕ → List ℕ → List ℕ → Sentence
word_hint line here word =
    if begins (codes "sing") line then item_hint here word
    else if begins (codes "given") line then item_hint here word
    else if begins (codes "fux") line then (version_hint word, form.Nothing)
    else if begins (codes "mode") line then mode_hint word
    else (line_hint line, form.Nothing)

-- a range line, or a line where one is missing
unfoldable pub range_hint : List ℕ → List ℕ → List ℕ
range_hint line word =
    if not (begins (codes "range") line) then codes "a voice has no range: each but the cantus firmus has a line `range V LOW HIGH`, from voice 0 on"
    else if begins_within 65 71 word then codes "the lower pitch comes first: `range V LOW HIGH`"
    else codes "a range line is `range V LOW HIGH`, with bars in a voice's later ones alone"

-- a cantus
unfoldable pub cantus_hint : List ℕ → List ℕ
cantus_hint word = first_fit (
    (is_empty, codes "a pitch is missing: the cantus firmus has one for each bar")
    ∷ (begins_within 48 57, codes "the cantus firmus has another voice than the species: voices count from 0")
    ∷ [])
    (codes "a pitch too many: the cantus firmus has one for each bar") word

-- the voice of a `sing` line
unfoldable pub sing_hint : List ℕ → Sentence
sing_hint word = first_fit (
    (is_empty, (codes "a sing line is missing: each voice but the cantus firmus has one", form.Nothing))
    ∷ (has 58, (codes "no sign stands behind the voice: sing ", form.Name))
    ∷ [])
    (codes "voices count from 0, and sing lines go from the lowest, without the cantus firmus", form.Nothing) word

-- lengths that don't fill a bar, or none, where this stands before the place in a line that begins
-- so
abbrev pub unfilled : List ℕ → List ℕ → List ℕ
unfilled line before =
    if begins (codes "given") line then given_told (counted before) else bar_told (counted before)

abbrev pub no_length : List ℕ → List ℕ
no_length word = codes "a length is 1 to 8: a whole bar is " ++ name_in word ++ codes ":8"

unfoldable pub length_hint : List ℕ → List ℕ → List ℕ → List ℕ → List ℕ
length_hint line before here word =
    if has 58 word then no_length word
    else if has 58 before then unfilled line before
    else codes "no bar line stands before the first bar"

-- bars that are too many or too few
unfoldable pub bar_line_hint : List ℕ → List ℕ → List ℕ → List ℕ
bar_line_hint line before word =
    if is_empty word then end_told (counted before)
    else if begins (codes "given") line then codes "a given line has one bar, and no bar line"
    else last_told (counted before)

-- what would be right, by the kind of a fault, the number of its line, the line from its first word
-- on, what stands before the place and from there on, and the word at the place
abbrev pub hint_of : TextKind → ℕ → List ℕ → List ℕ → List ℕ → List ℕ → List ℕ
hint_of kinds.TooLong number line before here word = codes "the file has more than 65536 bytes: a file is one exercise"
hint_of kinds.NotUtf8 number line before here word = utf8_hint here
hint_of kinds.Head number line before here word = said (head_hint number word) here word
hint_of kinds.Word number line before here word = said (word_hint line here word) here word
hint_of kinds.Pitch number line before here word =
    pitch_hint (name_in word) ++ pitch_told (written (name_in word))
hint_of kinds.Length number line before here word = length_hint line before here word
hint_of kinds.BarLine number line before here word = bar_line_hint line before word
hint_of kinds.Bars number line before here word = codes "the number of bars is from 3 to 24"
hint_of kinds.Range number line before here word = range_hint line word
hint_of kinds.Cantus number line before here word = cantus_hint word
hint_of kinds.Tie number line before here word =
    codes "_ holds a note over a bar line: within a bar write one longer note"
hint_of kinds.Sing number line before here word = said (sing_hint word) here word
hint_of kinds.Given number line before here word = codes "the voice has another note than its given line here"

-- what stands from a place of a line on, and before it
abbrev pub from_column : ℕ → List ℕ → List ℕ
from_column column line = drop (column - 1) line

abbrev pub before_column : ℕ → List ℕ → List ℕ
before_column column line = take (column - 1) line

-- what would be right at a fault in a line
unfoldable pub hint : FoundFault → List ℕ → List ℕ
hint fault line =
    hint_of fault.kind fault.line (from_ink line) (before_column fault.column line) (from_column fault.column line)
    (before_first is_blank (from_column fault.column line))
