-- What is written of an exercise and a setting are lines of words (`exercise_lines-plain`,
-- `sung_lines-plain`).
use Rattle.std.proofs.Common.{◌≡◌, ℕ, zero, suc, ◌+◌, ◌-◌, ◌*◌, ◌/◌, ◌%◌, ◌^◌, ◌<◌, ◌≤◌, Bool, true, false, List, [], ◌∷◌, ◌++◌, get_or, length, length-append, map, drop, Option, Some, None, refl, subst, ◌∙◌, arith}
use Rattle.std.specs.Prelude.{◌==◌, not, All, codes, nat_lt, filter, IfSome}
use Rattle.std.specs.Fmt.{decimal, digits}
use Rattle.std.specs.List.{flat_map, list_all, range_with_len}
use Rattle.std.proofs.lemmas.Bool.{and_from, lt-ltb}
use Rattle.std.proofs.lemmas.Fmt.{decimal_by_steps}
use Rattle.std.proofs.lemmas.List.{length-map, length-take}
use Rattle.std.proofs.lemmas.List.Folds.{list_all-append, list_all-map}
use Rattle.std.proofs.lemmas.List.FromFn.{get_or-range_with_len, length-range_with_len}
use Rattle.std.proofs.lemmas.List.Sums.{AllPass-from_list_all, list_all-from_AllPass}
use Rattle.fux_pitch.specs.Modes.{mode_name}
use Rattle.fux_pitch.specs.declared.mode.Mode.{Mode}
use Rattle.fux_pitch.specs.declared.mode.Mode.TheVariants.{Dorian, Phrygian, Lydian, Mixolydian, Aeolian, Ionian}
use Rattle.fux_pitch.specs.declared.pitch.Pitch.{Pitch}
use Rattle.fux_pitch.specs.Names.{name_of}
use Rattle.fux_pitch.proofs.NameLemmas.{name_of-length, name_of-passes}
use Rattle.fux_grid.specs.declared.cell.Cell.{Cell}
use Rattle.fux_grid.specs.declared.cell.Cell.TheVariants.{Rest, Hold, Start}
use Rattle.fux_grid.specs.declared.exercise.Exercise.{Exercise}
use Rattle.fux_grid.specs.declared.exercise.RangeLine.{RangeLine}
use Rattle.fux_grid.specs.declared.exercise.Relax.{Relax}
use Rattle.fux_grid.specs.declared.exercise.VoiceSet.{VoiceSet}
use Rattle.fux_grid.specs.declared.given.Given.{Given}
use Rattle.fux_grid.specs.declared.given.Given.TheVariants as given
use Rattle.fux_grid.specs.declared.given.GivenBar.{GivenBar}
use Rattle.fux_grid.specs.Cells.{cell_in}
use Rattle.fux_grid.specs.Columns.{line}
use Rattle.fux_grid.specs.Exercises.{IsGivenBar, IsRangeLine, IsRelax, IsValid}
use Rattle.fux_grid.specs.Grid.{Grid}
use Rattle.fux_grid.specs.Letters.{bar_columns}
use Rattle.fux_text.specs.GivenItems.{given_goes_on, given_name, given_word}
use Rattle.fux_text.specs.Items.{goes_on, item_name, item_word}
use Rattle.fux_text.specs.Lines.{bar_words, bars_words, between_bar_lines, cantus_words, exercise_lines, given_words, head_lines, lines_before_given, range_words, relax_words, sing_words, version_of, version_words, voices_word}
use Rattle.fux_text.proofs.Bounds.{few-bits}
use Rattle.fux_text.proofs.GivenCells.{given-through}
use Rattle.fux_text.proofs.ItemLemmas.{items-words}
use Rattle.fux_text.proofs.OwnBars.{items_words}
use Rattle.fux_text.proofs.OwnItems.{goes_on-same}
use Rattle.fux_text.proofs.OwnSetting.{sung_lines}
use Rattle.fux_text.proofs.PlainWords.{is_ink, is_line, is_word, word_ink}

-- ---- words

word_if : (w : List ℕ) → 0 < length w → list_all is_ink w ≡ true → is_word w ≡ true
word_if [] some e = absurd (omega (arith, some))
word_if (b ∷ bs) some e = e

word-append : (w xs : List ℕ) → is_word w ≡ true → list_all is_ink xs ≡ true → is_word (w ++ xs) ≡ true
word-append w xs e f =
    word_if (w ++ xs) (omega (arith, length-append w xs, some w e))
    (list_all-append is_ink w xs ∙ and_from (list_all is_ink w) (list_all is_ink xs) (word_ink w e) f)
  where
    some : (w : List ℕ) → is_word w ≡ true → 0 < length w
    some [] e = absurd (grind (arith, e))
    some (b ∷ bs) e = omega arith

digit-ink : (d : ℕ) → d < 10 → is_ink (48 + d) ≡ true
digit-ink d lt = and_from (nat_lt 32 (48 + d)) (nat_lt (48 + d) 127) (lt-ltb 32 (48 + d) (omega (arith, lt)))
    (lt-ltb (48 + d) 127 (omega (arith, lt)))

digit-word : (d : ℕ) → d < 10 → is_word ((48 + d) ∷ []) ≡ true
digit-word d lt = and_from (is_ink (48 + d)) true (digit-ink d lt) refl

number-word : (n : ℕ) → n ≤ 9999999 → is_word (decimal n) ≡ true
number-word n few =
    decimal_by_steps (λ m ds. is_word ds ≡ true) digit-word
    (λ m ds ten e. word-append ds ((48 + m % 10) ∷ []) e
    (and_from (is_ink (48 + m % 10)) true (digit-ink (m % 10) (omega arith)) refl))
    n (omega (arith, few))

name-word : (p : Pitch) → is_word (name_of p) ≡ true
name-word p = word_if (name_of p) (omega (arith, name_of-length p)) (name_of-passes is_ink refl p)

mode-word : (m : Mode) → is_word (mode_name m) ≡ true
mode-word Dorian = refl
mode-word Phrygian = refl
mode-word Lydian = refl
mode-word Mixolydian = refl
mode-word Aeolian = refl
mode-word Ionian = refl

-- ---- the lines of an exercise

head-plain : (ex : Exercise) → IsValid ex → list_all is_line (head_lines ex) ≡ true
head-plain ex valid =
    rw (
      mode-word ex.mode,
      number-word ex.voices (omega (arith, valid.most_voices)),
      number-word ex.bars (omega (arith, valid.most_bars)),
      number-word ex.species (omega (arith, valid.most_species)),
      number-word ex.species_voice (omega (arith, valid.species_there, valid.most_voices)),
    ) refl

names-plain : (ps : List Pitch) → list_all is_word (map name_of ps) ≡ true
names-plain [] = refl
names-plain (p ∷ ps) = and_from (is_word (name_of p)) (list_all is_word (map name_of ps)) (name-word p) (names-plain ps)

cantus-plain : (ex : Exercise) → IsValid ex → is_line (cantus_words ex) ≡ true
cantus-plain ex valid =
    rw (number-word ex.cantus_voice (omega (arith, valid.cantus_there, valid.most_voices)), names-plain ex.cantus) refl

-- lines are plain where each of what they are written of has a plain one
all-plain : {V : Type 0} (write : V → List (List ℕ)) (xs : List V) → All (λ x. is_line (write x) ≡ true) xs
    → list_all is_line (map write xs) ≡ true
all-plain write xs each = list_all-map is_line write xs ∙ list_all-from_AllPass (λ x. is_line (write x)) xs each

bars_words-plain : (o : Option (ℕ × ℕ)) (bars : ℕ) → bars ≤ 24 → IfSome o (λ b. (1 ≤ b.0) × (b.0 ≤ b.1) × (b.1 ≤ bars))
    → list_all is_word (bars_words o) ≡ true
bars_words-plain None bars few h = refl
bars_words-plain (Some (from, to)) bars few h =
    rw (number-word from (omega (arith, h, few)), number-word to (omega (arith, h, few))) refl

range-plain : (ex : Exercise) (r : RangeLine) → ex.voices ≤ 4 → ex.bars ≤ 24 → IsRangeLine ex r
    → is_line (range_words r) ≡ true
range-plain ex r voices bars fits =
    rw (
      number-word r.voice (omega (arith, fits.free.there, voices)),
      name-word r.low,
      name-word r.high,
      bars_words-plain r.bars ex.bars bars fits.within,
    ) refl

-- a set of voices, of which there is one at least
abbrev is_set_word : ℕ → Bool
is_set_word bits = is_word (voices_word (Some (record { bits = bits })))

all_sets-plain : list_all is_set_word (range_with_len 1 15) ≡ true
unfolding digits
all_sets-plain = refl

set-word : (voices : ℕ) (o : Option VoiceSet) → voices ≤ 4 → IfSome o (λ set. (1 ≤ set.bits) × (set.bits < 2 ^ voices))
    → is_word (voices_word o) ≡ true
set-word voices None few h = refl
set-word voices (Some set) few h =
    let below : set.bits ≤ 15 = few-bits voices set.bits few h.1 in
    let at : get_or (range_with_len 1 15) (set.bits - 1) 0 ≡ set.bits =
    get_or-range_with_len 1 15 (set.bits - 1) 0 (omega (arith, below, h.0)) ∙ omega (arith, h.0) in
    subst (λ n. is_set_word n ≡ true) at
    (AllPass-from_list_all is_set_word (range_with_len 1 15) all_sets-plain (set.bits - 1) 0
    (omega (arith, length-range_with_len 1 15, below, h.0)))

relax-plain : (ex : Exercise) (r : Relax) → ex.voices ≤ 4 → ex.bars ≤ 24 → IsRelax ex r → is_line (relax_words r) ≡ true
relax-plain ex r voices bars fits =
    rw (
      word_ink (decimal r.rule) (number-word r.rule (omega (arith, fits.most_rule))),
      set-word ex.voices r.voices voices fits.voices,
      number-word r.from (omega (arith, fits.within, bars)),
      number-word r.to (omega (arith, fits.within, bars)),
      number-word r.price (omega (arith, fits.price)),
    ) refl

version-plain : (version : ℕ) → version ≤ 9999999 → is_line (version_words version) ≡ true
version-plain version few = rw (number-word version few) refl

before_given-plain : (version : ℕ) (ex : Exercise) → version ≤ 9999999 → IsValid ex
    → list_all is_line (lines_before_given version ex) ≡ true
before_given-plain version ex few valid =
    let head = version_words version ∷ head_lines ex in
    list_all-append is_line (head ++ cantus_words ex ∷ map range_words ex.ranges) (map relax_words ex.relax)
    ∙ rw (
      list_all-append is_line head (cantus_words ex ∷ map range_words ex.ranges),
      version-plain version few,
      head-plain ex valid,
      cantus-plain ex valid,
      all-plain range_words ex.ranges
          (λ k d lt. range-plain ex _ valid.most_voices valid.most_bars (valid.range_lines_fit k d lt)),
      all-plain relax_words ex.relax
          (λ k d lt. relax-plain ex _ valid.most_voices valid.most_bars (valid.relax_fit k d lt)),
    ) refl

given_word-plain : (g : Given) (n : ℕ) → n ≤ 9999999 → is_word (given_word (g, n)) ≡ true
given_word-plain g n few = word-append (given_name g) (58 ∷ decimal n) (name g) (word_ink (decimal n) (number-word n few))
  where
    name : (g : Given) → is_word (given_name g) ≡ true
    name given.Blank = refl
    name given.Rest = refl
    name given.Tied = refl
    name (given.Hold p) = refl
    name (given.Start p) = name-word p

given-plain : (ex : Exercise) (line : GivenBar) → ex.voices ≤ 4 → ex.bars ≤ 24 → IsGivenBar ex line
    → is_line (given_words line) ≡ true
given-plain ex line voices bars fits =
    rw (
      number-word line.voice (omega (arith, fits.free.there, voices)),
      number-word line.bar (omega (arith, fits.within, bars)),
      items-words given_goes_on given-through given_word is_word given_word-plain line.cells
          (omega (arith, fits.whole)),
    ) refl

version_of-few : (given : List GivenBar) → version_of given ≤ 9999999
version_of-few [] = omega arith
version_of-few (line ∷ given) = omega arith

pub exercise_lines-plain : (ex : Exercise) → IsValid ex → list_all is_line (exercise_lines ex) ≡ true
exercise_lines-plain ex valid =
    let before = lines_before_given (version_of ex.given) ex in
    list_all-append is_line before (map given_words ex.given)
    ∙ and_from (list_all is_line before) (list_all is_line (map given_words ex.given))
    (before_given-plain (version_of ex.given) ex (version_of-few ex.given) valid)
    (all-plain given_words ex.given (λ k d lt. given-plain ex _ valid.most_voices valid.most_bars (valid.given_fit k d lt)))

-- ---- the lines of a setting

item_word-plain : (c : Cell) (n : ℕ) → n ≤ 9999999 → is_word (item_word (c, n)) ≡ true
item_word-plain c n few = word-append (item_name c) (58 ∷ decimal n) (name c) (word_ink (decimal n) (number-word n few))
  where
    name : (c : Cell) → is_word (item_name c) ≡ true
    name Rest = refl
    name (Hold p) = refl
    name (Start p) = name-word p

items-plain : (cs : List Cell) → length cs ≤ 9999999 → list_all is_word (items_words cs) ≡ true
items-plain cs few = items-words goes_on goes_on-same item_word is_word item_word-plain cs few

bar-plain : (v : ℕ) (columns : List (List Cell)) (bar : ℕ) → list_all is_word (bar_words v (bar_columns columns bar))
    ≡ true
bar-plain v columns bar =
    items-plain (line v (bar_columns columns bar))
    (omega (
      arith,
      length-map (bar_columns columns bar) (λ col. cell_in col v),
      length-take 8
          (drop (8 * (bar - 1)) columns),
    ))

later_bars-plain : (v : ℕ) (columns : List (List Cell)) (bars : List ℕ)
    → list_all is_word (flat_map (λ other. codes "|" ∷ other) (map (bar_words v) (map (bar_columns columns) bars)))
    ≡ true
later_bars-plain v columns [] = refl
later_bars-plain v columns (bar ∷ bars) =
    let others = flat_map (λ other. codes "|" ∷ other) (map (bar_words v) (map (bar_columns columns) bars)) in
    list_all-append is_word (bar_words v (bar_columns columns bar)) others
    ∙ and_from (list_all is_word (bar_words v (bar_columns columns bar))) (list_all is_word others)
    (bar-plain v columns bar)
    (later_bars-plain v columns bars)

bars-plain : (v : ℕ) (columns : List (List Cell)) (bars : List ℕ)
    → list_all is_word (between_bar_lines (map (bar_words v) (map (bar_columns columns) bars))) ≡ true
bars-plain v columns [] = refl
bars-plain v columns (bar ∷ bars) = later_bars-plain v columns (bar ∷ bars)

sing-plain : (v : ℕ) (columns : List (List Cell)) → v ≤ 9999999 → is_line (sing_words v columns) ≡ true
sing-plain v columns few = rw (number-word v few, bars-plain v columns (range_with_len 1 (length columns / 8))) refl

-- each voice that is kept of a range is one of it
voices-plain : (columns : List (List Cell)) (keep : ℕ → Bool) (n a : ℕ) → a + n ≤ 9999999
    → list_all is_line (map (λ v. sing_words v columns) (filter keep (range_with_len a n))) ≡ true
voices-plain columns keep zero a few = refl
voices-plain columns keep (suc n) a few = by (keep a) refl (voices-plain columns keep n (a + 1) (omega (arith, few)))
  where
    lines : List ℕ → List (List (List ℕ))
    lines vs = map (λ v. sing_words v columns) vs

    by : (b : Bool) → keep a ≡ b → list_all is_line (lines (filter keep (range_with_len (a + 1) n))) ≡ true
        → list_all is_line (lines (filter keep (a ∷ range_with_len (a + 1) n))) ≡ true
    by true e rest =
        rw e (and_from (is_line (sing_words a columns))
        (list_all is_line (lines (filter keep (range_with_len (a + 1) n))))
        (sing-plain a columns (omega (arith, few))) rest)
    by false e rest = rw e rest

pub sung_lines-plain : (ex : Exercise) (o : Option Grid) → ex.voices ≤ 4 → list_all is_line (sung_lines ex o) ≡ true
sung_lines-plain ex None few = refl
sung_lines-plain ex (Some score) few =
    voices-plain score.columns (λ v. not (v == ex.cantus_voice)) ex.voices 0 (omega (arith, few))
