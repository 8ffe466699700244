-- A note text is read as its exercise (`note_text-read`), and what is written is a note text
-- (`note_text-own`). So it is with the `sing` lines of a setting alone (`setting_lines-read`,
-- `sing_lines-own`).
use Rattle.std.proofs.Common.{◌≡◌, inl, inr, ℕ, suc, ◌+◌, ◌≤◌, true, false, List, [], ◌∷◌, ◌++◌, length, map, Option, Some, None, Ok, refl, sym, ap, subst, ◌∙◌, append_assoc, arith}
use Rattle.std.specs.Prelude.{IfSome, codes, ⊤}
use Rattle.std.specs.Fmt.{decimal}
use Rattle.std.specs.List.{list_all}
use Rattle.std.specs.Str.Lines.{lines}
use Rattle.std.proofs.lemmas.Bool.{and_from}
use Rattle.std.proofs.lemmas.Grind.{flat_map-append}
use Rattle.std.proofs.lemmas.List.{append-nil}
use Rattle.std.proofs.lemmas.List.Folds.{flat_map-map, list_all-append}
use Rattle.fux_grid.specs.declared.exercise.Exercise.{Exercise}
use Rattle.fux_grid.specs.declared.exercise.Relax.{Relax}
use Rattle.fux_grid.specs.declared.given.GivenBar.{GivenBar}
use Rattle.fux_grid.specs.Exercises.{AreSpecies, FitsGiven, IsGiven, IsValid}
use Rattle.fux_grid.specs.Grid.{Grid}
use Rattle.text_lines.specs.Reading.{begins, same_text}
use Rattle.text_lines.specs.Tables.{table_in, text_read}
use Rattle.text_lines.specs.Words.{LineWords}
use Rattle.std.specs.Str.{IsUtf8}
use Rattle.fux_text.specs.Fitting.{any_cells, line_fits}
use Rattle.fux_text.specs.Grammar.{AreGivenLines, AreSettingLines, IsNoteText, IsSettingOf, IsVersionFor, Sings}
use Rattle.fux_text.specs.Head.{version_table}
use Rattle.fux_text.specs.Limits.{newest_version}
use Rattle.fux_text.specs.Lines.{cantus_words, exercise_lines, exercise_text, free_voices, given_words, head_lines, lines_before_given, note_text, range_words, relax_words, setting_text, sing_text, sing_words, version_of, version_words, voices_word}
use Rattle.fux_text.specs.ReadBack.{NoteTextReadsBack, SingLinesReadBack, sing_lines}
use Rattle.fux_text.specs.declared.fault.TextKind.TheVariants as kinds
use Rattle.fux_text.specs.Reading.{exercise_in, setting_alone}
use Rattle.fux_text.specs.Texts.{AreSingLinesOf, IsTextOf}
use Rattle.fux_text.specs.Words.{text_line, text_of, words_in}
use Rattle.text_lines.specs.Lines.{lines_from}
use Rattle.text_lines.specs.Utf8.{text_in}
use Rattle.text_lines.proofs.Faulty.{text_in-ok}
use Rattle.fux_text.proofs.Alike.{alike, free-alike, given-alike, givens-alike, ranges-alike, relaxes-alike, sings-alike}
use Rattle.fux_text.proofs.Fits.{fits-alike, line-fits}
use Rattle.fux_text.proofs.Layouts.{layout_of, left, lines-laid, lines_at}
use Rattle.fux_text.proofs.OwnGivens.{given_words-lines, givens-own}
use Rattle.fux_text.proofs.OwnHead.{behind_head, head-own, head_of, version-own}
use Rattle.fux_text.proofs.OwnRanges.{IsSmall, ranges-own}
use Rattle.fux_text.proofs.OwnRelax.{relaxes-own}
use Rattle.fux_text.proofs.OwnSetting.{BeginWithSing, IsSingable, SettingFits, setting-own, sings-begin, sung_lines, sung_lines-sing, sung_score-own}
use Rattle.fux_text.proofs.PlainLines.{exercise_lines-plain, sung_lines-plain}
use Rattle.fux_text.proofs.PlainWords.{is_line, text-utf8, words_in-own}

-- ---- the text as lines

sing_lines-text : (ex : Exercise) (score : Grid) → sing_lines ex score.columns ≡ text_of (sung_lines ex (Some score))
unfolding sing_text
sing_lines-text ex score = sym (flat_map-map text_line (λ v. sing_words v score.columns) (free_voices ex))

note_text-lines : (ex : Exercise) (o : Option Grid) → note_text ex o ≡ text_of (exercise_lines ex ++ sung_lines ex o)
unfolding exercise_text setting_text
note_text-lines ex None = ap text_of (sym (append-nil (exercise_lines ex)))
note_text-lines ex (Some score) =
    ap (λ more. text_of (exercise_lines ex) ++ more) (sing_lines-text ex score)
    ∙ sym (flat_map-append text_line (exercise_lines ex) (sung_lines ex (Some score)))

-- the lines behind the cantus
abbrev later_lines : Exercise → List (List (List ℕ)) → List (List (List ℕ))
later_lines ex more = map range_words ex.ranges ++ (map relax_words ex.relax ++ more)

lines-parts : (version : ℕ) (ex : Exercise) (more : List (List (List ℕ)))
    → lines_before_given version ex ++ more
    ≡ version_words version ∷ (head_lines ex ++ cantus_words ex ∷ later_lines ex more)
lines-parts version ex more =
    let front = version_words version ∷ head_lines ex in
    append_assoc (front ++ cantus_words ex ∷ map range_words ex.ranges) (map relax_words ex.relax) more
    ∙ append_assoc front (cantus_words ex ∷ map range_words ex.ranges) (map relax_words ex.relax ++ more)

lines-plain : (ex : Exercise) (o : Option Grid) → IsValid ex → list_all is_line
    (exercise_lines ex ++ sung_lines ex o) ≡ true
lines-plain ex o valid =
    list_all-append is_line (exercise_lines ex) (sung_lines ex o)
    ∙ and_from (list_all is_line (exercise_lines ex)) (list_all is_line (sung_lines ex o))
    (exercise_lines-plain ex valid)
    (sung_lines-plain ex o valid.most_voices)

-- ---- which line begins how

-- the first of these lines begins with another word
abbrev BeginsOther : List ℕ → List (List (List ℕ)) → Type 0
BeginsOther name [] = ⊤
BeginsOther name (words ∷ lines) =
    (word : List ℕ) × (others : List (List ℕ)) × (words ≡ word ∷ others) × (same_text word name ≡ false)

no_name : (name : List ℕ) (lines : List (List (List ℕ))) (after : ℕ) (lay : ℕ → LineWords) → BeginsOther name lines
    → begins name (left after (lines_at lay lines)) ≡ false
unfolding begins
no_name name [] after lay other = refl
no_name name (words ∷ lines) after lay (word, others, e, differs) =
    subst (λ ws. begins name (left after (lines_at lay (ws ∷ lines))) ≡ false) (sym e) differs

-- behind the lines of what is given stand those of a setting
sung-other : (name : List ℕ) (lines : List (List (List ℕ))) → same_text (codes "sing") name ≡ false → BeginWithSing lines
    → BeginsOther name lines
sung-other name [] differs sing = tt
sung-other name (words ∷ lines) differs (others, e) = (codes "sing", others, e, differs)

given-other : (name : List ℕ) (given : List GivenBar) (fixed lines : List (List (List ℕ)))
    → same_text (codes "given") name ≡ false → AreGivenLines fixed given → BeginsOther name lines
    → BeginsOther name (fixed ++ lines)
given-other name [] [] lines differs are other = other
given-other name (line ∷ given) [] lines differs are other = absurd are
given-other name [] (words ∷ fixed) lines differs are other = absurd are
given-other name (line ∷ given) (words ∷ fixed) lines differs are other =
    (codes "given", decimal line.voice ∷ decimal line.bar ∷ are.0.items, are.0.written, differs)

relax-other : (name : List ℕ) (rs : List Relax) (lines : List (List (List ℕ))) → same_text (codes "relax") name ≡ false
    → BeginsOther name lines → BeginsOther name (map relax_words rs ++ lines)
relax-other name [] lines differs other = other
relax-other name (r ∷ rs) lines differs other = (
  codes "relax",
  (codes "S" ++ decimal r.rule) ∷ voices_word r.voices ∷ decimal r.from ∷ decimal r.to ∷ decimal r.price ∷ [],
  refl,
  differs,
)

-- ---- what the lines before a setting say of it doesn't change what is valid

small : (ex : Exercise) → IsValid ex → IsSmall (head_of ex)
small ex valid = record { voices = valid.most_voices; bars = valid.most_bars }

singable : (ex other : Exercise) → IsValid ex → IsSingable (alike ex other)
singable ex other valid = record {
  fewest_voices = valid.fewest_voices;
  most_voices = valid.most_voices;
  some_bars = omega (arith, valid.fewest_bars);
  whole_cantus = valid.whole_cantus;
}

-- the cells of each voice of a setting that fits do so
setting-fits : (ex : Exercise) (o : Option Grid) (lines : List (List (List ℕ))) → Sings ex lines o
    → IfSome o (λ score. FitsGiven ex score.columns)
    → SettingFits (line_fits (record (head_of ex) { given = ex.given })) (head_of ex) o
setting-fits ex None lines sings fits = tt
setting-fits ex (Some score) lines sings fits = λ v there.
    line-fits (record (head_of ex) { given = ex.given }) v score.columns sings.0.given.complete.whole there
    (fits-alike ex (head_of ex) score.columns fits)

-- ---- the texts

-- a text is read as the words of its lines
text_in-words : (bytes : List ℕ) (ls : List (List (List ℕ))) → length bytes ≤ 65536 → IsUtf8 bytes → words_in bytes ≡ ls
    → text_in kinds.TooLong kinds.NotUtf8 bytes ≡ Ok (left (1 + length (lines bytes)) (lines_at (layout_of (lines_from 1 bytes)) ls))
unfolding words_in
text_in-words bytes ls short utf8 words =
    text_in-ok kinds.TooLong kinds.NotUtf8 bytes short utf8
    ∙ ap (λ found. Ok (left (1 + length (lines bytes)) found)) (sym (lines-laid (lines_from 1 bytes)))
    ∙ ap (λ found. Ok (left (1 + length (lines bytes)) (lines_at (layout_of (lines_from 1 bytes)) found))) words

-- a version in which notes may be given is one of those that there are
version-within : (version : ℕ) (given : List GivenBar) → IsVersionFor version given
    → (1 ≤ version) × (version ≤ newest_version)
version-within version given (inl (one, none)) = (omega (arith, one), omega (arith, one))
version-within version given (inr second) = (omega (arith, second), omega (arith, second))

-- a note text is read
pub note_text-read : (bytes : List ℕ) (ex : Exercise) → IsNoteText bytes ex → exercise_in bytes ≡ Ok ex
unfolding exercise_in text_read table_in
note_text-read bytes ex t =
    let behind_relax = t.fixed ++ t.sung in
    let ls = lines_before_given t.version ex ++ behind_relax in
    let after : ℕ = 1 + length (lines bytes) in
    let lay = layout_of (lines_from 1 bytes) in
    let rest = λ (k : ℕ). lay (suc k) in
    let relaxing = map relax_words ex.relax ++ behind_relax in
    let body = head_lines ex ++ cantus_words ex ∷ later_lines ex behind_relax in
    let sing = sings-begin ex t.sung ex.setting t.setting in
    let bounds = version-within t.version ex.given t.newer in
    let version : table_in version_table (left after (lines_at lay ls)) ≡ Ok (t.version, left after (lines_at rest body)) =
    ap (λ all. table_in version_table (left after (lines_at lay all))) (lines-parts t.version ex behind_relax)
    ∙ version-own t.version after lay body bounds.0 bounds.1 in
    let behind_given = given-other (codes "range") ex.given t.fixed t.sung refl t.given
    (sung-other (codes "range") t.sung refl sing) in
    let ranges = ranges-own ex (head_of ex) after (behind_head rest) relaxing (small ex t.valid)
    (ranges-alike ex (head_of ex) ex.ranges t.valid.range_lines_fit)
    (λ v free. t.valid.each_has_range v (free-alike (head_of ex) ex v free))
    (λ other. no_name (codes "range") relaxing after other
    (relax-other (codes "range") ex.relax behind_relax refl behind_given)) in
    let relax = relaxes-own (head_of ex) ex.relax after ranges.0 behind_relax (omega (arith, t.valid.fewest_voices))
    (small ex t.valid)
    (relaxes-alike ex (head_of ex) ex.relax t.valid.relax_fit) t.valid.few_relax
    (λ other. no_name (codes "relax") behind_relax after other
    (given-other (codes "relax") ex.given t.fixed t.sung refl t.given
    (sung-other (codes "relax") t.sung refl sing))) in
    let given = givens-own t.version (head_of ex) ex.given t.fixed after relax.0 t.sung (small ex t.valid)
    (givens-alike ex (head_of ex) ex.given t.valid.given_fit) t.valid.given_ascend t.given t.newer
    (λ other. no_name (codes "given") t.sung after other (sung-other (codes "given") t.sung refl sing)) in
    rw (
      text_in-words bytes ls t.short t.utf8 t.lines,
      version,
      head-own ex after rest (later_lines ex behind_relax) t.valid,
      ranges.1,
      relax.1,
      given.1,
      setting-own (line_fits (record (head_of ex) { given = ex.given })) (head_of ex) ex.setting after given.0 t.sung
          (singable ex (head_of ex) t.valid)
          (sings-alike ex (head_of ex) t.sung ex.setting t.setting) (setting-fits ex ex.setting t.sung t.setting t.valid.setting_fits),
    ) (ap (λ (species : Option (List ℕ)). Ok (record ex { mixed = species })) (sym t.unmixed))

-- and so are the lines of a setting
pub setting_lines-read : (ex : Exercise) (bytes : List ℕ) (score : Grid) → IsValid ex → AreSettingLines ex bytes score
    → setting_alone ex bytes ≡ Ok score
unfolding setting_alone text_read
setting_lines-read ex bytes score valid t =
    let after : ℕ = 1 + length (lines bytes) in
    let lay = layout_of (lines_from 1 bytes) in
    rw (
      text_in-words bytes (words_in bytes) t.short t.utf8 refl,
      sung_score-own any_cells ex score after lay (words_in bytes) (singable ex ex valid) t.setting.0 (λ v there. refl)
          t.setting.1,
    ) refl

-- an exercise with another setting
valid_with : (ex : Exercise) (o : Option Grid) → IsValid ex → IfSome o (IsSettingOf ex)
    → IfSome o (λ score. FitsGiven ex score.columns) → IsValid (record ex { setting = o })
valid_with ex o valid setting fitting = record {
  fewest_voices = valid.fewest_voices;
  most_voices = valid.most_voices;
  fewest_bars = valid.fewest_bars;
  most_bars = valid.most_bars;
  least_species = valid.least_species;
  most_species = valid.most_species;
  species_there = valid.species_there;
  cantus_there = valid.cantus_there;
  differ = valid.differ;
  mixed = species ex.mixed valid.mixed;
  whole_cantus = valid.whole_cantus;
  range_lines_fit = ranges-alike ex (record ex { setting = o }) ex.ranges valid.range_lines_fit;
  each_has_range = λ v free. valid.each_has_range v (free-alike (record ex { setting = o }) ex v free);
  relax_fit = relaxes-alike ex (record ex { setting = o }) ex.relax valid.relax_fit;
  few_relax = valid.few_relax;
  given_fit = givens-alike ex (record ex { setting = o }) ex.given valid.given_fit;
  given_ascend = valid.given_ascend;
  setting = given o setting;
  setting_fits = fits o fitting;
}
  where
    species : (m : Option (List ℕ)) → IfSome m (AreSpecies ex) → IfSome m (AreSpecies (record ex { setting = o }))
    species None s = tt
    species (Some each) s = record {
      free = λ v free. s.free v (free-alike (record ex { setting = o }) ex v free);
      cantus = s.cantus;
    }

    fits : (o : Option Grid) → IfSome o (λ score. FitsGiven ex score.columns)
        → IfSome o (λ score. FitsGiven (record ex { setting = o }) score.columns)
    fits None f = tt
    fits (Some score) f = fits-alike ex (record ex { setting = Some score }) score.columns f

    given : (o : Option Grid) → IfSome o (IsSettingOf ex) → IfSome o (IsGiven (record ex { setting = o }))
    given None s = tt
    given (Some score) s = given-alike ex (record ex { setting = Some score }) score s.given

-- what is written is of a version in which what is given may be
written-version : (given : List GivenBar) → IsVersionFor (version_of given) given
written-version [] = inl (refl, refl)
written-version (line ∷ given) = inr refl

-- what is written is a note text
pub note_text-own : (ex : Exercise) (o : Option Grid) → IsValid ex → ex.mixed ≡ None → IfSome o (IsSettingOf ex)
    → IfSome o (λ score. FitsGiven ex score.columns)
    → length (note_text ex o) ≤ 65536 → IsNoteText (note_text ex o) (record ex { setting = o })
note_text-own ex o valid unmixed setting fits short =
    let ls = exercise_lines ex ++ sung_lines ex o in
    let text = note_text-lines ex o in
    let plain = lines-plain ex o valid in
    let before = lines_before_given (version_of ex.given) ex in
    record {
      short = short;
      utf8 = subst IsUtf8 (sym text) (text-utf8 ls plain);
      version = version_of ex.given;
      fixed = map given_words ex.given;
      sung = sung_lines ex o;
      lines = ap words_in text ∙ words_in-own ls plain
          ∙ append_assoc before (map given_words ex.given) (sung_lines ex o);
      newer = written-version ex.given;
      given = given_words-lines ex ex.given valid.given_fit;
      unmixed = unmixed;
      valid = valid_with ex o valid setting fits;
      setting = sings-alike ex (record ex { setting = o }) (sung_lines ex o) o (sung_lines-sing ex o (omega (arith, valid.fewest_bars)) setting);
    }

pub sing_lines-own : (ex : Exercise) (score : Grid) → IsValid ex → IsSettingOf ex score
    → length (sing_lines ex score.columns) ≤ 65536 → AreSettingLines ex (sing_lines ex score.columns) score
sing_lines-own ex score valid setting short =
    let ls = sung_lines ex (Some score) in
    let text = sing_lines-text ex score in
    let plain = sung_lines-plain ex (Some score) valid.most_voices in
    record {
      short = short;
      utf8 = subst IsUtf8 (sym text) (text-utf8 ls plain);
      setting = subst (λ found. Sings ex found (Some score)) (sym (ap words_in text ∙ words_in-own ls plain))
          (sung_lines-sing ex (Some score) (omega (arith, valid.fewest_bars)) setting);
    }

-- so it is read back
pub note_text-back : NoteTextReadsBack
unfolding IsTextOf
note_text-back ex o valid unmixed setting fits short =
    note_text-own ex o valid unmixed setting fits short

pub sing_lines-back : SingLinesReadBack
unfolding AreSingLinesOf
sing_lines-back ex score valid setting short =
    sing_lines-own ex score valid setting short
