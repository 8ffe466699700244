-- A text that is read is a note text of what is read (`note_text-only`), and lines that are read as
-- a setting are its lines (`setting_lines-only`).
use Rattle.std.proofs.Common.{◌≡◌, ℕ, List, ◌∷◌, ◌++◌, map, Option, Some, None, Ok, refl, sym, ap, subst, ◌∙◌, append_assoc}
use Rattle.fux_grid.specs.declared.exercise.Exercise.{Exercise}
use Rattle.fux_grid.specs.declared.exercise.RangeLine.{RangeLine}
use Rattle.fux_grid.specs.declared.exercise.Relax.{Relax}
use Rattle.fux_grid.specs.declared.given.GivenBar.{GivenBar}
use Rattle.fux_grid.specs.Exercises.{IsValid}
use Rattle.fux_grid.specs.Grid.{Grid}
use Rattle.text_lines.specs.Lines.{TextLines, lines_in}
use Rattle.text_lines.specs.Tables.{IsTable}
use Rattle.text_lines.proofs.TextLemmas.{text-right}
use Rattle.fux_text.specs.Fitting.{any_cells, line_fits}
use Rattle.fux_text.specs.Grammar.{AreGivenLines, AreSettingLines, IsNoteText, IsVersionFor, Sings}
use Rattle.fux_text.specs.Lines.{cantus_words, head_lines, lines_before_given, range_words, relax_words, version_words}
use Rattle.fux_text.specs.Reading.{exercise_in, note_format, note_table, setting_alone}
use Rattle.fux_text.specs.Sing.{sung_table}
use Rattle.fux_text.specs.Words.{words_in}
use Rattle.fux_text.proofs.Alike.{sings-alike}
use Rattle.fux_text.proofs.Givens.{givens-read, givens-version}
use Rattle.fux_text.proofs.OnlyHead.{head-only, version-only}
use Rattle.fux_text.proofs.OnlyRanges.{ranges-only, relaxes-only}
use Rattle.fux_text.proofs.OnlySetting.{setting-only, sung_score-only}
use Rattle.fux_text.proofs.OnlyWords.{line_texts}
use Rattle.fux_text.proofs.ValidHead.{head-valid, version-bounds}
use Rattle.fux_text.proofs.ValidText.{exercise-valid}

-- the words of bytes are those of their lines
words-of_lines : (bytes : List ℕ) → words_in bytes ≡ line_texts (lines_in bytes)
unfolding words_in
words-of_lines bytes = refl

-- the lines of an exercise's head, its ranges and its relax lines are those of the exercise
all_lines : (version : ℕ) (head : Exercise) (ranges : List RangeLine) (relax : List Relax) (given : List GivenBar)
    (o : Option Grid) (more : List (List (List ℕ)))
    → version_words version
    ∷ (head_lines head ++ cantus_words head ∷ (map range_words ranges ++ (map relax_words relax ++ more)))
    ≡ lines_before_given version (record head { ranges = ranges; relax = relax; given = given; setting = o }) ++ more
all_lines version head ranges relax given o more =
    let front = version_words version ∷ head_lines head in
    sym (append_assoc (front ++ cantus_words head ∷ map range_words ranges) (map relax_words relax) more
    ∙ append_assoc front (cantus_words head ∷ map range_words ranges) (map relax_words relax ++ more))

-- the lines of an exercise, of what it gives and of its setting
record HasLines (text : TextLines) (ex : Exercise) : Type 0 where
  pub version : ℕ
  pub fixed : List (List (List ℕ))
  pub sung : List (List (List ℕ))
  pub lines : line_texts text ≡ lines_before_given version ex ++ (fixed ++ sung)
  pub newer : IsVersionFor version ex.given
  pub given : AreGivenLines fixed ex.given
  pub unmixed : ex.mixed ≡ None
  pub setting : Sings ex sung ex.setting

lines-only : (text : TextLines) (ex : Exercise) (rest : TextLines) → IsTable note_table text ex rest → HasLines text ex
lines-only text ex rest
    (version, v, vs, (head, a, h, (ranges, b, rs, (relax, c, ls, (given, d, gs, (setting, e, sg, same)))))) =
    let ok = head-valid v head a h in
    let sung = line_texts d in
    let read = givens-read version head c given d ok.voices.above gs in
    subst (HasLines text) same.0
    (record {
      version = version;
      fixed = read.fixed;
      sung = sung;
      lines = version-only text version v vs
          ∙ ap (λ ls. version_words version ∷ ls)
          (head-only v head a h
          ∙ ap (λ ls. head_lines head ++ cantus_words head ∷ ls)
          (ranges-only head a ranges b rs ∙ ap (λ ls. map range_words ranges ++ ls)
          (relaxes-only head b relax c ls ∙ ap (λ ls. map relax_words relax ++ ls) read.words)))
          ∙ all_lines version head ranges relax given setting (read.fixed ++ sung);
      newer = givens-version version head c given d (version-bounds text version v vs) gs;
      given = read.given;
      unmixed = ok.unmixed;
      setting = sings-alike head (record head { ranges = ranges; relax = relax; given = given; setting = setting }) sung setting
          (setting-only (line_fits (record head { given = given })) head d setting e ok.cantus_there ok.whole sg);
    })

pub note_text-only : (bytes : List ℕ) (ex : Exercise) → exercise_in bytes ≡ Ok ex → IsNoteText bytes ex
unfolding exercise_in
note_text-only bytes ex e =
    let r = text-right (note_format note_table) bytes ex e in
    let l = lines-only (lines_in bytes) ex r.rest r.lines in
    record {
      short = r.short;
      utf8 = r.utf8;
      version = l.version;
      fixed = l.fixed;
      sung = l.sung;
      lines = words-of_lines bytes ∙ l.lines;
      newer = l.newer;
      given = l.given;
      unmixed = l.unmixed;
      valid = exercise-valid bytes ex e;
      setting = l.setting;
    }

pub setting_lines-only : (ex : Exercise) (bytes : List ℕ) (score : Grid) → IsValid ex → setting_alone ex bytes
    ≡ Ok score
    → AreSettingLines ex bytes score
unfolding setting_alone
setting_lines-only ex bytes score valid e =
    let r = text-right (note_format (sung_table any_cells ex)) bytes score e in
    record {
      short = r.short;
      utf8 = r.utf8;
      setting = subst (λ ls. Sings ex ls (Some score)) (sym (words-of_lines bytes))
          (sung_score-only any_cells ex (lines_in bytes) score r.rest valid.cantus_there valid.whole_cantus r.lines);
    }
