-- The grammar of the note text: which words its lines have. But for `given` and `sing` lines they
-- are those that are written.
use Rattle.std.specs.Prelude.{All, reverse, ◌≡◌, ◌⊎◌, ℕ, ◌≤◌, List, [], ◌∷◌, ◌++◌, Option, Some, None, codes, length, ⊤}
use Rattle.std.specs.Fmt.{decimal}
use Rattle.std.specs.Str.{IsUtf8}
use Rattle.fux_grid.specs.declared.cell.Cell.{Cell}
use Rattle.fux_grid.specs.declared.exercise.Exercise.{Exercise}
use Rattle.fux_grid.specs.declared.given.GivenBar.{GivenBar}
use Rattle.fux_grid.specs.Columns.{HistoryFollows, line}
use Rattle.fux_grid.specs.Exercises.{IsGiven, IsValid}
use Rattle.fux_grid.specs.Grid.{Grid}
use Rattle.text_lines.specs.Rows.{IsRun}
use Rattle.fux_text.specs.GivenLines.{given_run}
use Rattle.fux_text.specs.Lines.{free_voices, lines_before_given}
use Rattle.fux_text.specs.Sing.{sung_run}
use Rattle.fux_text.specs.Words.{words_in}

-- the words of a `sing` line: its voice, and items and bar lines that run through so many bars and
-- have these cells
pub record IsSung (bars v : ℕ) (words : List (List ℕ)) (cells : List Cell) : Type 0 where
  pub items : List (List ℕ)
  pub written : words ≡ codes "sing" ∷ decimal v ∷ items
  pub run : IsRun (sung_run bars) (0, []) items cells

-- a setting of an exercise: a complete score with the cantus, whose columns have a cell for each
-- voice and follow one another (the last two hold of every score of the program)
pub record IsSettingOf (ex : Exercise) (score : Grid) : Type 0 where
  pub given : IsGiven ex score
  pub full : All (λ col. length col ≡ ex.voices) score.columns
  pub follows : HistoryFollows (reverse score.columns)

-- a line for each of these voices, in their order, where each voice has such cells
abbrev pub AreSung : ℕ → (ℕ → List Cell) → List ℕ → List (List (List ℕ)) → Type 0
AreSung bars cells [] [] = ⊤
AreSung bars cells [] (words ∷ lines) = ⊥
AreSung bars cells (v ∷ vs) [] = ⊥
AreSung bars cells (v ∷ vs) (words ∷ lines) = IsSung bars v words (cells v) × AreSung bars cells vs lines

-- the lines of a setting, one for each free voice, or no lines
abbrev pub Sings : Exercise → List (List (List ℕ)) → Option Grid → Type 0
Sings ex lines None = lines ≡ []
Sings ex lines (Some score) = IsSettingOf ex score × AreSung ex.bars (λ v. line v score.columns) (free_voices ex) lines

-- the words of a `given` line: its voice, its bar, and items that have its cells
pub record IsGivenLine (words : List (List ℕ)) (line : GivenBar) : Type 0 where
  pub items : List (List ℕ)
  pub written : words ≡ codes "given" ∷ decimal line.voice ∷ decimal line.bar ∷ items
  pub run : IsRun (given_run line.voice line.bar) [] items line

-- a line for each bar that is given, in their order
abbrev pub AreGivenLines : List (List (List ℕ)) → List GivenBar → Type 0
AreGivenLines [] [] = ⊤
AreGivenLines [] (line ∷ given) = ⊥
AreGivenLines (words ∷ lines) [] = ⊥
AreGivenLines (words ∷ lines) (line ∷ given) = IsGivenLine words line × AreGivenLines lines given

-- the versions in which notes may be given: any of no notes, and the second of some
abbrev pub IsVersionFor : ℕ → List GivenBar → Type 0
IsVersionFor version given = ((version ≡ 1) × (given ≡ [])) ⊎ (version ≡ 2)

-- a note text of an exercise whose species aren't mixed: it has the exercise's lines in a version,
-- those of the notes that the exercise gives, and then those of its setting, if it has one
pub record IsNoteText (bytes : List ℕ) (ex : Exercise) : Type 0 where
  pub short : length bytes ≤ 65536
  pub utf8 : IsUtf8 bytes
  pub version : ℕ
  pub fixed : List (List (List ℕ))
  pub sung : List (List (List ℕ))
  pub lines : words_in bytes ≡ lines_before_given version ex ++ (fixed ++ sung)
  pub newer : IsVersionFor version ex.given
  pub given : AreGivenLines fixed ex.given
  pub unmixed : ex.mixed ≡ None
  pub valid : IsValid ex
  pub setting : Sings ex sung ex.setting

-- the `sing` lines of a setting of an exercise, and no others
pub record AreSettingLines (ex : Exercise) (bytes : List ℕ) (score : Grid) : Type 0 where
  pub short : length bytes ≤ 65536
  pub utf8 : IsUtf8 bytes
  pub setting : Sings ex (words_in bytes) (Some score)
