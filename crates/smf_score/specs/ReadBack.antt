-- What is written reads back: the law that joins the two directions.
use Rattle.std.specs.Prelude.{◌≡◌, ℕ, ◌<◌, List, map, length, reverse, Some, None, [], false, true, All, Result, Ok}
use Rattle.std.specs.Option.{unwrap_or}
use Rattle.fux_pitch.specs.declared.pitch.Pitch.{Pitch}
use Rattle.fux_pitch.specs.Spelling.{spelled}
use Rattle.fux_grid.specs.declared.cell.Cell.{Cell}
use Rattle.fux_grid.specs.declared.cell.Cell.TheVariants.{Rest, Hold, Start}
use Rattle.fux_grid.specs.declared.exercise.Exercise.{Exercise}
use Rattle.fux_grid.specs.declared.exercise.Head.{Head}
use Rattle.fux_grid.specs.Grid.{Grid}
use Rattle.fux_grid.specs.Cells.{is_start}
use Rattle.fux_grid.specs.Columns.{HistoryFollows, cell_at}
use Rattle.fux_grid.specs.Exercises.{IsGiven, IsValid}
use Rattle.smf_score.specs.declared.fault.SmfFault.{SmfFault}
use Rattle.smf_score.specs.Reading.{IsReading}
use Rattle.smf_score.specs.Written.{midi_key, smf_of}

-- the pitch that the key of a pitch is spelled as; each key of a pitch is spelled
abbrev pub respelled : Pitch → Pitch
respelled p = unwrap_or (spelled (midi_key p)) p

-- a cell with its pitch spelled by its key
abbrev pub respelled_cell : Cell → Cell
respelled_cell Rest = Rest
respelled_cell (Hold p) = Hold (respelled p)
respelled_cell (Start p) = Start (respelled p)

-- a score with each pitch spelled by its key
abbrev pub respelled_score : Grid → Grid
respelled_score score = record { voices = score.voices; columns = map (map respelled_cell) score.columns }

-- a voice has a note: it starts at a column
abbrev pub HasNote : List (List Cell) → ℕ → Type 0
HasNote s v = (i : ℕ) × (i < length s) × (is_start (cell_at s v i) ≡ true)

-- a score of a valid exercise, with the cells of the cantus and a note in each voice; each score
-- keeps that its columns are full and follow one another
pub record IsSounding (ex : Exercise) (score : Grid) : Type 0 where
  pub valid : IsValid ex
  pub given : IsGiven ex score
  pub full : All (λ col. length col ≡ ex.voices) score.columns
  pub follows : HistoryFollows (reverse score.columns)
  pub notes : (v : ℕ) → v < ex.voices → HasNote score.columns v

-- a head names the cantus voice of an exercise and one of its voices, and says that the lowest
-- voice comes first
pub record IsHeadOf (ex : Exercise) (head : Head) : Type 0 where
  pub species_voice : head.species_voice < ex.voices
  pub cantus_voice : head.cantus_voice ≡ ex.cantus_voice
  pub lowest_first : head.top_first ≡ false

-- an exercise that was read is the one that was written, with what the head says in place of what a
-- file of notes doesn't tell, and with its score as the setting, each pitch spelled by its key
pub record IsReadBack (ex : Exercise) (score : Grid) (head : Head) (read : Exercise) : Type 0 where
  pub mode : read.mode ≡ head.mode
  pub voices : read.voices ≡ ex.voices
  pub bars : read.bars ≡ ex.bars
  pub species : read.species ≡ head.species
  pub species_voice : read.species_voice ≡ head.species_voice
  pub mixed : read.mixed ≡ None
  pub cantus_voice : read.cantus_voice ≡ ex.cantus_voice
  pub cantus : read.cantus ≡ map respelled ex.cantus
  pub relax : read.relax ≡ []
  pub given : read.given ≡ []
  pub setting : read.setting ≡ Some (respelled_score score)

-- bytes have this reading and no other
abbrev pub ReadsOnlyAs : Head → List ℕ → Exercise → Type 0
ReadsOnlyAs head bytes read =
    IsReading head bytes (Ok read) × ((other : Result Exercise SmfFault) → IsReading head bytes other → other ≡ Ok read)

-- the file of a score has one reading: its exercise with this score
abbrev pub ReadsBack : Type 0
ReadsBack = (ex : Exercise) (score : Grid) (head : Head) → IsSounding ex score → IsHeadOf ex head
    → (read : Exercise) × ReadsOnlyAs head (smf_of score) read × IsReadBack ex score head read
