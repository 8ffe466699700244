-- The notes of a file: from the stroke that begins each to the stroke that ends it.
use Rattle.std.specs.Prelude.{◌≡◌, ℕ, ◌+◌, ◌-◌, ◌*◌, ◌<◌, ◌^◌, ◌==◌, ◌&&◌, Bool, true, false, List, [], ◌∷◌, ◌++◌, length, Option, Some, None, slice_index_or, if◌then◌else◌}
use Rattle.std.specs.Option.{option_to_list}
use Rattle.smf_score.specs.declared.strokes.Act.{Act}
use Rattle.smf_score.specs.declared.strokes.Act.TheVariants.{Strike, Release, End, Nothing}
use Rattle.smf_score.specs.declared.strokes.Stroke.{Stroke}
use Rattle.smf_score.specs.declared.played.Layout.{Layout}
use Rattle.smf_score.specs.declared.played.Played.{Played}

-- a stroke ends the note of a channel and key; the events of a file stand track by track, and each
-- track ends all its notes
abbrev pub ends_note : ℕ → ℕ → Act → Bool
ends_note channel key (Strike c k) = (c == channel) && (k == key)
ends_note channel key (Release c k) = (c == channel) && (k == key)
ends_note channel key End = true
ends_note channel key Nothing = false

-- when the note of a channel and key ends, of the strokes behind its beginning
abbrev pub end_of : ℕ → ℕ → List Stroke → ℕ
end_of channel key [] = 0
end_of channel key (stroke ∷ strokes) =
    if ends_note channel key stroke.act then stroke.tick else end_of channel key strokes

-- the rank of a voice: the first track or channel is the lowest voice, or the highest
abbrev pub rank_of : Layout → ℕ → ℕ
rank_of layout part = if layout.top_first then 65535 - part else part

-- the note of a voice of a rank, which faults name by a track
abbrev pub played : ℕ → ℕ → ℕ → ℕ → ℕ → Played
played rank track start end key =
    record { rank = rank; track = track; start = start; end = end; key = key }

-- the note that a stroke begins: in format 0 a channel is a voice, and faults name track 0; else a
-- track is one
abbrev pub begun_by : Layout → ℕ → ℕ → Act → List Stroke → Option Played
begun_by layout track tick (Strike channel key) later =
    Some (if layout.format == 0 then played (rank_of layout channel) 0 tick (end_of channel key later) key
    else played (rank_of layout track) track tick (end_of channel key later) key)
begun_by layout track tick (Release channel key) later = None
begun_by layout track tick End later = None
begun_by layout track tick Nothing later = None

abbrev pub note_of : Layout → Stroke → List Stroke → Option Played
note_of layout stroke later = begun_by layout stroke.track stroke.tick stroke.act later

-- the notes of a file in the order in which they are struck
abbrev pub notes_in : Layout → List Stroke → List Played
notes_in layout [] = []
notes_in layout (stroke ∷ later) = option_to_list (note_of layout stroke later) ++ notes_in layout later

-- a table has the end of the note of each channel and key
pub record AreEnds (later : List Stroke) (table : List ℕ) : Type 0 where
  pub size : length table ≡ 2048
  pub ends : (channel key : ℕ) → channel < 16 → key < 128
      → slice_index_or table (128 * channel + key) 0 ≡ end_of channel key later

-- what the numbers of a note are below
pub record IsPlayed (note : Played) : Type 0 where
  pub start : note.start < 2 ^ 48
  pub end : note.end < 2 ^ 48
  pub key : note.key < 128

-- each time of a table is early enough for a note
abbrev pub AreEarly : List ℕ → Type 0
AreEarly table = (i : ℕ) → i < 2048 → slice_index_or table i 0 < 2 ^ 48
