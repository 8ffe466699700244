-- A voice has the same notes in bars and in their columns (`pitches-held`, `previous-held`), and
-- sounds the same before a bar (`sounding-held`). Within a bar nothing starts (`starts-held`,
-- `column_held`).
use Rattle.std.proofs.Common.{◌≡◌, ℕ, zero, suc, ◌<◌, List, [], ◌∷◌, ◌++◌, false, map, reverse, replicate, refl, ap, ◌∙◌, arith}
use Rattle.std.specs.Prelude.{slice_get, slice_index_or}
use Rattle.std.proofs.lemmas.List.{get_or-replicate}
use Rattle.fux_grid.specs.declared.cell.Cell.{Cell}
use Rattle.fux_grid.specs.declared.cell.Cell.TheVariants.{Rest, Hold, Start}
use Rattle.fux_grid.specs.declared.cell.Note.{Note}
use Rattle.fux_grid.specs.Cells.{cell_in, first_of, notes_from, pitch_of}
use Rattle.fux_grid.specs.Columns.{line, newest_column}
use Rattle.melody_rules.specs.Rows.{last_of, pitches}
use Rattle.rule_law.specs.Terms.{note_pitch, previous_pitch, starts}
use Rattle.canon_space.specs.Canons.{bar_before}
use Rattle.canon_space.specs.Rules.{columns_of_bar, goes_on}
use Rattle.works.proofs.BarColumns.{held_columns}

-- ---- within a bar

pub cell-held : (bar : List Cell) (v : ℕ) → cell_in (map goes_on bar) v ≡ goes_on (cell_in bar v)
cell-held [] v = refl
cell-held (c ∷ cells) zero = refl
cell-held (c ∷ cells) (suc v) = cell-held cells v

starts_no_more : (c : Cell) → starts (goes_on c) ≡ false
starts_no_more Rest = refl
starts_no_more (Hold p) = refl
starts_no_more (Start p) = refl

pub starts-held : (bar : List Cell) (v : ℕ) → starts (cell_in (map goes_on bar) v) ≡ false
starts-held bar v = ap starts (cell-held bar v) ∙ starts_no_more (cell_in bar v)

sounds_on : (c : Cell) → pitch_of (goes_on c) ≡ pitch_of c
sounds_on Rest = refl
sounds_on (Hold p) = refl
sounds_on (Start p) = refl

pub column_held : (bar : List Cell) (slot : ℕ) → 0 < slot → slot < 8
    → slice_index_or (columns_of_bar bar) slot [] ≡ map goes_on bar
column_held bar zero late low = absurd (omega arith)
column_held bar (suc slot) late low = get_or-replicate 7 slot (map goes_on bar) [] (omega (arith, low))

-- ---- the notes before a bar

eight_cells : (c : Cell) (cells others : List Cell) (h k : ℕ)
    → ((m n : ℕ) → map (λ (n : Note). n.pitch) (notes_from m cells) ≡ map (λ (n : Note). n.pitch) (notes_from n others))
    → map (λ (n : Note). n.pitch) (notes_from h (goes_on c ∷ goes_on c ∷ goes_on c ∷ goes_on c ∷ goes_on c ∷ goes_on c ∷ goes_on c
    ∷ c ∷ cells))
    ≡ map (λ (n : Note). n.pitch) (notes_from k (c ∷ others))
eight_cells Rest cells others h k same = same 0 0
eight_cells (Hold p) cells others h k same = same _ _
eight_cells (Start p) cells others h k same = ap (λ ps. p ∷ ps) (same 0 0)

bar_line : (v : ℕ) (bar : List Cell) (more : List (List Cell))
    → line v (reverse (columns_of_bar bar) ++ more)
    ≡ cell_in (map goes_on bar) v ∷ cell_in (map goes_on bar) v ∷ cell_in (map goes_on bar) v ∷ cell_in (map goes_on bar) v
    ∷ cell_in (map goes_on bar) v ∷ cell_in (map goes_on bar) v ∷ cell_in (map goes_on bar) v ∷ cell_in bar v ∷ line v more
bar_line v bar more = refl

same_notes : (v : ℕ) (behind : List (List Cell)) (h k : ℕ)
    → map (λ (n : Note). n.pitch) (notes_from h (line v (held_columns behind)))
    ≡ map (λ (n : Note). n.pitch) (notes_from k (line v behind))
same_notes v [] h k = refl
same_notes v (bar ∷ behind) h k =
    ap (λ cells. map (λ (n : Note). n.pitch) (notes_from h cells)) (bar_line v bar (held_columns behind))
    ∙ ap
    (λ c. map (λ (n : Note). n.pitch)
    (notes_from h (c ∷ c ∷ c ∷ c ∷ c ∷ c ∷ c ∷ cell_in bar v ∷ line v (held_columns behind)))) (cell-held bar v)
    ∙ eight_cells (cell_in bar v) (line v (held_columns behind)) (line v behind) h k (same_notes v behind)

pub pitches-held : (v : ℕ) (behind : List (List Cell)) → pitches (line v (held_columns behind)) ≡ pitches (line v behind)
pitches-held v behind = same_notes v behind 0 0

first-pitch : (notes : List Note) → note_pitch (first_of notes) ≡ slice_get (map (λ (n : Note). n.pitch) notes) 0
first-pitch [] = refl
first-pitch (n ∷ notes) = refl

pub previous-held : (v : ℕ) (behind : List (List Cell))
    → previous_pitch (line v (held_columns behind)) ≡ last_of (pitches (line v behind))
previous-held v behind = first-pitch (notes_from 0 (line v (held_columns behind))) ∙ ap last_of (pitches-held v behind)

-- ---- what sounds before a bar

pub sounding-held : (v : ℕ) (behind : List (List Cell))
    → pitch_of (cell_in (newest_column (held_columns behind)) v) ≡ pitch_of (cell_in (bar_before 1 behind) v)
sounding-held v [] = refl
sounding-held v (bar ∷ behind) = ap pitch_of (cell-held bar v) ∙ sounds_on (cell_in bar v)
