-- The row of a written note or rest.
use Rattle.std.specs.Prelude.{ℕ, ◌/◌, ◌%◌, ◌==◌, ◌&&◌, ◌||◌, ℤ, pos, negsuc, Bool, not, nat_lt, List, [], ◌∷◌, ◌++◌, codes, is_some, if◌then◌else◌}
use Rattle.std.specs.Fmt.{decimal}
use Rattle.std.specs.Ordering.{int_eq}
use Rattle.std.specs.Option.{option_map_or}
use Rattle.fux_pitch.specs.declared.pitch.Pitch.{Pitch}
use Rattle.fux_pitch.specs.Pitch.{degree_of, alter_of}
use Rattle.fux_pitch.specs.Names.{letter_byte}
use Rattle.written_notes.specs.declared.bar.Written.{Written}
use Rattle.written_notes.specs.declared.beams.Beam.{Beam}
use Rattle.written_notes.specs.declared.beams.Beam.TheVariants.{Without, Begins, Ends}
use Rattle.written_notes.specs.declared.marks.SheetMark.{SheetMark}
use Rattle.written_notes.specs.declared.marks.Spot.{Spot}
use Rattle.written_notes.specs.declared.signs.Sign.{Sign}
use Rattle.written_notes.specs.declared.signs.Sign.TheVariants.{Plain, Sharp, Flat, Natural}
use Rattle.written_notes.specs.declared.values.Base.{Base}
use Rattle.written_notes.specs.declared.values.Base.TheVariants.{Whole, Half, Quarter, Eighth}
use Rattle.written_notes.specs.Beams.{beam_of}
use Rattle.written_notes.specs.Marks.{is_red}

-- a text, where it is shown
abbrev pub if_shown : Bool → List ℕ → List ℕ
if_shown shown text = if shown then text else []

-- the name of a degree's letter
abbrev pub step_name : ℕ → List ℕ
step_name degree = letter_byte (degree % 7) ∷ []

-- the element of an alteration
abbrev pub alter_element : ℤ → List ℕ
alter_element alter =
    if int_eq alter (pos 1) then codes "<alter>1</alter>"
    else (if int_eq alter (negsuc 0) then codes "<alter>-1</alter>" else [])

-- the element of the octave of a degree
unfoldable pub octave_element : ℕ → List ℕ
octave_element degree = codes "<octave>" ++ decimal (degree / 7) ++ codes "</octave>"

-- the element of a pitch, as it is spelled
unfoldable pub pitch_element : Pitch → List ℕ
pitch_element p =
    codes "<pitch><step>" ++ step_name (degree_of p) ++ codes "</step>"
    ++ alter_element (alter_of p)
    ++ octave_element (degree_of p) ++ codes "</pitch>"

-- the element of a rest: one that fills the bar says so
abbrev pub rest_element : ℕ → List ℕ
rest_element slots = if slots == 8 then codes "<rest measure=\"yes\"/>" else codes "<rest/>"

-- the element of what sounds
abbrev pub sounding : Written → List ℕ
sounding note = option_map_or pitch_element note.pitch (rest_element note.slots)

-- the elements of a note's ties
unfoldable pub tie_elements : Written → List ℕ
tie_elements note =
    if_shown note.tie_in (codes "<tie type=\"stop\"/>")
    ++ if_shown note.tie_out (codes "<tie type=\"start\"/>")

-- the name of a base
abbrev pub type_name : Base → List ℕ
type_name Whole = codes "whole"
type_name Half = codes "half"
type_name Quarter = codes "quarter"
type_name Eighth = codes "eighth"

-- the elements of a note's value and dots
unfoldable pub value_elements : Written → List ℕ
value_elements note =
    codes "<type>" ++ type_name note.value.base ++ codes "</type>"
    ++ if_shown (nat_lt 0 note.value.dots) (codes "<dot/>")
    ++ if_shown (nat_lt 1 note.value.dots) (codes "<dot/>")

-- a rest that fills the bar has no value: editors set it in the middle
abbrev pub type_element : Written → List ℕ
type_element note =
    if not (is_some note.pitch) && (note.slots == 8) then [] else value_elements note

-- the element of a sign
abbrev pub sign_element : Sign → List ℕ
sign_element Plain = []
sign_element Sharp = codes "<accidental>sharp</accidental>"
sign_element Flat = codes "<accidental>flat</accidental>"
sign_element Natural = codes "<accidental>natural</accidental>"

-- the element of a beam
abbrev pub beam_element : Beam → List ℕ
beam_element Without = []
beam_element Begins = codes "<beam number=\"1\">begin</beam>"
beam_element Ends = codes "<beam number=\"1\">end</beam>"

-- a tie goes into a note, or out of it
unfoldable pub is_tied : Written → Bool
is_tied note = note.tie_in || note.tie_out

-- the notations of a note's ties
unfoldable pub notations : Written → List ℕ
notations note =
    if_shown (is_tied note) (codes "<notations>")
    ++ if_shown note.tie_in (codes "<tied type=\"stop\"/>")
    ++ if_shown note.tie_out (codes "<tied type=\"start\"/>")
    ++ if_shown (is_tied note) (codes "</notations>")

-- the element of so many slots
unfoldable pub duration_element : ℕ → List ℕ
duration_element slots = codes "<duration>" ++ decimal slots ++ codes "</duration>"

-- the row of one of a bar's written notes
unfoldable pub note_row : List Written → List SheetMark → Spot → List ℕ
note_row notes marks spot =
    codes "<note" ++ if_shown (is_red marks spot) (codes " color=\"#C00000\"") ++ codes ">"
    ++ sounding spot.note
    ++ duration_element spot.note.slots
    ++ tie_elements spot.note
    ++ codes "<voice>1</voice>"
    ++ type_element spot.note
    ++ sign_element spot.note.sign
    ++ if_shown (is_red marks spot) (codes "<notehead color=\"#C00000\">normal</notehead>")
    ++ beam_element (beam_of notes spot.note)
    ++ notations spot.note
    ++ codes "</note>\n"
