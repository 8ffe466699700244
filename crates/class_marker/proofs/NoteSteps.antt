-- One step over the notes of a voice, back or on.
use Rattle.std.proofs.Common.{◌≡◌, ℕ, suc, ◌+◌, ◌<◌, false, List, [], ◌∷◌, ◌++◌, None, refl, ap, sym, ◌∙◌, add-one, append_assoc, arith, cond, drop, get_or, length, take}
use Rattle.std.proofs.Math.Seq.{drop-cons}
use Rattle.std.proofs.lemmas.List.{get_or-take, length-take}
use Rattle.fux_pitch.specs.declared.pitch.Pitch.{Pitch}
use Rattle.fux_grid.specs.declared.cell.Cell.{Cell}
use Rattle.fux_grid.specs.declared.cell.Cell.TheVariants.{Rest, Hold, Start}
use Rattle.fux_grid.specs.declared.cell.Note.{Note}
use Rattle.fux_grid.specs.declared.cell.Onset.{Onset}
use Rattle.fux_grid.specs.Cells.{first_of, onsets_from}
use Rattle.fux_grid.specs.Columns.{cell_at, line, onsets_since}
use Rattle.class_marker.specs.Notes.{is_turned, turning_from}

-- where there is no first note, there is none
pub no_note : (notes : List Note) → first_of notes ≡ None → notes ≡ []
no_note [] h = refl
no_note (n ∷ notes) h = cc

-- a note that doesn't turn: the ones before it are asked
pub turning-on : (after here before : Note) (notes all : List Note) → all ≡ before ∷ notes
    → is_turned before.pitch here.pitch after.pitch ≡ false
    → turning_from after here all ≡ turning_from here before notes
turning-on after here before notes all e t =
    ap (turning_from after here) e
    ∙ ap (λ b. cond b here.start (turning_from here before notes)) t

-- the column at a place, and those behind it, of the first columns
drop-there : (s : List (List Cell)) (i end : ℕ) → i < end → i < length s
    → drop i (take end s) ≡ get_or s i [] ∷ drop (i + 1) (take end s)
drop-there s i end h k =
    let within : i < length (take end s) = omega (arith, length-take end s) in
    drop-cons (take end s) i [] within
    ∙ ap (λ c. c ∷ drop (suc i) (take end s)) (get_or-take end s i [] h)
    ∙ ap (λ n. get_or s i [] ∷ drop n (take end s)) (sym (add-one i))

-- the note that starts at a column, and the ones behind it
pub since-start : (s : List (List Cell)) (v i end : ℕ) (p : Pitch) → i < end → i < length s
    → cell_at s v i ≡ Start p → onsets_since (take end s) v i
    ≡ record { start = i; pitch = p } ∷ onsets_since (take end s) v (i + 1)
since-start s v i end p h k e =
    let P : Cell → List Onset = λ c. onsets_from i (c ∷ line v (drop (i + 1) (take end s))) in
    ap (λ t. onsets_from i (line v t)) (drop-there s i end h k) ∙ ap P e
    ∙ ap (λ n. record { start = i; pitch = p } ∷ onsets_from n (line v (drop (i + 1) (take end s))))
    (sym (add-one i))

-- where none starts, those behind it
pub since-other : (s : List (List Cell)) (v i end : ℕ) → i < end → i < length s
    → ((p : Pitch) → cell_at s v i ≡ Start p → ⊥)
    → onsets_since (take end s) v i ≡ onsets_since (take end s) v (i + 1)
since-other s v i end h k none =
    ap (λ t. onsets_from i (line v t)) (drop-there s i end h k)
    ∙ unstarted (cell_at s v i) none
  where
    unstarted : (c : Cell) → ((p : Pitch) → c ≡ Start p → ⊥)
        → onsets_from i (c ∷ line v (drop (i + 1) (take end s)))
        ≡ onsets_from (i + 1) (line v (drop (i + 1) (take end s)))
    unstarted Rest f =
        ap (λ n. onsets_from n (line v (drop (i + 1) (take end s)))) (sym (add-one i))
    unstarted (Hold q) f =
        ap (λ n. onsets_from n (line v (drop (i + 1) (take end s)))) (sym (add-one i))
    unstarted (Start q) f = absurd (f q refl)

-- a note that was appended is left no more
pub kept-on : {X : Type 0} (x : X) (notes next rest later whole : List X) → next ≡ notes ++ x ∷ []
    → rest ≡ x ∷ later → notes ++ rest ≡ whole → next ++ later ≡ whole
kept-on x notes next rest later whole e r h =
    ap (λ t. t ++ later) e ∙ append_assoc notes (x ∷ []) later ∙ ap (λ t. notes ++ t) (sym r) ∙ h
