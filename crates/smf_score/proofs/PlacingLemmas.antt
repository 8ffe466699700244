-- A note overlaps an earlier one just if it starts before the last of them has ended
-- (`overlap_is`); the first voice of notes has those of the first rank (`run_is_voice`).
use Rattle.std.proofs.Common.{◌≡◌, ℕ, suc, ◌+◌, ◌<◌, Bool, true, false, List, [], ◌∷◌, drop, get_or, length, take, refl, sym, ◌∙◌, ap, arith, cond, eqb, ltb, max, add-one}
use Rattle.std.specs.Prelude.{◌||◌, reverse}
use Rattle.std.specs.List.{prefix_len}
use Rattle.std.proofs.lemmas.Bool.{eqb-true, le-ltb}
use Rattle.std.proofs.lemmas.Bool.Decides.{nat_tests}
use Rattle.std.proofs.lemmas.List.{reverse-append, take_more}
use Rattle.std.proofs.Math.Seq.{drop-cons}
use Rattle.fux_pitch.specs.Spelling.{spelled}
use Rattle.smf_score.specs.declared.played.Played.{Played}
use Rattle.smf_score.specs.Placing.{is_overlap, joined, latest, note_placed, place_spelled, slot_of, voices_of, with_earlier}

-- a slot lies before the later of two just if it lies before one of them
before_either : (s m e : ℕ) → (ltb s e || ltb s m) ≡ ltb s (max m e)
before_either s m e = grind (arith, nat_tests)

pub overlap_is : (division : ℕ) (notes : List Played) (note : Played)
    → is_overlap division notes note ≡ ltb (slot_of division note.start) (latest division notes)
overlap_is division [] note = sym (le-ltb (slot_of division note.start) 0 (omega arith))
overlap_is division (earlier ∷ notes) note =
    ap (λ (b : Bool). ltb (slot_of division note.start) (slot_of division earlier.end) || b)
    (overlap_is division notes note)
    ∙ before_either (slot_of division note.start) (latest division notes) (slot_of division earlier.end)

-- a note that is placed behind where the earlier ones have ended
pub placed_as : (division : ℕ) (earlier : List Played) (note : Played) (ended : ℕ) → ended ≡ latest division earlier
    → place_spelled division (ltb (slot_of division note.start) ended) note (spelled note.key)
    ≡ note_placed division (earlier, note)
placed_as division earlier note ended e =
    ap (λ (b : Bool). place_spelled division b note (spelled note.key))
    (ap (ltb (slot_of division note.start)) e ∙ sym (overlap_is division earlier note))

-- the earlier notes of the next one, and the next one
pub earlier_more : (notes : List Played) (i : ℕ) (d : Played) → i < length notes
    → reverse (take (i + 1) notes) ≡ get_or notes i d ∷ reverse (take i notes)
earlier_more notes i d within =
    ap reverse (take_more notes i d within) ∙ reverse-append (take i notes) (get_or notes i d ∷ [])

pub ended_more : (division : ℕ) (notes : List Played) (i : ℕ) (d : Played) (ended end after : ℕ) → i < length notes
    → ended ≡ latest division (reverse (take i notes)) → end ≡ slot_of division (get_or notes i d).end
    → after ≡ max ended end → after ≡ latest division (reverse (take (i + 1) notes))
ended_more division notes i d ended end after within before own last =
    rw (earlier_more notes i d within, ← before, ← own) last

pub notes_next : (notes : List Played) (i : ℕ) (d : Played) → i < length notes
    → with_earlier (reverse (take i notes)) (drop i notes)
    ≡ (reverse (take i notes), get_or notes i d) ∷ with_earlier (reverse (take (i + 1) notes)) (drop (i + 1) notes)
notes_next notes i d within =
    rw (earlier_more notes i d within, drop-cons notes i d within, add-one i) refl

-- how many of the first notes have a rank
abbrev pub run_of : ℕ → List Played → ℕ
run_of rank notes = prefix_len (λ note. eqb note.rank rank) notes

pub run_is_voice : (note : Played) (notes : List Played)
    → voices_of (note ∷ notes) ≡ (note ∷ take (run_of note.rank notes) notes)
    ∷ voices_of (drop (run_of note.rank notes) notes)
run_is_voice note [] = refl
run_is_voice note (next ∷ notes) =
    ap (joined note) (run_is_voice next notes) ∙ at (eqb next.rank note.rank) refl (run_is_voice next notes)
  where
    own : List Played
    own = next ∷ take (run_of next.rank notes) notes

    others : List (List Played)
    others = voices_of (drop (run_of next.rank notes) notes)

    count : Bool → ℕ
    count t = cond t (1 + run_of note.rank notes) 0

    at : (t : Bool) → eqb next.rank note.rank ≡ t → voices_of (next ∷ notes) ≡ own ∷ others
        → cond t ((note ∷ own) ∷ others) ((note ∷ []) ∷ own ∷ others)
        ≡ (note ∷ take (count t) (next ∷ notes)) ∷ voices_of (drop (count t) (next ∷ notes))
    at true same e =
        let more : 1 + run_of note.rank notes ≡ suc (run_of note.rank notes) = omega arith in
        rw more (ap (λ (r : ℕ). (note ∷ next ∷ take (run_of r notes) notes) ∷ voices_of (drop (run_of r notes) notes))
        (eqb-true next.rank note.rank same))
    at false other e = ap (λ (voices : List (List Played)). (note ∷ []) ∷ voices) (sym e)

-- the first voice of some notes, and the others
pub voices_next : (notes own later others : List Played) (first : Played) (k : ℕ) → notes ≡ first ∷ others
    → k ≡ run_of first.rank others → own ≡ take (1 + k) notes → later ≡ drop (1 + k) notes
    → voices_of notes ≡ own ∷ voices_of later
voices_next notes own later others first k parts run front back =
    let next : 1 + k ≡ suc k = omega arith in
    rw (front, back, next, parts, run) (run_is_voice first others)
