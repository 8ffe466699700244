-- A voice shows its cadence by its cells in the bar before (`voice_reading`).
use Rattle.std.specs.Prelude.{◌≡◌, ℕ, zero, suc, ◌+◌, ◌-◌, ◌<◌, ◌≤◌, ◌==◌, Bool, true, false, ◌&&◌, IsTrue, List, [], ◌∷◌, ◌++◌, Option, Some, None, if◌then◌else◌, length, reverse, slice_index_or, take, refl}
use Rattle.std.specs.List.{list_all}
use Rattle.std.proofs.Common.{ap, sym, ◌∙◌, arith}
use Rattle.std.proofs.Math.ListN.{get_or-append}
use Rattle.std.proofs.lemmas.Bool.{eq-eqb, ne_eqb}
use Rattle.std.proofs.lemmas.List.{length-map, take-append-le}
use Rattle.fux_pitch.specs.declared.pitch.Pitch.{Pitch}
use Rattle.fux_grid.specs.declared.cell.Cell.{Cell}
use Rattle.fux_grid.specs.declared.cell.Cell.TheVariants.{Rest, Hold, Start}
use Rattle.fux_grid.specs.declared.cell.Note.{Note}
use Rattle.fux_grid.specs.declared.exercise.Exercise.{Exercise}
use Rattle.fux_grid.specs.Cells.{cell_follows, cell_in, first_of, is_hold, newest, notes_from, pitch_of}
use Rattle.fux_grid.specs.Columns.{HistoryFollows, cell_at, earlier, line, newest_column}
use Rattle.fux_grid.specs.Exercises.{species_in}
use Rattle.fux_grid.proofs.Histories.{get_or-earlier, line-more}
use Rattle.rule_law.proofs.AroundLemmas.{length-earlier}
use Rattle.rule_law.proofs.AtOnce.{among_own, newly_breaks-there}
use Rattle.rule_law.specs.Degrees.{lies_above}
use Rattle.rule_law.specs.Leading.{is_leading}
use Rattle.rule_law.specs.Nearby.{LineFollows, line_follows}
use Rattle.rule_law.specs.Places.{reading_of}
use Rattle.rule_law.specs.Rulebooks.{IsAmong, newly_breaks}
use Rattle.rule_law.specs.Sounding.{sounding_note}
use Rattle.rule_law.specs.Terms.{note_pitch, sounds, started_pitch}
use Rattle.rhythm_cadence.specs.Book.{cadence_rule}
use Rattle.rhythm_cadence.specs.Cadence.{cadence_row, ends_well, has_suspension, held_pitch, holds_suspension, is_lead, leading_slot, leads_to, shows_cadence, starts_final}
use Rattle.rhythm_cadence.specs.BarCells.{bar_behind}
use Rattle.rhythm_cadence.specs.Rows.{begins_last_bar}
use Rattle.rhythm_cadence.proofs.EarlierFollows.{follows_earlier}

-- ---- a note and where it started

-- the pitch of a note that started at column k
abbrev pitch_from : ℕ → Option Note → Option Pitch
pitch_from k None = None
pitch_from k (Some note) = if note.start == k then Some note.pitch else None

-- the notes of a line start in it
started_later : (k h : ℕ) (cells : List Cell) → length cells ≤ k → pitch_from k (first_of (notes_from h cells)) ≡ None
started_later k h [] f = refl
started_later k h (Rest ∷ cells) f = started_later k 0 cells (omega (arith, f))
started_later k h (Hold p ∷ cells) f = started_later k (suc h) cells (omega (arith, f))
started_later k h (Start p ∷ cells) f =
    ap (λ b. if b then Some p else None) (ne_eqb (length cells) k (λ e. omega (arith, e, f)))

sounds_before : (b : Cell) (p : Pitch) → IsTrue (cell_follows b (Hold p)) → sounds b ≡ true
sounds_before Rest p h = cc
sounds_before (Hold q) p h = refl
sounds_before (Start q) p h = refl

-- where a voice sounds, its note started so many columns before the newest if it's held in exactly
-- those that came after
note_held : (m h : ℕ) (cells : List Cell) → LineFollows cells → m < length cells → sounds (newest cells) ≡ true
    → held_pitch m cells ≡ pitch_from (length cells - 1 - m) (first_of (notes_from h cells))
note_held m h [] f within s = absurd (omega (arith, within))
note_held m h (Rest ∷ cells) f within s = cc
note_held zero h (Start p ∷ cells) f within s =
    sym (ap (λ b. if b then Some p else None) (eq-eqb (length cells) (suc (length cells) - 1 - 0) (omega arith)))
note_held (suc m) h (Start p ∷ cells) f within s =
    sym (ap (λ b. if b then Some p else None)
    (ne_eqb (length cells) (suc (length cells) - 1 - suc m) (λ e. omega (arith, e, within))))
note_held zero h (Hold p ∷ cells) f within s =
    sym (started_later (suc (length cells) - 1 - 0) (suc h) cells (omega arith))
note_held (suc m) h (Hold p ∷ cells) f within s =
    note_held m (suc h) cells f.1 (omega (arith, within)) (sounds_before (newest cells) p f.0)
    ∙ ap (λ k. pitch_from k (first_of (notes_from (suc h) cells))) (omega arith)

-- where it rests, none is held
none_held : (m : ℕ) (cells : List Cell) → sounds (newest cells) ≡ false → held_pitch m cells ≡ None
none_held zero [] s = refl
none_held (suc m) [] s = refl
none_held zero (Rest ∷ cells) s = refl
none_held (suc m) (Rest ∷ cells) s = refl
none_held m (Hold p ∷ cells) s = cc
none_held m (Start p ∷ cells) s = cc

newest_of_line : (v : ℕ) (behind : List (List Cell)) → newest (line v behind) ≡ cell_in (newest_column behind) v
newest_of_line v [] = refl
newest_of_line v (col ∷ behind) = refl

-- so the note that a voice sounds is found by the cells that hold it
note_found : (m v : ℕ) (behind : List (List Cell)) → HistoryFollows behind → m < length behind
    → held_pitch m (line v behind) ≡ pitch_from (length behind - 1 - m) (sounding_note v behind)
note_found m v behind follows within = at (sounds (cell_in (newest_column behind) v)) refl
  where
    same : length (line v behind) ≡ length behind
    same = length-map behind (λ col. cell_in col v)

    at : (b : Bool) → sounds (cell_in (newest_column behind) v) ≡ b
        → held_pitch m (line v behind) ≡ pitch_from (length behind - 1 - m)
        (if b then first_of (notes_from 0 (line v behind)) else None)
    at true e =
        note_held m 0 (line v behind) (line_follows v behind follows) (omega (arith, within, same))
        (ap sounds (newest_of_line v behind) ∙ e)
        ∙ ap (λ n. pitch_from (n - 1 - m) (first_of (notes_from 0 (line v behind)))) same
    at false e = none_held m (line v behind) (ap sounds (newest_of_line v behind) ∙ e)

-- ---- the bar before

one_more : (s : List (List Cell)) (v j k : ℕ) → j ≡ k + 1 → k < length s → line v (earlier s j) ≡ cell_at s v k
    ∷ line v (earlier s k)
one_more s v j k e h = ap (λ n. line v (earlier s n)) e ∙ line-more s v k h

line-bar : (s : List (List Cell)) (v i : ℕ) → 8 ≤ i → i ≤ length s → line v (earlier s i) ≡ bar_behind s v i
    ++ line v (earlier s (i - 8))
line-bar s v i h k =
    one_more s v i (i - 1) (omega (arith, h)) (omega (arith, h, k))
    ∙ ap (λ cs. cell_at s v (i - 1) ∷ cs) (one_more s v (i - 1) (i - 2) (omega (arith, h)) (omega (arith, h, k))
    ∙ ap (λ cs. cell_at s v (i - 2) ∷ cs) (one_more s v (i - 2) (i - 3) (omega (arith, h)) (omega (arith, h, k))
    ∙ ap (λ cs. cell_at s v (i - 3) ∷ cs) (one_more s v (i - 3) (i - 4) (omega (arith, h)) (omega (arith, h, k))
    ∙ ap (λ cs. cell_at s v (i - 4) ∷ cs) (one_more s v (i - 4) (i - 5) (omega (arith, h)) (omega (arith, h, k))
    ∙ ap (λ cs. cell_at s v (i - 5) ∷ cs) (one_more s v (i - 5) (i - 6) (omega (arith, h)) (omega (arith, h, k))
    ∙ ap (λ cs. cell_at s v (i - 6) ∷ cs) (one_more s v (i - 6) (i - 7) (omega (arith, h)) (omega (arith, h, k))
    ∙ ap (λ cs. cell_at s v (i - 7) ∷ cs) (one_more s v (i - 7) (i - 8) (omega (arith, h)) (omega (arith, h, k)))))))))

held-append : (m : ℕ) (xs ys : List Cell) → m < length xs → held_pitch m (xs ++ ys) ≡ held_pitch m xs
held-append m xs ys h =
    ap (λ cs. if list_all is_hold cs then started_pitch (slice_index_or (xs ++ ys) m Rest) else None)
    (take-append-le m xs ys (omega (arith, h)))
    ∙ ap (λ c. if list_all is_hold (take m xs) then started_pitch c else None) (get_or-append xs ys Rest m h)

-- ---- S22

slot_bound : (species : ℕ) → leading_slot species ≤ 6
slot_bound species = at (species == 1) (species == 3)
  where
    at : (a b : Bool) → (if a then 0 else (if b then 6 else 4)) ≤ 6
    at true b = omega arith
    at false true = omega arith
    at false false = omega arith

-- the tests of a voice are the same of its note and of the pitch that was found
voice_same : (ex : Exercise) (i species : ℕ) (final : Option Pitch) (f x : Bool) (g : Option Pitch → Bool)
    (note : Option Note) (lead : Option Pitch)
    → lead ≡ pitch_from (i - 8 + leading_slot species) note
    → ((f && leads_to ex (i - 8) species final note) && (if x then g (note_pitch note) else true))
    ≡ ((f && is_lead ex final lead) && (if x then g lead else true))
voice_same ex i species final f x g None lead e = rw e (neither f)
  where
    neither : (f : Bool) → ((f && false) && (if x then g None else true))
        ≡ ((f && false) && (if x then g None else true))
    neither f = refl
voice_same ex i species final f x g (Some note) lead e = at (note.start == (i - 8 + leading_slot species)) e
  where
    at : (b : Bool) → lead ≡ (if b then Some note.pitch else None)
        → ((f && ((is_leading ex.mode note.pitch && lies_above 1 final (Some note.pitch)) && b))
        && (if x then g (Some note.pitch) else true))
        ≡ ((f && is_lead ex final lead) && (if x then g lead else true))
    at true h = rw h (passes f (is_leading ex.mode note.pitch && lies_above 1 final (Some note.pitch))
        (if x then g (Some note.pitch) else true))
      where
        passes : (f a y : Bool) → ((f && (a && true)) && y) ≡ ((f && a) && y)
        passes true true y = refl
        passes true false y = refl
        passes false a y = refl
    at false h = rw h (fails f (is_leading ex.mode note.pitch && lies_above 1 final (Some note.pitch))
        (if x then g (Some note.pitch) else true) (if x then g None else true))
      where
        fails : (f a y z : Bool) → ((f && (a && false)) && y) ≡ ((f && false) && z)
        fails true true y z = refl
        fails true false y z = refl
        fails false a y z = refl

module _ (ex : Exercise) (s : List (List Cell)) (i : ℕ) (follows : HistoryFollows (reverse s)) (far : 8 ≤ i)
    (here : i < length s) where
  size : length (earlier s i) ≡ i
  size = length-earlier s i (omega (arith, here))

  lead_found : (v species : ℕ)
      → held_pitch (7 - leading_slot species) (bar_behind s v i)
      ≡ pitch_from (i - 8 + leading_slot species) (sounding_note v (earlier s i))
  lead_found v species =
      let bound : leading_slot species ≤ 6 = slot_bound species in
      sym (held-append (7 - leading_slot species) (bar_behind s v i) (line v (earlier s (i - 8))) (omega arith))
      ∙ ap (held_pitch (7 - leading_slot species)) (sym (line-bar s v i far (omega (arith, here))))
      ∙ note_found (7 - leading_slot species) v (earlier s i) (follows_earlier s i (omega (arith, here)) follows)
      (omega (arith, far, size))
      ∙ ap (λ k. pitch_from k (sounding_note v (earlier s i))) (omega (arith, far, bound, size))

  eighth : slice_index_or (earlier s i) 7 [] ≡ slice_index_or s (i - 8) []
  eighth =
      let same : i - 1 - 7 ≡ i - 8 = omega (arith, far) in
      get_or-earlier s i 7 (omega (arith, far)) (omega (arith, here)) ∙ ap (λ n. slice_index_or s n []) same

  -- a voice shows its cadence by its cells in the bar before
  pub voice_reading : (v : ℕ) → shows_cadence ex i (earlier s i) (slice_index_or s i []) v
      ≡ ends_well ex (slice_index_or s (i - 8) []) (bar_behind s v i) (slice_index_or s i []) v
  voice_reading v =
      let now = slice_index_or s i [] in
      voice_same ex i (species_in ex v) (pitch_of (cell_in now v)) (starts_final ex (cell_in now v))
      (has_suspension (species_in ex v))
      (λ lead. holds_suspension ex (slice_index_or (earlier s i) 7 []) lead v) (sounding_note v (earlier s i))
      (held_pitch (7 - leading_slot (species_in ex v)) (bar_behind s v i)) (lead_found v (species_in ex v))
      ∙ ap (λ start. ends_well ex start (bar_behind s v i) now v) eighth

-- at its place among the newest columns it is settled at once
pub cadence_settles : (ex : Exercise) (voices : ℕ) (p : List (List Cell)) (col : List Cell) (i : ℕ)
    → IsAmong (length p) (if begins_last_bar ex (length p) then 1 else 0) i
    → (i ≡ length p)
    × (newly_breaks cadence_rule ex voices p col i ≡ reading_of (cadence_row ex voices) (p ++ col ∷ []) i)
cadence_settles ex voices p col i among =
    let own : i ≡ length p = among_own (begins_last_bar ex (length p)) i (length p) among in
    (own, newly_breaks-there cadence_rule ex voices (λ i behind now ahead. refl) p col i own)
