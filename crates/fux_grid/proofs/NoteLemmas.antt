-- The notes of a voice in a list of columns.
use Rattle.std.proofs.Common.{◌≡◌, ◌↔◌, ℕ, zero, suc, ◌+◌, ◌-◌, ◌<◌, ◌≤◌, inl, inr, true, false, List, [], length, get_or, reverse, Option, Some, None, MatchOption, IfSome, IsTrue, refl, ap, ◌∙◌, sym, arith, subst}
use Rattle.std.proofs.lemmas.Bool.{cases_lt, cases_eq}
use Rattle.fux_pitch.specs.declared.pitch.Pitch.{Pitch}
use Rattle.fux_pitch.proofs.PitchLemmas.{equal_from_test}
use Rattle.fux_grid.specs.declared.cell.Cell.{Cell}
use Rattle.fux_grid.specs.declared.cell.Cell.TheVariants.{Rest, Hold, Start}
use Rattle.fux_grid.specs.declared.cell.Note.{Note}
use Rattle.fux_grid.specs.declared.cell.Onset.{Onset}
use Rattle.fux_grid.specs.Cells.{pitch_of, is_start, is_hold, cell_in, cell_follows, notes_from, first_of}
use Rattle.fux_grid.specs.Columns.{cell_at, sound_at, earlier, newest_column, line, ColumnFollows, HistoryFollows}
use Rattle.fux_grid.specs.Notes.{IsNote, IsNoteAt, IsPreviousNote, IsNextNote, IsFirstOnset, NoStart}
use Rattle.fux_grid.proofs.Histories.{earlier-more, earlier-none, earlier-all, newest-earlier, notes-hold, notes-rest, notes-start}

-- ---- cells

hold_is_no_start : (c : Cell) (p : Pitch) → c ≡ Start p → IsTrue (is_hold c) → ⊥
hold_is_no_start c p e h = let f : is_hold c ≡ false = ap is_hold e in cc

no_hold_after_rest : (c : Cell) → IsTrue (cell_follows Rest c) → is_hold c ≡ false
no_hold_after_rest Rest h = refl
no_hold_after_rest (Hold p) h = cc
no_hold_after_rest (Start p) h = refl

same_sound : (b c : Cell) → IsTrue (cell_follows b c) → IsTrue (is_hold c) → pitch_of b ≡ pitch_of c
same_sound b Rest h k = cc
same_sound b (Start p) h k = cc
same_sound Rest (Hold p) h k = cc
same_sound (Hold q) (Hold p) h k = ap Some (equal_from_test q p h)
same_sound (Start q) (Hold p) h k = ap Some (equal_from_test q p h)

pub rest_if_silent : (c : Cell) → pitch_of c ≡ None → c ≡ Rest
rest_if_silent Rest h = refl
rest_if_silent (Hold p) h = cc
rest_if_silent (Start p) h = cc

pub rest_if_neither : (c : Cell) → is_hold c ≡ false → ((p : Pitch) → c ≡ Start p → ⊥) → c ≡ Rest
rest_if_neither Rest h k = refl
rest_if_neither (Hold p) h k = cc
rest_if_neither (Start p) h k = absurd (k p refl)

-- ---- a list whose columns follow one another

-- each column of a history follows the one before it
pub follows-at : (s : List (List Cell)) (n : ℕ) → n ≤ length s → HistoryFollows (earlier s n) → (k : ℕ) → k < n
    → ColumnFollows (newest_column (earlier s k)) (get_or s k [])
follows-at s zero h f k lt = absurd (omega arith)
follows-at s (suc n) h f k lt =
    let P : List (List Cell) → Type 0 = λ t. HistoryFollows t in
    let e : suc n ≡ n + 1 = omega arith in
    let both = subst P (ap (earlier s) e ∙ earlier-more s n (omega arith)) f in
    elim (cases_eq k n) [
      | inl same ↦ (let Q : ℕ → Type 0 = λ j. ColumnFollows (newest_column (earlier s j)) (get_or s j []) in
          subst Q (sym same) both.0)
      | inr other ↦ follows-at s n (omega arith) both.1 k (omega arith)
    ]

module _ (s : List (List Cell)) (v : ℕ) (follows : HistoryFollows (reverse s)) where
  column-follows : (k : ℕ) → k < length s → ColumnFollows (newest_column (earlier s k)) (get_or s k [])
  column-follows = let P : List (List Cell) → Type 0 = λ t. HistoryFollows t in
      follows-at s (length s) (omega arith) (subst P (sym (earlier-all s (length s) (omega arith))) follows)

  -- nothing is held in the first column
  pub first-no_hold : 0 < length s → is_hold (cell_at s v 0) ≡ false
  first-no_hold h =
      let P : List Cell → Type 0 = λ col. IsTrue (cell_follows (cell_in col v) (cell_at s v 0)) in
      no_hold_after_rest (cell_at s v 0) (subst P (ap newest_column (earlier-none s)) (column-follows 0 h v))

  cell-follows : (k : ℕ) → k + 1 < length s → IsTrue (cell_follows (cell_at s v k) (cell_at s v (k + 1)))
  cell-follows k h =
      let e : k + 1 - 1 ≡ k = omega arith in
      let P : List Cell → Type 0 = λ col. IsTrue (cell_follows (cell_in col v) (cell_at s v (k + 1))) in
      subst P (newest-earlier s (k + 1) (omega arith) (omega arith) ∙ ap (λ j. get_or s j []) e)
      (column-follows (k + 1) h v)

  -- through holds the same pitch sounds
  pub sounds-through : (b i : ℕ) → b ≤ i → i < length s → ((k : ℕ) → b < k → k ≤ i → IsTrue (is_hold (cell_at s v k)))
      → sound_at s v b ≡ sound_at s v i
  sounds-through b zero h lt held = let e : b ≡ 0 = omega arith in ap (sound_at s v) e
  sounds-through b (suc i) h lt held =
      let e : i + 1 ≡ suc i = omega arith in
      elim (cases_eq b (suc i)) [
        | inl same ↦ ap (sound_at s v) same
        | inr other ↦ sounds-through b i (omega arith) (omega arith) (λ k a c. held k a (omega arith))
            ∙ same_sound (cell_at s v i) (cell_at s v (i + 1)) (cell-follows i (omega arith))
            (held (i + 1) (omega arith) (omega arith)) ∙ ap (sound_at s v) e
      ]

-- ---- notes

same_note : (m n : Note) → m.start ≡ n.start → m.len ≡ n.len → m.pitch ≡ n.pitch → m ≡ n
same_note m n e f g = λ i. record { start = e i; len = f i; pitch = g i }

module _ (s : List (List Cell)) (v : ℕ) where
  not_longer : (m n : Note) → IsNote s v m → IsNote s v n → m.start ≡ n.start → n.len ≤ m.len
  not_longer m n a b e =
      elim (cases_lt m.len n.len) [
        | inl h ↦ (let on = b.held (m.start + m.len) (omega arith) (omega arith) in absurd (let off = a.ends in cc))
        | inr h ↦ h
      ]

  -- a voice has one note with a start
  pub IsNote-same : (m n : Note) → IsNote s v m → IsNote s v n → m.start ≡ n.start → m ≡ n
  IsNote-same m n a b e =
      let p : Start m.pitch ≡ Start n.pitch = sym a.starts ∙ ap (cell_at s v) e ∙ b.starts in
      let more = not_longer m n a b e in
      let less = not_longer n m b a (sym e) in
      same_note m n e (omega arith) cc

  not_later : (i : ℕ) (m n : Note) → IsNoteAt s v i m → IsNoteAt s v i n → n.start ≤ m.start
  not_later i m n a b =
      elim (cases_lt m.start n.start) [
        | inl h ↦ absurd (hold_is_no_start (cell_at s v n.start) n.pitch b.is_note.starts
            (a.is_note.held n.start h (omega arith)))
        | inr h ↦ h
      ]

  -- it has one note at a column
  pub IsNoteAt-same : (i : ℕ) (m n : Note) → IsNoteAt s v i m → IsNoteAt s v i n → m ≡ n
  IsNoteAt-same i m n a b =
      let more = not_later i m n a b in
      let less = not_later i n m b a in
      IsNote-same m n a.is_note b.is_note (omega arith)

  -- and none where it rests
  pub IsNoteAt-no_rest : (i : ℕ) (n : Note) → cell_at s v i ≡ Rest → IsNoteAt s v i n → ⊥
  IsNoteAt-no_rest i n e a =
      elim (cases_eq n.start i) [
        | inl same ↦ (let f : cell_at s v n.start ≡ Rest = ap (cell_at s v) same ∙ e in let g = a.is_note.starts in cc)
        | inr other ↦ (let on = a.is_note.held i (omega arith) a.covers.on in let off : is_hold (cell_at s v i)
            ≡ false = ap is_hold e in absurd cc)
      ]

  -- a start with the holds up to a column and on from it is the note there
  pub IsNoteAt-from_holds : (b i end : ℕ) (p : Pitch) → b ≤ i → i < end → cell_at s v b ≡ Start p
      → ((k : ℕ) → b < k → k ≤ i → IsTrue (is_hold (cell_at s v k)))
      → ((k : ℕ) → i < k → k < end → IsTrue (is_hold (cell_at s v k))) → is_hold (cell_at s v end) ≡ false
      → IsNoteAt s v i (record { start = b; len = end - b; pitch = p })
  IsNoteAt-from_holds b i end p le lt e before after ends =
      let whole : b + (end - b) ≡ end = omega arith in
      record {
        is_note = record {
          starts = e;
          long = omega arith;
          held =
              λ k h g. elim (cases_lt i k) [ inl later ↦ after k later (omega arith) | inr sooner ↦ before k h sooner ];
          ends = rw whole ends;
        };
        covers = record { begun = le; on = omega arith };
      }

  earliest_first : (i : ℕ) (m n : Note) → IsNextNote s v i m → IsNextNote s v i n → m.start ≤ n.start
  earliest_first i m n a b = a.earliest n b.is_note b.after

  pub IsNextNote-same : (i : ℕ) (m n : Note) → IsNextNote s v i m → IsNextNote s v i n → m ≡ n
  IsNextNote-same i m n a b =
      let le = earliest_first i m n a b in
      let ge = earliest_first i n m b a in
      IsNote-same m n a.is_note b.is_note (omega arith)

  pub IsPreviousNote-same : (i : ℕ) (m n : Note) → IsPreviousNote s v i m → IsPreviousNote s v i n → m ≡ n
  IsPreviousNote-same i m n a b =
      let le = b.latest m a.is_note a.over in
      let ge = a.latest n b.is_note b.over in
      IsNote-same m n a.is_note b.is_note (omega arith)

  -- a note that is over at a column started before the note there, where this begins at b, or
  -- before b where the voice rests
  pub over-before : (b i : ℕ) → is_hold (cell_at s v b) ≡ false
      → ((k : ℕ) → b < k → k ≤ i → IsTrue (is_hold (cell_at s v k))) → b ≤ i → (n : Note) → IsNote s v n
      → n.start + n.len ≤ i → n.start < b
  over-before b i off held le n a over =
      elim (cases_lt n.start b) [
        | inl h ↦ h
        | inr h ↦ (let on = held (n.start + n.len) (let long = a.long in omega arith) over in let ends = a.ends in
            absurd cc)
      ]

-- a note that is over at a column ends at or before the start of the note there
pub over-before_note : (s : List (List Cell)) (v i : ℕ) (note at : Note) → IsNote s v note → IsNoteAt s v i at
    → note.start + note.len ≤ i → note.start + note.len ≤ at.start
over-before_note s v i note at a here over =
    elim (cases_lt at.start (note.start + note.len)) [
      | inl h ↦ (let end_on = here.is_note.held (note.start + note.len) h (let on = here.covers.on in omega arith) in
          let end_off = a.ends in absurd cc)
      | inr h ↦ h
    ]

-- one more hold before those of a note
pub held-more : (s : List (List Cell)) (v j i : ℕ) (p : Pitch) → cell_at s v j ≡ Hold p
    → ((k : ℕ) → j < k → k ≤ i → IsTrue (is_hold (cell_at s v k))) → (k : ℕ) → j - 1 < k → k ≤ i
    → IsTrue (is_hold (cell_at s v k))
held-more s v j i p e held k h g =
    elim (cases_eq k j) [
      | inl same ↦ ap (λ n. is_hold (cell_at s v n)) same ∙ ap is_hold e
      | inr other ↦ held k (omega arith) g
    ]

no_start_here : (s : List (List Cell)) (v from to : ℕ) (note : Note) → IsNote s v note → NoStart s v from to
    → from ≤ note.start → note.start < to → ⊥
no_start_here s v from to note a none h g =
    let off = none note.start h g in let on : is_start (cell_at s v note.start) ≡ true = ap is_start a.starts in cc

-- the answer is the latest note that starts before column n, where a note starts there
abbrev IsLatest : List (List Cell) → ℕ → ℕ → Option Note → Type 0
IsLatest s v n r =
    MatchOption r (NoStart s v 0 n) (λ note. IsNote s v note × (note.start < n) × NoStart s v (note.start + 1) n)

no_start_more : (s : List (List Cell)) (v from n : ℕ) → is_start (cell_at s v n) ≡ false → NoStart s v from n
    → NoStart s v from (n + 1)
no_start_more s v from n e none k h g =
    elim (cases_eq k n) [
      | inl same ↦ ap (λ j. is_start (cell_at s v j)) same ∙ e
      | inr other ↦ none k h (omega arith)
    ]

latest_more : (s : List (List Cell)) (v n : ℕ) → is_start (cell_at s v n) ≡ false → (r : Option Note) → IsLatest s v n r
    → IsLatest s v (n + 1) r
latest_more s v n e None h = no_start_more s v 0 n e h
latest_more s v n e (Some note) h = (h.0, omega (arith, h.1), no_start_more s v (note.start + 1) n e h.2)

-- the first of the notes of a line is the latest note, where so many holds and then no hold come
-- after the line
latest_of_line : (s : List (List Cell)) (v n held : ℕ) → n ≤ length s
    → ((k : ℕ) → n ≤ k → k < n + held → IsTrue (is_hold (cell_at s v k))) → is_hold (cell_at s v (n + held)) ≡ false
    → IsLatest s v n (first_of (notes_from held (line v (earlier s n))))
latest_of_line s v zero held h holds ends =
    let P : List (List Cell) → Type 0 = λ t. IsLatest s v 0 (first_of (notes_from held (line v t))) in
    subst P (sym (earlier-none s)) (λ k a b. absurd (omega arith))
latest_of_line s v (suc n) held h holds ends =
    let P : ℕ → Type 0 = λ m. IsLatest s v m (first_of (notes_from held (line v (earlier s m)))) in
    let e : n + 1 ≡ suc n = omega arith in
    subst P e (at (λ m a b. latest_of_line s v n m (omega arith) a b) (cell_at s v n) refl)
  where
    at : ((m : ℕ) → ((k : ℕ) → n ≤ k → k < n + m → IsTrue (is_hold (cell_at s v k))) → is_hold (cell_at s v (n + m))
        ≡ false → IsLatest s v n (first_of (notes_from m (line v (earlier s n))))) → (c : Cell) → cell_at s v n ≡ c
        → IsLatest s v (n + 1) (first_of (notes_from held (line v (earlier s (n + 1)))))
    at below Rest e =
        let none : n + 0 ≡ n = omega arith in
        let rest = below 0 (λ k a b. absurd (omega arith)) (ap (λ m. is_hold (cell_at s v m)) none ∙ ap is_hold e) in
        subst (IsLatest s v (n + 1)) (sym (ap first_of (notes-rest s v n held (omega arith) e)))
        (latest_more s v n (ap is_start e) _ rest)
    at below (Hold p) e =
        let more : n + (held + 1) ≡ suc n + held = omega arith in
        let rest = below (held + 1) (λ k a b. elim (cases_eq k n) [
          | inl same ↦ ap (λ m. is_hold (cell_at s v m)) same
              ∙ ap is_hold e
          | inr other ↦ holds k (omega arith) (omega arith)
        ])
        (ap (λ m. is_hold (cell_at s v m)) more ∙ ends) in
        subst (IsLatest s v (n + 1)) (sym (ap first_of (notes-hold s v n held p (omega arith) e)))
        (latest_more s v n (ap is_start e) _ rest)
    at below (Start p) e =
        let more : n + (held + 1) ≡ suc n + held = omega arith in
        subst (IsLatest s v (n + 1)) (sym (ap first_of (notes-start s v n held p (omega arith) e))) (
          record {
            starts = e;
            long = omega arith;
            held = λ k a b. holds k (omega arith) (omega arith);
            ends = ap (λ m. is_hold (cell_at s v m)) more ∙ ends;
          },
          omega arith,
          λ k a b. absurd (omega arith),
        )

-- where a note or a rest begins at b and goes on to i, the latest note of the line before b is the
-- previous note
pub previous-from_line : (s : List (List Cell)) (v b i : ℕ) → b ≤ i → i < length s → is_hold (cell_at s v b) ≡ false
    → ((k : ℕ) → b < k → k ≤ i → IsTrue (is_hold (cell_at s v k)))
    → MatchOption (first_of (notes_from 0 (line v (earlier s b))))
    ((note : Note) → IsNote s v note → note.start + note.len ≤ i → ⊥) (IsPreviousNote s v i)
previous-from_line s v b i le lt off held =
    let none : b + 0 ≡ b = omega arith in
    at _ (latest_of_line s v b 0 (omega arith) (λ k a c. absurd (omega arith))
    (ap (λ m. is_hold (cell_at s v m)) none ∙ off))
  where
    before : (note : Note) → IsNote s v note → note.start + note.len ≤ i → note.start < b
    before = over-before s v b i off held le

    at : (r : Option Note) → IsLatest s v b r
        → MatchOption r ((note : Note) → IsNote s v note → note.start + note.len ≤ i → ⊥) (IsPreviousNote s v i)
    at None h = λ note a over. no_start_here s v 0 b note a h (omega arith) (before note a over)
    at (Some note) h = record {
      is_note = h.0;
      over = elim (cases_lt b (note.start + note.len)) [
        | inl on ↦ (let yes = h.0.held b h.1 on in absurd cc)
        | inr done ↦ omega arith
      ];
      latest = λ other a over. elim (cases_lt note.start other.start) [
        | inl later ↦ absurd (no_start_here s v (note.start + 1) b other a h.2 (omega arith) (before other a over))
        | inr sooner ↦ sooner
      ];
    }

-- the first note that starts after a column is the next note
pub next-from_onset : (s : List (List Cell)) (v i end : ℕ) (onset : Onset) → IsFirstOnset s v (i + 1) onset
    → onset.start < end → ((k : ℕ) → onset.start < k → k < end → IsTrue (is_hold (cell_at s v k)))
    → is_hold (cell_at s v end) ≡ false → IsNextNote s v i
    (record { start = onset.start; len = end - onset.start; pitch = onset.pitch })
next-from_onset s v i end onset first lt held ends =
    let here = IsNoteAt-from_holds s v onset.start onset.start end onset.pitch (omega arith) lt first.starts
    (λ k a b. absurd (omega arith)) held ends in
    record {
      is_note = here.is_note;
      after = let later = first.later in omega arith;
      earliest = λ other a h. elim (cases_lt other.start onset.start) [
        | inl sooner ↦ absurd (no_start_here s v (i + 1) onset.start other a first.first (omega arith) sooner)
        | inr later ↦ later
      ];
    }

-- ---- answers that are exact

module _ (P : Note → Type 0) (Q : Type 0) (unique : (m n : Note) → P m → P n → m ≡ n)
    (excluded : Q → (n : Note) → P n → ⊥) where
  pub found-exactly : (r : Option Note) → MatchOption r Q P → (note : Note) → (r ≡ Some note) ↔ P note
  found-exactly None h note = (λ e. cc, λ p. absurd (excluded h note p))
  found-exactly (Some n) h note = (λ e. (let same : n ≡ note = cc in subst P same h), λ p. ap Some (unique n note h p))

  pub none-exactly : (r : Option Note) → MatchOption r Q P → (r ≡ None) ↔ Q
  none-exactly None h = (λ e. h, λ q. refl)
  none-exactly (Some n) h = (λ e. absurd cc, λ q. absurd (excluded q n h))

-- an answer that is the note at a column, or None at a rest, is so exactly
pub at-exactly : (s : List (List Cell)) (v i : ℕ) (r : Option Note)
    → MatchOption r (cell_at s v i ≡ Rest) (IsNoteAt s v i) → ((note : Note) → (r ≡ Some note) ↔ IsNoteAt s v i note)
    × ((r ≡ None) ↔ (cell_at s v i ≡ Rest))
at-exactly s v i r h =
    let unique = IsNoteAt-same s v i in
    let excluded = λ (e : cell_at s v i ≡ Rest) (n : Note) (a : IsNoteAt s v i n). IsNoteAt-no_rest s v i n e a in (
      found-exactly (IsNoteAt s v i) (cell_at s v i ≡ Rest) unique excluded r h,
      none-exactly (IsNoteAt s v i)
          (cell_at s v i ≡ Rest) unique excluded r h,
    )

-- no note of the voice is over at a column
abbrev pub NonePrevious : List (List Cell) → ℕ → ℕ → Type 0
NonePrevious s v i = (note : Note) → IsNote s v note → note.start + note.len ≤ i → ⊥

pub previous-exactly : (s : List (List Cell)) (v i : ℕ) (r : Option Note)
    → MatchOption r (NonePrevious s v i) (IsPreviousNote s v i)
    → ((note : Note) → (r ≡ Some note) ↔ IsPreviousNote s v i note) × ((r ≡ None) ↔ NonePrevious s v i)
previous-exactly s v i r h =
    let unique = IsPreviousNote-same s v i in
    let excluded = λ (none : NonePrevious s v i) (n : Note) (a : IsPreviousNote s v i n). none n a.is_note a.over in (
      found-exactly (IsPreviousNote s v i) (NonePrevious s v i) unique excluded r h,
      none-exactly (IsPreviousNote s v i)
          (NonePrevious s v i) unique excluded r h,
    )

pub previous-before : (s : List (List Cell)) (v i : ℕ) (r : Option Note)
    → MatchOption r (NonePrevious s v i) (IsPreviousNote s v i)
    → IfSome r (λ note. (here : Note) → IsNoteAt s v i here → note.start + note.len ≤ here.start)
previous-before s v i None h = tt
previous-before s v i (Some note) h = λ here at. over-before_note s v i note here h.is_note at h.over

-- no note of the voice starts after a column
abbrev pub NoneNext : List (List Cell) → ℕ → ℕ → Type 0
NoneNext s v i = (note : Note) → IsNote s v note → i < note.start → ⊥

pub next-exactly : (s : List (List Cell)) (v i : ℕ) (r : Option Note)
    → MatchOption r (NoneNext s v i) (IsNextNote s v i) → ((note : Note) → (r ≡ Some note) ↔ IsNextNote s v i note)
    × ((r ≡ None) ↔ NoneNext s v i)
next-exactly s v i r h =
    let unique = IsNextNote-same s v i in
    let excluded = λ (none : NoneNext s v i) (n : Note) (a : IsNextNote s v i n). none n a.is_note a.after in (
      found-exactly (IsNextNote s v i) (NoneNext s v i) unique excluded r h,
      none-exactly (IsNextNote s v i)
          (NoneNext s v i) unique excluded r h,
    )
