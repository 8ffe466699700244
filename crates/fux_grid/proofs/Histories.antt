-- The columns of a list up to a place, from the newest to the oldest.
use Rattle.std.proofs.Common.{◌≡◌, ℕ, zero, suc, ◌+◌, ◌-◌, ◌<◌, ◌≤◌, List, [], ◌∷◌, ◌++◌, length, get_or, take, reverse, refl, ap, ◌∙◌, sym, arith, add-one, subst}
use Rattle.std.proofs.lemmas.List.{length-map, map-append, take_all, length-reverse, length-take-le, take_more, take-append-le, reverse-append, get_or-reverse, get_or-take, get_or_past}
use Rattle.fux_pitch.specs.declared.pitch.Pitch.{Pitch}
use Rattle.fux_grid.specs.declared.cell.Cell.{Cell}
use Rattle.fux_grid.specs.declared.cell.Cell.TheVariants.{Rest, Hold, Start}
use Rattle.fux_grid.specs.Cells.{cell_in, before_note, notes_from}
use Rattle.fux_grid.specs.Columns.{earlier, newest_column, line, ColumnFollows, HistoryFollows}
use Rattle.fux_grid.specs.Grid.{items_of}
use Rattle.arrayvec.specs.ArrayVec.{ArrayVec}

-- one more column is the newest
pub earlier-more : (s : List (List Cell)) (j : ℕ) → j < length s → earlier s (j + 1) ≡ get_or s j [] ∷ earlier s j
unfolding earlier
earlier-more s j h = ap reverse (take_more s j [] h) ∙ reverse-append (take j s) (get_or s j [] ∷ [])

pub earlier-none : (s : List (List Cell)) → earlier s 0 ≡ []
unfolding earlier
earlier-none s = refl

-- columns that are put behind change nothing before them
pub earlier-append : (p t : List (List Cell)) (j : ℕ) → j ≤ length p → earlier (p ++ t) j ≡ earlier p j
unfolding earlier
earlier-append p t j h = ap reverse (take-append-le j p t h)

-- the newest column of a whole list
pub newest-reverse : (s : List (List Cell)) (n : ℕ) → n ≡ length s → 0 < n → newest_column (reverse s)
    ≡ get_or s (n - 1) []
unfolding earlier
newest-reverse s zero e h = absurd (omega arith)
newest-reverse s (suc n) e h =
    let f : n + 1 ≡ length s = omega arith in
    let g : suc n - 1 ≡ n = omega arith in
    let whole : take (n + 1) s ≡ s = take_all (n + 1) s (omega arith) in
    rw g (ap (λ t. newest_column (reverse t)) (sym whole) ∙ ap newest_column (earlier-more s n (omega arith)))

-- a list and one column more, from the newest to the oldest
pub reverse-push : (s : List (List Cell)) (col : List Cell) → reverse (s ++ col ∷ []) ≡ col ∷ reverse s
reverse-push s col = reverse-append s (col ∷ [])

pub push-follows : (xs ys : List (ArrayVec Cell)) (col : ArrayVec Cell) → ys ≡ xs ++ col ∷ []
    → HistoryFollows (reverse (items_of xs)) → ColumnFollows (newest_column (reverse (items_of xs))) col.items
    → HistoryFollows (reverse (items_of ys))
push-follows xs ys col e h f =
    let m : items_of ys ≡ items_of xs ++ col.items ∷ [] = ap items_of e ∙ map-append (λ c. c.items) xs (col ∷ []) in
    let P : List (List Cell) → Type 0 = λ t. HistoryFollows t in
    subst P (sym (ap reverse m ∙ reverse-push (items_of xs) col.items)) (f, h)

-- one more cell of a voice is the newest
pub line-more : (s : List (List Cell)) (v j : ℕ) → j < length s → line v (earlier s (j + 1)) ≡ cell_in (get_or s j []) v
    ∷ line v (earlier s j)
line-more s v j h = ap (line v) (earlier-more s j h)

-- a hold belongs to the note before it
pub before_note-hold : (s : List (List Cell)) (v j : ℕ) (p : Pitch) → j < length s → cell_in (get_or s j []) v ≡ Hold p
    → before_note (line v (earlier s (j + 1))) ≡ before_note (line v (earlier s j))
before_note-hold s v j p h e = ap before_note (line-more s v j h) ∙ ap (λ c. before_note (c ∷ line v (earlier s j))) e

pub before_note-start : (s : List (List Cell)) (v j : ℕ) (p : Pitch) → j < length s → cell_in (get_or s j []) v
    ≡ Start p → before_note (line v (earlier s (j + 1))) ≡ line v (earlier s j)
before_note-start s v j p h e = ap before_note (line-more s v j h) ∙ ap (λ c. before_note (c ∷ line v (earlier s j))) e

pub before_note-rest : (s : List (List Cell)) (v j : ℕ) → j < length s → cell_in (get_or s j []) v ≡ Rest
    → before_note (line v (earlier s (j + 1))) ≡ line v (earlier s j)
before_note-rest s v j h e = ap before_note (line-more s v j h) ∙ ap (λ c. before_note (c ∷ line v (earlier s j))) e

-- at the first column nothing stands before
pub before_note-first : (s : List (List Cell)) (v : ℕ) → 0 < length s → before_note (line v (earlier s 1))
    ≡ line v (earlier s 0)
before_note-first s v h =
    ap before_note (line-more s v 0 h) ∙ ap (λ t. before_note (cell_in (get_or s 0 []) v ∷ line v t)) (earlier-none s)
    ∙ alone (cell_in (get_or s 0 []) v) ∙ sym (ap (line v) (earlier-none s))
  where
    alone : (c : Cell) → before_note (c ∷ []) ≡ []
    alone Rest = refl
    alone (Hold p) = refl
    alone (Start p) = refl

length-earlier : (s : List (List Cell)) (j : ℕ) → j ≤ length s → length (earlier s j) ≡ j
unfolding earlier
length-earlier s j h = length-reverse (take j s) ∙ length-take-le j s h

pub length-line : (s : List (List Cell)) (v j : ℕ) → j ≤ length s → length (line v (earlier s j)) ≡ j
length-line s v j h = length-map (earlier s j) (λ col. cell_in col v) ∙ length-earlier s j h

pub notes-hold : (s : List (List Cell)) (v j held : ℕ) (p : Pitch) → j < length s → cell_in (get_or s j []) v ≡ Hold p
    → notes_from held (line v (earlier s (j + 1))) ≡ notes_from (held + 1) (line v (earlier s j))
notes-hold s v j held p h e = ap (notes_from held) (line-more s v j h)
    ∙ ap (λ c. notes_from held (c ∷ line v (earlier s j))) e
    ∙ ap (λ k. notes_from k (line v (earlier s j))) (sym (add-one held))

pub notes-rest : (s : List (List Cell)) (v j held : ℕ) → j < length s → cell_in (get_or s j []) v ≡ Rest
    → notes_from held (line v (earlier s (j + 1))) ≡ notes_from 0 (line v (earlier s j))
notes-rest s v j held h e =
    ap (notes_from held) (line-more s v j h) ∙ ap (λ c. notes_from held (c ∷ line v (earlier s j))) e

pub notes-start : (s : List (List Cell)) (v j held : ℕ) (p : Pitch) → j < length s → cell_in (get_or s j []) v ≡ Start p
    → notes_from held (line v (earlier s (j + 1))) ≡ record { start = j; len = held + 1; pitch = p }
    ∷ notes_from 0 (line v (earlier s j))
notes-start s v j held p h e =
    ap (notes_from held) (line-more s v j h) ∙ ap (λ c. notes_from held (c ∷ line v (earlier s j))) e
    ∙ ap (λ (n : ℕ). record { start = n; len = suc held; pitch = p } ∷ notes_from 0 (line v (earlier s j)))
    (length-line s v j (omega arith))
    ∙ ap (λ (n : ℕ). record { start = j; len = n; pitch = p } ∷ notes_from 0 (line v (earlier s j)))
    (sym (add-one held))

-- the first columns up to the length are all
pub earlier-all : (s : List (List Cell)) (n : ℕ) → length s ≤ n → earlier s n ≡ reverse s
unfolding earlier
earlier-all s n h = ap reverse (take_all n s h)

-- the newest of the first columns
pub newest-earlier : (s : List (List Cell)) (j : ℕ) → 0 < j → j ≤ length s → newest_column (earlier s j)
    ≡ get_or s (j - 1) []
newest-earlier s zero h k = absurd (omega arith)
newest-earlier s (suc n) h k =
    let e : suc n ≡ n + 1 = omega arith in
    let f : suc n - 1 ≡ n = omega arith in
    rw f (ap (λ m. newest_column (earlier s m)) e ∙ ap newest_column (earlier-more s n (omega arith)))

-- of the first columns, the one that stands so many before the newest
pub get_or-earlier : (s : List (List Cell)) (j k : ℕ) → k < j → j ≤ length s → get_or (earlier s j) k []
    ≡ get_or s (j - 1 - k) []
unfolding earlier
get_or-earlier s j k h b =
    let whole : length (take j s) ≡ j = length-take-le j s b in
    get_or-reverse (take j s) k [] (omega arith)
    ∙ ap (λ n. get_or (take j s) (n - 1 - k) []) whole
    ∙ get_or-take j s (j - 1 - k) [] (omega arith)

-- as many before it as there are columns, or more, there is none
pub get_or-earlier_past : (s : List (List Cell)) (j k : ℕ) → j ≤ k → j ≤ length s → get_or (earlier s j) k [] ≡ []
get_or-earlier_past s j k h b = get_or_past (earlier s j) k [] (omega (arith, length-earlier s j b))
