-- The items of a bar are read as their cells (`bar-own`), and a bar's cells are those of its items
-- (`items-of_bar`).
use Rattle.std.proofs.Common.{◌≡◌, ℕ, ◌+◌, ◌*◌, ◌<◌, ◌≤◌, Bool, true, false, List, [], ◌∷◌, ◌++◌, length, length-append, map, take, drop, Some, None, Ok, refl, sym, ap, subst, ◌∙◌, append_assoc, arith}
use Rattle.std.specs.Prelude.{◌==◌, not, IsTrue, codes, option_map, if◌then◌else◌}
use Rattle.std.specs.Fmt.{decimal}
use Rattle.std.specs.List.{AllByRecursion, sum_by, after_first, before_first, list_all, position_or_len}
use Rattle.std.proofs.lemmas.Bool.{and_parts}
use Rattle.std.proofs.lemmas.List.Sums.{sum_by-cons}
use Rattle.std.proofs.lemmas.List.{append-nil}
use Rattle.std.proofs.Math.Seq.{drop-append-add, take-append_seam}
use Rattle.fux_pitch.specs.declared.pitch.Pitch.{Pitch}
use Rattle.fux_pitch.specs.Names.{name_of}
use Rattle.fux_grid.specs.declared.cell.Cell.{Cell}
use Rattle.fux_grid.specs.declared.cell.Cell.TheVariants.{Rest, Hold, Start}
use Rattle.fux_grid.specs.Cells.{is_hold, cell_follows, pitch_of, held}
use Rattle.text_lines.specs.Numbers.{number_of}
use Rattle.text_lines.specs.Reading.{same_text}
use Rattle.text_lines.specs.Rows.{IsRun}
use Rattle.fux_text.specs.declared.item_words.ItemName.{ItemName}
use Rattle.fux_text.specs.declared.item_words.ItemName.TheVariants as names
use Rattle.fux_text.proofs.Bars.{IsBar, cells_of}
use Rattle.fux_text.specs.Items.{goes_on, item_name, item_word, items_of_cells}
use Rattle.fux_text.specs.Sing.{first_cell, is_colon, item_cells, item_named, item_parts, item_said, latest, sung_run, sung_word}
use Rattle.fux_pitch.proofs.NameLemmas.{name_of-length, name_of-passes}
use Rattle.fux_pitch.proofs.PitchLemmas.{equal_from_test}
use Rattle.fux_text.proofs.ItemRuns.{AreRuns, run-items}
use Rattle.fux_text.proofs.Named.{text_from}
use Rattle.fux_text.proofs.NumberWords.{if_within-own, number-own}
use Rattle.fux_text.proofs.OwnWords.{pitch-own}
use Rattle.voice_lines.specs.Lines.{LineFollows}

-- ---- an item's word

colon_at : (name ds : List ℕ) → list_all (λ b. not (b == 58)) name ≡ true
    → position_or_len is_colon (name ++ 58 ∷ ds) ≡ length name
colon_at [] ds e = refl
colon_at (b ∷ bs) ds e =
    let p = and_parts (not (b == 58)) (list_all (λ c. not (c == 58)) bs) e in
    rw p.0 (ap (λ n. 1 + n) (colon_at bs ds p.1) ∙ omega arith)

-- the parts of a word of a name, a colon and a number
pub item_parts-own : (name : List ℕ) (n : ℕ) → list_all (λ b. not (b == 58)) name ≡ true → n ≤ 9999999
    → item_parts (name ++ 58 ∷ decimal n) ≡ Some (name, n)
unfolding item_parts
item_parts-own name n none few =
    let text = name ++ 58 ∷ decimal n in
    let colon = colon_at name (decimal n) none in
    let before : before_first is_colon text ≡ name = ap (λ k. take k text) colon
    ∙ take-append_seam name (58 ∷ decimal n) in
    let after : after_first is_colon text ≡ decimal n =
    ap (λ k. drop (k + 1) text) colon ∙ drop-append-add name (58 ∷ decimal n) 1 in
    ap (λ o. option_map (λ m. (before_first is_colon text, m)) o) (ap number_of after ∙ number-own n few)
    ∙ ap (λ front. Some (front, n)) before

item_name-no_colon : (c : Cell) → list_all (λ b. not (b == 58)) (item_name c) ≡ true
item_name-no_colon Rest = refl
item_name-no_colon (Hold p) = refl
item_name-no_colon (Start p) = name_of-passes (λ b. not (b == 58)) refl p

-- what the item of a first cell is called
abbrev pub called : Cell → ItemName
called Rest = names.Silence
called (Hold p) = names.Tie
called (Start p) = names.Note p

-- a text of another length is another one
pub shorter : (xs ys : List ℕ) → length ys < length xs → same_text xs ys ≡ false
shorter xs ys lt = by (same_text xs ys) refl
  where
    by : (b : Bool) → same_text xs ys ≡ b → b ≡ false
    by true e = let same : length xs ≡ length ys = ap length (text_from xs ys e) in absurd (omega (arith, same, lt))
    by false e = refl

pub item_named-own : (c : Cell) → item_named (item_name c) ≡ Some (called c)
unfolding item_named
item_named-own Rest = refl
item_named-own (Hold p) = refl
item_named-own (Start p) =
    let long = name_of-length p in
    rw (
      shorter (name_of p) (codes "r") (omega (arith, long)),
      shorter (name_of p) (codes "_")
          (omega (arith, long)),
      pitch-own p,
    ) refl

-- an item that begins with this cell may stand behind so many bars and these cells
abbrev pub CanBegin : ℕ → List Cell → Cell → Type 0
CanBegin bar done c = first_cell (length done == 8 * bar) (latest Rest done) (called c) ≡ Some c

item_said-own : (bar : ℕ) (done : List Cell) (c : Cell) (n : ℕ) → 1 ≤ n → n ≤ 8 → CanBegin bar done c
    → item_said bar done (item_word (c, n)) ≡ Ok (c, n)
unfolding item_said
item_said-own bar done c n least most can =
    rw (
      item_parts-own (item_name c) n (item_name-no_colon c)
          (omega (arith, most)),
      item_named-own c,
      if_within-own 1 8 n least most,
      can,
    ) refl

long_word : (c : Cell) (n : ℕ) → same_text (item_word (c, n)) (codes "|") ≡ false
long_word c n = shorter (item_word (c, n)) (codes "|")
    (omega (arith, length-append (item_name c) (58 ∷ decimal n), named c))
  where
    named : (c : Cell) → 1 ≤ length (item_name c)
    named Rest = omega arith
    named (Hold p) = omega arith
    named (Start p) = omega (arith, (name_of-length p).0)

sung_item-own : (bars bar : ℕ) (done : List Cell) (c : Cell) (n : ℕ) → 1 ≤ n → n ≤ 8 → CanBegin bar done c
    → sung_word bars (bar, done) (item_word (c, n)) ≡ Ok (bar, done ++ item_cells c n)
unfolding sung_word
sung_item-own bars bar done c n least most can = rw (long_word c n, item_said-own bar done c n least most can) refl

-- ---- runs of cells

-- what goes on with a cell that goes on with another one goes on with that one, too
pub goes_on-same : (c d x : Cell) → goes_on c d ≡ true → goes_on d x ≡ goes_on c x
goes_on-same Rest Rest x e = refl
goes_on-same Rest (Hold p) x e = absurd (grind (arith, e))
goes_on-same Rest (Start p) x e = absurd (grind (arith, e))
goes_on-same (Hold q) Rest x e = absurd (grind (arith, e))
goes_on-same (Hold q) (Hold p) x e = refl
goes_on-same (Hold q) (Start p) x e = absurd (grind (arith, e))
goes_on-same (Start q) Rest x e = absurd (grind (arith, e))
goes_on-same (Start q) (Hold p) Rest e = refl
goes_on-same (Start q) (Hold p) (Hold x) e = refl
goes_on-same (Start q) (Hold p) (Start x) e = refl
goes_on-same (Start q) (Start p) x e = absurd (grind (arith, e))

-- a cell that goes on with another one and follows it is what is held of it
held-goes_on : (c d : Cell) → goes_on c d ≡ true → IsTrue (cell_follows c d) → d ≡ held c
held-goes_on Rest Rest e h = refl
held-goes_on Rest (Hold p) e h = absurd (grind (arith, e))
held-goes_on Rest (Start p) e h = absurd (grind (arith, e))
held-goes_on (Hold q) Rest e h = absurd (grind (arith, e))
held-goes_on (Hold q) (Hold p) e h = ap Hold (sym (equal_from_test q p h))
held-goes_on (Hold q) (Start p) e h = absurd (grind (arith, e))
held-goes_on (Start q) Rest e h = absurd (grind (arith, e))
held-goes_on (Start q) (Hold p) e h = ap Hold (sym (equal_from_test q p h))
held-goes_on (Start q) (Start p) e h = absurd (grind (arith, e))

-- what follows a held cell follows the cell
pub follows-held : (c : Cell) (ds : List Cell) → LineFollows (held c) ds → LineFollows c ds
follows-held c [] f = tt
follows-held Rest (d ∷ ds) f = f
follows-held (Hold p) (d ∷ ds) f = f
follows-held (Start p) (Rest ∷ ds) f = f
follows-held (Start p) (Hold q ∷ ds) f = f
follows-held (Start p) (Start q ∷ ds) f = f

-- what isn't held begins an item anywhere
pub begins-anywhere : (bar : ℕ) (done : List Cell) (c : Cell) → is_hold c ≡ false → CanBegin bar done c
begins-anywhere bar done Rest e = refl
begins-anywhere bar done (Hold p) e = absurd (grind (arith, e))
begins-anywhere bar done (Start p) e = refl

-- at the beginning of a bar so does what is held
tie-own : (before : Cell) (p : Pitch) → IsTrue (cell_follows before (Hold p)) → option_map Hold (pitch_of before)
    ≡ Some (Hold p)
tie-own Rest p h = absurd (grind (arith, h))
tie-own (Hold q) p h = ap (λ x. Some (Hold x)) (equal_from_test q p h)
tie-own (Start q) p h = ap (λ x. Some (Hold x)) (equal_from_test q p h)

begins-bar : (bar : ℕ) (done : List Cell) (c : Cell) → length done ≡ 8 * bar
    → IsTrue (cell_follows (latest Rest done) c) → CanBegin bar done c
begins-bar bar done Rest e h = refl
begins-bar bar done (Start p) e h = refl
begins-bar bar done (Hold p) e h = by (length done == 8 * bar) refl
  where
    by : (b : Bool) → (length done == 8 * bar) ≡ b
        → (if b then option_map Hold (pitch_of (latest Rest done)) else None) ≡ Some (Hold p)
    by true f = tie-own (latest Rest done) p h
    by false f = absurd (grind (arith, e, f))

-- ---- the items of a bar

-- words that follow say these cells behind those before
abbrev pub GoesOn : ℕ → ℕ → List Cell → List (List ℕ) → List Cell → Type 0
GoesOn bars bar done more cells = IsRun (sung_run bars) (bar, done) more cells

-- the lengths of items
abbrev pub lengths : List (Cell × ℕ) → ℕ
lengths items = sum_by (λ item. item.1) items

item-own : (bars bar : ℕ) (more : List (List ℕ)) (total done : List Cell) (c : Cell) (n : ℕ)
    → 1 ≤ n → n ≤ 8 → CanBegin bar done c → GoesOn bars bar (done ++ item_cells c n) more total
    → GoesOn bars bar done (item_word (c, n) ∷ more) total
item-own bars bar more total done c n least most can h =
    ((bar, done ++ item_cells c n), sung_item-own bars bar done c n least most can, h)

items-own : (bars bar : ℕ) (more : List (List ℕ)) (total : List Cell) (items : List (Cell × ℕ))
    (done : List Cell) → lengths items ≤ 8 → AllByRecursion (λ item. 1 ≤ item.1) items
    → AllByRecursion (λ item. is_hold item.0 ≡ false) items → GoesOn bars bar (done ++ cells_of items) more total
    → GoesOn bars bar done (map item_word items ++ more) total
items-own bars bar more total [] done few some starts h =
    subst (λ cells. GoesOn bars bar cells more total) (append-nil done) h
items-own bars bar more total ((c, n) ∷ items) done few some starts h =
    let sum : lengths ((c, n) ∷ items) ≡ n + lengths items = sum_by-cons (λ item. item.1) (c, n) items in
    item-own bars bar (map item_word items ++ more) total done c n some.0 (omega (arith, few, sum))
    (begins-anywhere bar done c starts.0)
    (items-own bars bar more total items (done ++ item_cells c n) (omega (arith, few, sum)) some.1 starts.1
    (subst (λ cells. GoesOn bars bar cells more total)
    (sym (append_assoc done (item_cells c n) (cells_of items))) h))

-- the items of a bar are read behind the bars before it
pub bar-own : (bars bar : ℕ) (more : List (List ℕ)) (total done : List Cell)
    (items : List (Cell × ℕ)) → length done ≡ 8 * bar → IsBar items → LineFollows (latest Rest done) (cells_of items)
    → GoesOn bars bar (done ++ cells_of items) more total → GoesOn bars bar done (map item_word items ++ more) total
bar-own bars bar more total done [] long b f h = absurd (omega (arith, b.whole))
bar-own bars bar more total done ((c, n) ∷ items) long b f h =
    let sum : lengths ((c, n) ∷ items) ≡ n + lengths items = sum_by-cons (λ item. item.1) (c, n) items in
    item-own bars bar (map item_word items ++ more) total done c n b.some.0 (omega (arith, b.whole, sum))
    (begins-bar bar done c long f.0)
    (items-own bars bar more total items (done ++ item_cells c n) (omega (arith, b.whole, sum)) b.some.1 b.ties
    (subst (λ cells. GoesOn bars bar cells more total)
    (sym (append_assoc done (item_cells c n) (cells_of items))) h))

-- ---- the items that are written

-- a cell within a bar that doesn't go on with the one before it isn't held
begins-within : (c d : Cell) → goes_on c d ≡ false → IsTrue (cell_follows c d) → is_hold d ≡ false
begins-within c Rest e h = refl
begins-within Rest (Hold p) e h = absurd (grind (arith, h))
begins-within (Hold q) (Hold p) e h = absurd (grind (arith, e))
begins-within (Start q) (Hold p) e h = absurd (grind (arith, e))
begins-within c (Start p) e h = refl

cells-runs : AreRuns goes_on held is_hold LineFollows
cells-runs = record {
  through = goes_on-same;
  held_next = λ c d ds e f. held-goes_on c d e f.0;
  begins = λ c d ds e f. begins-within c d e f.0;
  later = λ c d ds f. f.1;
  from_held = follows-held;
}

-- the items of a bar's cells are a bar, and have these cells
pub record AreItemsOf (cs : List Cell) (items : List (Cell × ℕ)) : Type 0 where
  pub bar : IsBar items
  pub cells : cells_of items ≡ cs

pub items-of_bar : (before : Cell) (cs : List Cell) → length cs ≡ 8 → LineFollows before cs
    → AreItemsOf cs (items_of_cells cs)
items-of_bar before [] eight f = absurd (omega (arith, eight))
items-of_bar before (c ∷ cs) eight f =
    let r = run-items goes_on held is_hold LineFollows cells-runs cs c 0 f.1 in
    record { bar = record { whole = omega (arith, r.sum, eight); some = r.some; ties = r.later }; cells = r.cells }
