-- The items of a bar that is given are read as its cells (`bar_given-own`), and what is read of
-- items may be given (`given-follow`).
use Rattle.std.proofs.Common.{◌≡◌, ◌⊎◌, inl, inr, ℕ, zero, suc, ◌+◌, ◌-◌, ◌≤◌, Bool, true, false, List, [], ◌∷◌, ◌++◌, length, length-append, map, replicate, take, drop, Option, Some, None, Result, Ok, Err, refl, sym, ap, subst, ◌∙◌, append_assoc, arith}
use Rattle.std.specs.Prelude.{◌==◌, ◌&&◌, not, IsTrue, codes, option_map, if◌then◌else◌}
use Rattle.std.specs.Fmt.{decimal}
use Rattle.std.specs.List.{AllByRecursion, sum_by, list_all}
use Rattle.std.specs.Option.{ok_or}
use Rattle.std.proofs.lemmas.Bool.{and_left, and_right, eq-eqb, eqb-true, not-false}
use Rattle.std.proofs.lemmas.List.{append-nil}
use Rattle.std.proofs.lemmas.List.Sums.{sum_by-cons}
use Rattle.fux_pitch.specs.declared.pitch.Pitch.{Pitch}
use Rattle.fux_pitch.specs.Names.{name_of}
use Rattle.fux_pitch.proofs.NameLemmas.{name_of-length, name_of-passes}
use Rattle.fux_pitch.proofs.PitchLemmas.{equal_from_test}
use Rattle.fux_grid.specs.declared.cell.Cell.TheVariants as cell
use Rattle.fux_grid.specs.declared.given.Given.{Given}
use Rattle.fux_grid.specs.declared.given.Given.TheVariants.{Blank, Rest, Tied, Hold, Start}
use Rattle.fux_grid.specs.declared.given.GivenBar.{GivenBar}
use Rattle.fux_grid.specs.Givens.{FollowOn, given_follows}
use Rattle.fux_grid.proofs.PitchTests.{same_pitch-from_equal}
use Rattle.fux_text.specs.declared.fault.TextKind.{TextKind}
use Rattle.fux_text.specs.declared.fault.TextKind.TheVariants as kinds
use Rattle.text_lines.specs.Faults.{◌>>=◌}
use Rattle.text_lines.specs.Numbers.{if_within}
use Rattle.text_lines.specs.Reading.{same_text}
use Rattle.text_lines.specs.Rows.{IsRun, refused_if}
use Rattle.text_lines.proofs.Binds.{bind_ok, ok_or_ok}
use Rattle.fux_text.specs.declared.item_words.ItemName.{ItemName}
use Rattle.fux_text.specs.declared.item_words.ItemName.TheVariants as names
use Rattle.fux_text.specs.GivenItems.{given_goes_on, given_items, given_name, given_word}
use Rattle.fux_text.specs.GivenLines.{end_given, given_cells, given_held, given_named, given_of_name, given_run, given_said, is_tied, word_given}
use Rattle.fux_text.specs.Sing.{item_named, item_parts}
use Rattle.fux_text.proofs.Following.{value_is}
use Rattle.fux_text.proofs.ItemLemmas.{GoesThrough}
use Rattle.fux_text.proofs.ItemRuns.{AreRuns, cells_by, run-items}
use Rattle.fux_text.proofs.NumberWords.{if_within-own}
use Rattle.fux_text.proofs.OnlySing.{not_refused}
use Rattle.fux_text.proofs.OwnItems.{item_named-own, item_parts-own, shorter}

-- ---- runs of cells that are given

held-same : (p q : Pitch) (x : Given) → given_goes_on (Hold p) x ≡ given_goes_on (Hold q) x
held-same p q Blank = refl
held-same p q Rest = refl
held-same p q Tied = refl
held-same p q (Hold r) = refl
held-same p q (Start r) = refl

start-same : (p q : Pitch) (x : Given) → given_goes_on (Hold p) x ≡ given_goes_on (Start q) x
start-same p q Blank = refl
start-same p q Rest = refl
start-same p q Tied = refl
start-same p q (Hold r) = refl
start-same p q (Start r) = refl

-- what goes on with a cell goes on with the same ones as that, and is what is held of it where it
-- follows it
abbrev GoesOnAs : Given → Given → Type 0
GoesOnAs c d =
    ((x : Given) → given_goes_on d x ≡ given_goes_on c x) × (IsTrue (given_follows c d) → d ≡ given_held c)

given-on : (c d : Given) → given_goes_on c d ≡ true → GoesOnAs c d
given-on Blank Blank e = ((λ x. refl), (λ h. refl))
given-on Rest Rest e = ((λ x. refl), (λ h. refl))
given-on Tied Tied e = ((λ x. refl), (λ h. refl))
given-on (Hold q) (Hold p) e = ((λ x. held-same p q x), (λ h. ap Hold (sym (equal_from_test q p h))))
given-on (Start q) (Hold p) e = ((λ x. start-same p q x), (λ h. ap Hold (sym (equal_from_test q p h))))
given-on Blank Rest e = absurd (grind (arith, e))
given-on Blank Tied e = absurd (grind (arith, e))
given-on Blank (Hold p) e = absurd (grind (arith, e))
given-on Blank (Start p) e = absurd (grind (arith, e))
given-on Rest Blank e = absurd (grind (arith, e))
given-on Rest Tied e = absurd (grind (arith, e))
given-on Rest (Hold p) e = absurd (grind (arith, e))
given-on Rest (Start p) e = absurd (grind (arith, e))
given-on Tied Blank e = absurd (grind (arith, e))
given-on Tied Rest e = absurd (grind (arith, e))
given-on Tied (Hold p) e = absurd (grind (arith, e))
given-on Tied (Start p) e = absurd (grind (arith, e))
given-on (Hold q) Blank e = absurd (grind (arith, e))
given-on (Hold q) Rest e = absurd (grind (arith, e))
given-on (Hold q) Tied e = absurd (grind (arith, e))
given-on (Hold q) (Start p) e = absurd (grind (arith, e))
given-on (Start q) Blank e = absurd (grind (arith, e))
given-on (Start q) Rest e = absurd (grind (arith, e))
given-on (Start q) Tied e = absurd (grind (arith, e))
given-on (Start q) (Start p) e = absurd (grind (arith, e))

pub given-through : GoesThrough given_goes_on
given-through c d x e = (given-on c d e).0 x

-- within a bar, what doesn't go on with the cell before it begins an item
given-begins : (c d : Given) → given_goes_on c d ≡ false → IsTrue (given_follows c d) → is_tied d ≡ false
given-begins c Blank e h = refl
given-begins c Rest e h = refl
given-begins c (Start p) e h = refl
given-begins Blank Tied e h = absurd (grind (arith, h))
given-begins Rest Tied e h = absurd (grind (arith, h))
given-begins Tied Tied e h = absurd (grind (arith, e))
given-begins (Hold q) Tied e h = absurd (grind (arith, h))
given-begins (Start q) Tied e h = absurd (grind (arith, h))
given-begins Blank (Hold p) e h = absurd (grind (arith, h))
given-begins Rest (Hold p) e h = absurd (grind (arith, h))
given-begins Tied (Hold p) e h = absurd (grind (arith, h))
given-begins (Hold q) (Hold p) e h = absurd (grind (arith, e))
given-begins (Start q) (Hold p) e h = absurd (grind (arith, e))

-- what may follow a held cell may follow the cell
given-from_held : (c : Given) (ds : List Given) → FollowOn (given_held c) ds → FollowOn c ds
given-from_held c [] f = tt
given-from_held Blank (d ∷ ds) f = f
given-from_held Rest (d ∷ ds) f = f
given-from_held Tied (d ∷ ds) f = f
given-from_held (Hold p) (d ∷ ds) f = f
given-from_held (Start p) (Blank ∷ ds) f = f
given-from_held (Start p) (Rest ∷ ds) f = f
given-from_held (Start p) (Tied ∷ ds) f = f
given-from_held (Start p) (Hold q ∷ ds) f = f
given-from_held (Start p) (Start q ∷ ds) f = f

given-runs : AreRuns given_goes_on given_held is_tied FollowOn
given-runs = record {
  through = given-through;
  held_next = λ c d ds e f. (given-on c d e).1 f.0;
  begins = λ c d ds e f. given-begins c d e f.0;
  later = λ c d ds f. f.1;
  from_held = given-from_held;
}

-- ---- an item's word

given_name-no_colon : (g : Given) → list_all (λ b. not (b == 58)) (given_name g) ≡ true
given_name-no_colon Blank = refl
given_name-no_colon Rest = refl
given_name-no_colon Tied = refl
given_name-no_colon (Hold p) = refl
given_name-no_colon (Start p) = name_of-passes (λ b. not (b == 58)) refl p

-- what may begin an item: all but a held pitch
abbrev BeginsItem : Given → Type 0
BeginsItem g = (is_tied g ≡ false) ⊎ (g ≡ Tied)

item_named-tie : item_named (codes "_") ≡ Some names.Tie
unfolding item_named
item_named-tie = refl

given_named-own : (g : Given) → BeginsItem g → given_named (given_name g) ≡ Some g
unfolding given_named
given_named-own Blank can = refl
given_named-own Rest can = ap (option_map given_of_name) (item_named-own cell.Rest)
given_named-own Tied can = ap (option_map given_of_name) item_named-tie
given_named-own (Hold p) (inl e) = absurd (grind (arith, e))
given_named-own (Hold p) (inr e) = absurd (grind (arith, e))
given_named-own (Start p) can =
    rw (shorter (name_of p) (codes "?") (omega (arith, name_of-length p)))
    (ap (option_map given_of_name) (item_named-own (cell.Start p)))

long_given : (g : Given) (n : ℕ) → same_text (given_word (g, n)) (codes "|") ≡ false
long_given g n = shorter (given_word (g, n)) (codes "|")
    (omega (arith, length-append (given_name g) (58 ∷ decimal n), named g))
  where
    named : (g : Given) → 1 ≤ length (given_name g)
    named Blank = omega arith
    named Rest = omega arith
    named Tied = omega arith
    named (Hold p) = omega arith
    named (Start p) = omega (arith, (name_of-length p).0)

-- an item that begins so may stand behind these cells
abbrev CanStand : List Given → Given → Type 0
CanStand done g = (is_tied g && not (length done == 0)) ≡ false

given_item-own : (done : List Given) (g : Given) (n : ℕ) → 1 ≤ n → n ≤ 8 → BeginsItem g → CanStand done g
    → word_given done (given_word (g, n)) ≡ Ok (done ++ given_cells g n)
unfolding word_given given_said
given_item-own done g n least most begins can =
    rw (
      long_given g n,
      item_parts-own (given_name g) n (given_name-no_colon g)
          (omega (arith, most)),
      given_named-own g begins,
      if_within-own 1 8 n least most,
      can,
    ) refl

-- ---- the items of a bar

abbrev lengths : List (Given × ℕ) → ℕ
lengths items = sum_by (λ item. item.1) items

-- words that follow say these cells of a bar behind those before
abbrev GoesOn : ℕ → ℕ → List Given → List (List ℕ) → GivenBar → Type 0
GoesOn v bar done more line = IsRun (given_run v bar) done more line

items_given-own : (v bar : ℕ) (line : GivenBar) (items : List (Given × ℕ)) (done : List Given) → lengths items ≤ 8
    → AllByRecursion (λ item. 1 ≤ item.1) items → AllByRecursion (λ item. is_tied item.0 ≡ false) items
    → GoesOn v bar (done ++ cells_by given_held items) [] line → GoesOn v bar done (map given_word items) line
items_given-own v bar line [] done few some begin h =
    subst (λ cells. GoesOn v bar cells [] line) (append-nil done) h
items_given-own v bar line ((g, n) ∷ items) done few some begin h =
    let sum : lengths ((g, n) ∷ items) ≡ n + lengths items = sum_by-cons (λ item. item.1) (g, n) items in (
      done ++ given_cells g n,
      given_item-own done g n some.0 (omega (arith, few, sum)) (inl begin.0)
          (and_left (is_tied g) (not (length done == 0)) begin.0),
      items_given-own v bar line items (done ++ given_cells g n) (omega (arith, few, sum)) some.1 begin.1
          (subst (λ cells. GoesOn v bar cells [] line)
          (sym (append_assoc done (given_cells g n) (cells_by given_held items))) h),
    )

end_given-own : (line : GivenBar) → length line.cells ≡ 8 → end_given line.voice line.bar line.cells ≡ Ok line
unfolding end_given
end_given-own line eight = rw (eq-eqb (length line.cells) 8 eight) refl

-- the first cell of a bar begins an item
first-begins : (g : Given) → IsTrue (given_follows Tied g) → BeginsItem g
first-begins Blank h = inl refl
first-begins Rest h = inl refl
first-begins Tied h = inr refl
first-begins (Hold p) h = absurd (grind (arith, h))
first-begins (Start p) h = inl refl

bar-run : (line : GivenBar) (cells : List Given) (items : List (Given × ℕ)) → lengths items ≡ 8
    → AllByRecursion (λ item. 1 ≤ item.1) items
    → AllByRecursion (λ item. is_tied item.0 ≡ false) (drop 1 items)
    → AllByRecursion (λ item. BeginsItem item.0) (take 1 items) → cells_by given_held items ≡ line.cells
    → length line.cells ≡ 8
    → IsRun (given_run line.voice line.bar) [] (map given_word items) line
bar-run line cells [] whole some later first same eight = absurd (omega (arith, whole))
bar-run line cells ((g, n) ∷ items) whole some later first same eight =
    let sum : lengths ((g, n) ∷ items) ≡ n + lengths items = sum_by-cons (λ item. item.1) (g, n) items in (
      given_cells g n,
      given_item-own [] g n some.0 (omega (arith, whole, sum)) first.0 (and_right (is_tied g) false refl),
      items_given-own line.voice line.bar line items (given_cells g n) (omega (arith, whole, sum)) some.1 later
          (subst (λ done. GoesOn line.voice line.bar done [] line) (sym same) (end_given-own line eight)),
    )

-- the words of the items of a bar have its cells
pub bar_given-own : (line : GivenBar) → length line.cells ≡ 8 → FollowOn Tied line.cells
    → IsRun (given_run line.voice line.bar) [] (map given_word (given_items line.cells)) line
bar_given-own line eight follow = by line.cells refl follow
  where
    first : (g : Given) (items : List (Given × ℕ)) → BeginsItem g → AllByRecursion (λ item. item.0 ≡ g) (take 1 items)
        → AllByRecursion (λ item. BeginsItem item.0) (take 1 items)
    first g [] can front = tt
    first g (item ∷ items) can front = (subst BeginsItem (sym front.0) can, tt)

    by : (cells : List Given) → line.cells ≡ cells → FollowOn Tied cells
        → IsRun (given_run line.voice line.bar) [] (map given_word (given_items line.cells)) line
    by [] e f = absurd (omega (arith, eight, ap length e))
    by (g ∷ gs) e f =
        let items = given_items (g ∷ gs) in
        let r = run-items given_goes_on given_held is_tied FollowOn given-runs gs g 0 f.1 in
        subst (λ cs. IsRun (given_run line.voice line.bar) [] (map given_word (given_items cs)) line) (sym e)
        (bar-run line line.cells items (omega (arith, r.sum, ap length e, eight)) r.some r.later
        (first g items (first-begins g f.0) r.front) (r.cells ∙ sym e) eight)

-- ---- what is read of items may be given

held-may_follow : (g : Given) → IsTrue (given_follows g (given_held g)) × (given_held (given_held g) ≡ given_held g)
held-may_follow Blank = (refl, refl)
held-may_follow Rest = (refl, refl)
held-may_follow Tied = (refl, refl)
held-may_follow (Hold p) = (same_pitch-from_equal p p refl, refl)
held-may_follow (Start p) = (same_pitch-from_equal p p refl, refl)

run-may_follow : (g : Given) (n : ℕ) → FollowOn g (replicate n (given_held g))
run-may_follow g zero = tt
run-may_follow g (suc n) =
    let one = held-may_follow g in
    (one.0, subst (λ h. FollowOn (given_held g) (replicate n h)) one.1 (run-may_follow (given_held g) n))

-- what isn't tied may follow anything
any-may_follow : (before g : Given) → is_tied g ≡ false → IsTrue (given_follows before g)
any-may_follow before Blank e = refl
any-may_follow before Rest e = refl
any-may_follow before Tied e = absurd (grind (arith, e))
any-may_follow before (Hold p) e = absurd (grind (arith, e))
any-may_follow before (Start p) e = refl

follow-append : (before : Given) (xs ys : List Given) → FollowOn before xs → ((last : Given) → FollowOn last ys)
    → FollowOn before (xs ++ ys)
follow-append before [] ys f g = g before
follow-append before (x ∷ xs) ys f g = (f.0, follow-append x xs ys f.1 g)

-- what is named and tied is a tie
tied-only : (o : Option ItemName) (g : Given) → option_map given_of_name o ≡ Some g → is_tied g ≡ true → g ≡ Tied
tied-only None g e t = absurd (grind (arith, e))
tied-only (Some names.Silence) g e t =
    let same : Rest ≡ g = grind (arith, e) in
    absurd (grind (arith, ap is_tied same, t))
tied-only (Some names.Tie) g e t = grind (arith, e)
tied-only (Some (names.Note p)) g e t =
    let same : Start p ≡ g = grind (arith, e) in
    absurd (grind (arith, ap is_tied same, t))

named-tied : (text : List ℕ) (g : Given) → given_named text ≡ Some g → is_tied g ≡ true → g ≡ Tied
unfolding given_named
named-tied text g e t = by (same_text text (codes "?")) e
  where
    by : (b : Bool) → (if b then Some Blank else option_map given_of_name (item_named text)) ≡ Some g → g ≡ Tied
    by true e =
        let same : Blank ≡ g = grind (arith, e) in
        absurd (grind (arith, ap is_tied same, t))
    by false e = tied-only (item_named text) g e t

-- an item that is said, behind cells that may be given
said-follow : (done : List Given) (text : List ℕ) (item : Given × ℕ) → FollowOn Tied done → given_said done text ≡ Ok item
    → FollowOn Tied (done ++ given_cells item.0 item.1)
unfolding given_said
said-follow done text item f e =
    let parts = bind_ok (ok_or (item_parts text) kinds.Word) _ item e in
    let first = bind_ok (ok_or (given_named parts.0.0) kinds.Pitch) _ item parts.2 in
    let count = bind_ok (ok_or (if_within 1 8 parts.0.1) kinds.Length) _ item first.2 in
    let g = first.0 in
    let bad = is_tied g && not (length done == 0) in
    let tie = bind_ok (refused_if bad kinds.Tie) _ item count.2 in
    let named = ok_or_ok (given_named parts.0.0) kinds.Pitch g first.1 in
    let fine : bad ≡ false = not_refused bad kinds.Tie tie.0 tie.1 in
    subst (λ (x : Given × ℕ). FollowOn Tied (done ++ given_cells x.0 x.1)) (value_is (g, count.0) item _ refl tie.2)
    (by (is_tied g) refl (length done == 0) refl (named-tied parts.0.0 g named) fine count.0)
  where
    empty : (done : List Given) → (length done == 0) ≡ true → done ≡ []
    empty [] e = refl
    empty (d ∷ ds) e = absurd (grind (arith, e))

    by : {g : Given} (t : Bool) → is_tied g ≡ t → (z : Bool) → (length done == 0) ≡ z → (is_tied g ≡ true → g ≡ Tied)
        → (is_tied g && not (length done == 0)) ≡ false → (n : ℕ) → FollowOn Tied (done ++ given_cells g n)
    by {g = g} false d z y tied fine n =
        follow-append Tied done (given_cells g n) f
        (λ last. (any-may_follow last g d, run-may_follow g (n - 1)))
    by {g = g} true d true y tied fine n =
        subst (λ x. FollowOn Tied (x ++ given_cells g n)) (sym (empty done y))
        (subst (λ x. FollowOn Tied (given_cells x n)) (sym (tied d)) (refl, run-may_follow Tied (n - 1)))
    by {g = g} true d false y tied fine n = absurd (grind (arith, d, y, fine))

word-follow : (done out : List Given) (text : List ℕ) → FollowOn Tied done → word_given done text ≡ Ok out
    → FollowOn Tied out
unfolding word_given
word-follow done out text f e = by (same_text text (codes "|")) e
  where
    more : Given × ℕ → Result (List Given) TextKind
    more item = Ok (done ++ given_cells item.0 item.1)

    by : (b : Bool) → (if b then Err kinds.BarLine else (given_said done text >>= λ item. more item)) ≡ Ok out
        → FollowOn Tied out
    by true e = absurd (grind (arith, e))
    by false e =
        let item = bind_ok (given_said done text) _ out e in
        subst (FollowOn Tied) (value_is (done ++ given_cells item.0.0 item.0.1) out _ refl item.2)
        (said-follow done text item.0 f item.1)

-- a bar that is read: its voice, its number, and cells that may be given
pub record IsBarRead (v bar : ℕ) (line : GivenBar) : Type 0 where
  pub voice : line.voice ≡ v
  pub number : line.bar ≡ bar
  pub whole : length line.cells ≡ 8
  pub follow : FollowOn Tied line.cells

end-read : (v bar : ℕ) (done : List Given) (line : GivenBar) → FollowOn Tied done → end_given v bar done ≡ Ok line
    → IsBarRead v bar line
unfolding end_given
end-read v bar done line f e =
    let short = not (length done == 8) in
    let full = bind_ok (refused_if short kinds.Length) _ line e in
    let eight : length done ≡ 8 =
    eqb-true (length done) 8 (not-false (length done == 8) (not_refused short kinds.Length full.0 full.1)) in
    subst (IsBarRead v bar) (value_is (record { voice = v; bar = bar; cells = done }) line _ refl full.2)
    (record { voice = refl; number = refl; whole = eight; follow = f })

pub given-follow : (v bar : ℕ) (done : List Given) (words : List (List ℕ)) (line : GivenBar) → FollowOn Tied done
    → IsRun (given_run v bar) done words line → IsBarRead v bar line
given-follow v bar done [] line f h = end-read v bar done line f h
given-follow v bar done (word ∷ words) line f h =
    given-follow v bar h.0 words line (word-follow done h.0 word f h.1) h.2
