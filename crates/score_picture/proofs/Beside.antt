-- What is drawn of a note ends before what is drawn of the next one begins.
use Rattle.std.proofs.Common.{◌≡◌, ◌⊎◌, inl, inr, ◌+◌, ◌-◌, ◌*◌, ◌==◌, ◌&&◌, ◌<◌, ◌≤◌, ◌++◌, ◌∷◌, [], ℕ, zero, suc, Bool, true, false, cond, List, Some, All, nat_le, filter, refl, ap, sym, ◌∙◌, subst, arith}
use Rattle.std.specs.Prelude.{◌/◌, Option, None, nat_lt}
use Rattle.std.specs.List.{Contains, flat_map, list_any, range_with_len}
use Rattle.std.specs.Option.{option_map_or}
use Rattle.std.proofs.Math.Nat.{le-suc_iff}
use Rattle.std.proofs.lemmas.Bool.{and_from, eq-eqb, ne_eqb, false≢true}
use Rattle.std.proofs.lemmas.List.Elements.{All-append, All-cons, All-head, All-nil, All-tail}
use Rattle.std.proofs.lemmas.List.Folds.{list_any_at}
use Rattle.fux_pitch.specs.declared.pitch.Pitch.{Pitch}
use Rattle.fux_pitch.specs.Pitch.{degree_of}
use Rattle.written_notes.specs.declared.bar.Written.{Written}
use Rattle.written_notes.specs.declared.signs.Sign.{Sign}
use Rattle.written_notes.specs.declared.signs.Sign.TheVariants as sign
use Rattle.written_notes.specs.declared.values.NoteValue.{NoteValue}
use Rattle.written_notes.specs.declared.values.Base.{Base}
use Rattle.written_notes.specs.declared.values.Base.TheVariants.{Whole, Half, Quarter, Eighth}
use Rattle.written_notes.specs.Values.{value_of}
use Rattle.sheet_layout.specs.Spacing.{begins, has_sign, is_shown, lead, room_of, slot_x}
use Rattle.sheet_layout.specs.declared.heads.Head.{Head}
use Rattle.sheet_layout.specs.declared.heads.NotePlace.{NotePlace}
use Rattle.sheet_layout.specs.declared.shapes.Shape.{Shape}
use Rattle.sheet_layout.specs.declared.shapes.Shape.TheVariants.{At, Tie}
use Rattle.sheet_layout.specs.declared.shapes.Symbol.TheVariants.{Sharp, Flat, Natural, Dot, Ledger, UpFlag, DownFlag}
use Rattle.score_picture.specs.Boxes.{EndBefore, IsInBar, NotesStandApart, PartsStandApart, is_own, shape_from, shape_to, symbol_from, symbol_to, written_shapes}
use Rattle.sheet_layout.specs.Heads.{head_of, stem_x, tip}
use Rattle.sheet_layout.specs.Notes.{beam, dot_height, dots, flag, has_flag, has_stem, head_symbol, ledger_at, ledgers, note_shapes, point, rest_shapes, rest_symbol, rest_x, signs, starts_beam, stem, stems, tie_to, ties}
use Rattle.sheet_layout.specs.Shapes.{when}

-- ---- all of some shapes

-- an own shape begins at a place or behind it, and ends there or before it
abbrev BeginsAt : ℕ → Shape → Type 0
BeginsAt x s = is_own s ≡ true → x ≤ shape_from s

abbrev EndsAt : ℕ → Shape → Type 0
EndsAt x s = is_own s ≡ true → shape_to s ≤ x

all-when : (P : Shape → Type 0) (drawn : Bool) (s : Shape) → (drawn ≡ true → P s) → All P (when drawn s)
all-when P true s h = All-cons P s [] (h refl) (All-nil P)
all-when P false s h = All-nil P

all-one : (P : Shape → Type 0) (s : Shape) → P s → All P (s ∷ [])
all-one P s h = All-cons P s [] h (All-nil P)

all-flat : (P : Shape → Type 0) (f : ℕ → List Shape) → ((k : ℕ) → All P (f k)) → (ks : List ℕ) → All P (flat_map f ks)
all-flat P f h [] = All-nil P
all-flat P f h (k ∷ ks) = All-append P (f k) (flat_map f ks) (h k) (all-flat P f h ks)

all-or : (P : Shape → Type 0) (f : Pitch → List Shape) (none : List Shape) → ((p : Pitch) → All P (f p)) → All P none
    → (pitch : Option Pitch) → All P (option_map_or f pitch none)
all-or P f none h rest None = rest
all-or P f none h rest (Some p) = h p

-- what holds of own shapes holds of those that are kept
kept : (P : Shape → Type 0) (x : Shape) (us : List Shape) (b : Bool) → (b ≡ true → P x) → All P us → All P (cond b (x ∷ us) us)
kept P x us true f h = All-cons P x us (f refl) h
kept P x us false f h = h

all-own : (P : Shape → Type 0) (xs : List Shape) → All (λ s. is_own s ≡ true → P s) xs → All P (filter is_own xs)
all-own P [] h = All-nil P
all-own P (x ∷ xs) h =
    kept P x (filter is_own xs) (is_own x) (All-head (λ s. is_own s ≡ true → P s) x xs h)
    (all-own P xs (All-tail (λ s. is_own s ≡ true → P s) x xs h))

-- what ends at a place stands before what begins there
ends-before : (x y : ℕ) → x ≤ y → (these those : List Shape) → All (EndsAt x) these → All (BeginsAt y) those
    → EndBefore these those
ends-before x y h these those ends begin =
    let end = all-own (λ s. shape_to s ≤ x) these ends in
    let start = all-own (λ t. y ≤ shape_from t) those begin in
    λ k d within n e there. omega (arith, h, end k d within, start n e there)

-- ---- the shapes of a head

module _ (head : Head) (far : 18 ≤ head.x) where
  stem-from : (b : Bool) → head.x - 9 ≤ stem_x b head.x - 1
  stem-from true = omega (arith, far)
  stem-from false = omega (arith, far)

  stem-to : (b : Bool) → stem_x b head.x + 1 ≤ head.x + 9
  stem-to true = omega (arith, far)
  stem-to false = omega (arith, far)

  flag-from : (b : Bool) (up down : ℕ)
      → BeginsAt (head.x - 9) (cond b (At UpFlag (point head.x up)) (At DownFlag (point head.x down)))
  flag-from true up down own = omega (arith, far)
  flag-from false up down own = omega (arith, far)

  flag-to : (b : Bool) (up down : ℕ)
      → EndsAt (head.x + 12) (cond b (At UpFlag (point head.x up)) (At DownFlag (point head.x down)))
  flag-to true up down own = omega (arith, far)
  flag-to false up down own = omega (arith, far)

  head-from : (base : Base) → head.x - 9 ≤ symbol_from (head_symbol base) head.x
  head-from Whole = omega (arith, far)
  head-from Half = omega (arith, far)
  head-from Quarter = omega (arith, far)
  head-from Eighth = omega (arith, far)

  head-to : (base : Base) → symbol_to (head_symbol base) head.x ≤ head.x + 9
  head-to Whole = omega arith
  head-to Half = omega arith
  head-to Quarter = omega arith
  head-to Eighth = omega arith

  ledgers-from : (middle degree : ℕ) → All (BeginsAt (head.x - 9)) (ledgers head.x middle degree)
  ledgers-from middle degree =
      let P : Shape → Type 0 = BeginsAt (head.x - 9) in
      all-flat P (ledger_at head.x middle degree)
      (λ k. All-append P (when (nat_le (middle + 2 * k) degree) (At Ledger (point head.x (600 - 8 * k))))
      (when (nat_le (degree + 2 * k) middle) (At Ledger (point head.x (600 + 8 * k))))
      (all-when P (nat_le (middle + 2 * k) degree) (At Ledger (point head.x (600 - 8 * k))) (λ _ _. omega arith))
      (all-when P (nat_le (degree + 2 * k) middle) (At Ledger (point head.x (600 + 8 * k))) (λ _ _. omega arith)))
      (range_with_len 3 11)

  ledgers-to : (middle degree : ℕ) → All (EndsAt (head.x + 9)) (ledgers head.x middle degree)
  ledgers-to middle degree =
      let P : Shape → Type 0 = EndsAt (head.x + 9) in
      all-flat P (ledger_at head.x middle degree)
      (λ k. All-append P (when (nat_le (middle + 2 * k) degree) (At Ledger (point head.x (600 - 8 * k))))
      (when (nat_le (degree + 2 * k) middle) (At Ledger (point head.x (600 + 8 * k))))
      (all-when P (nat_le (middle + 2 * k) degree) (At Ledger (point head.x (600 - 8 * k))) (λ _ _. omega arith))
      (all-when P (nat_le (degree + 2 * k) middle) (At Ledger (point head.x (600 + 8 * k))) (λ _ _. omega arith)))
      (range_with_len 3 11)

  stems-from : (base : Base) → All (BeginsAt (head.x - 9)) (stems base head)
  stems-from base =
      let P : Shape → Type 0 = BeginsAt (head.x - 9) in
      All-append P (when (has_stem base) (stem head) ++ when (has_flag base head.beam) (flag head))
      (when (starts_beam head.beam) (beam head))
      (All-append P (when (has_stem base) (stem head)) (when (has_flag base head.beam) (flag head))
      (all-when P (has_stem base) (stem head) (λ _ _. stem-from head.up))
      (all-when P (has_flag base head.beam) (flag head)
      (λ _. flag-from head.up (tip head.up head.y head.far + 28) (tip head.up head.y head.far - 28))))
      (all-when P (starts_beam head.beam) (beam head) (λ _ own. absurd (false≢true own)))

  stems-to : (base : Base) → All (EndsAt (head.x + 12)) (stems base head)
  stems-to base =
      let P : Shape → Type 0 = EndsAt (head.x + 12) in
      All-append P (when (has_stem base) (stem head) ++ when (has_flag base head.beam) (flag head))
      (when (starts_beam head.beam) (beam head))
      (All-append P (when (has_stem base) (stem head)) (when (has_flag base head.beam) (flag head))
      (all-when P (has_stem base) (stem head) (λ _ _. omega (arith, stem-to head.up)))
      (all-when P (has_flag base head.beam) (flag head)
      (λ _. flag-to head.up (tip head.up head.y head.far + 28) (tip head.up head.y head.far - 28))))
      (all-when P (starts_beam head.beam) (beam head) (λ _ own. absurd (false≢true own)))

  signs-from : (written : Sign) (y : ℕ) → All (BeginsAt (head.x - 17)) (signs written head.x y)
  signs-from sign.Plain y = All-nil (BeginsAt (head.x - 17))
  signs-from sign.Sharp y = all-one (BeginsAt (head.x - 17)) (At Sharp (point (head.x - 13) y)) (λ _. omega arith)
  signs-from sign.Flat y = all-one (BeginsAt (head.x - 17)) (At Flat (point (head.x - 13) y)) (λ _. omega arith)
  signs-from sign.Natural y = all-one (BeginsAt (head.x - 17)) (At Natural (point (head.x - 13) y)) (λ _. omega arith)

  signs-to : (written : Sign) (y : ℕ) → All (EndsAt (head.x - 9)) (signs written head.x y)
  signs-to sign.Plain y = All-nil (EndsAt (head.x - 9))
  signs-to sign.Sharp y = all-one (EndsAt (head.x - 9)) (At Sharp (point (head.x - 13) y)) (λ _. omega (arith, far))
  signs-to sign.Flat y = all-one (EndsAt (head.x - 9)) (At Flat (point (head.x - 13) y)) (λ _. omega (arith, far))
  signs-to sign.Natural y = all-one (EndsAt (head.x - 9)) (At Natural (point (head.x - 13) y)) (λ _. omega (arith, far))

-- ---- dots and ties

dots-from : (count x y : ℕ) → All (BeginsAt (x + 9)) (dots count x y)
dots-from count x y =
    let P : Shape → Type 0 = BeginsAt (x + 9) in
    All-append P (when (nat_lt 0 count) (At Dot (point (x + 11) y))) (when (nat_lt 1 count) (At Dot (point (x + 16) y)))
    (all-when P (nat_lt 0 count) (At Dot (point (x + 11) y)) (λ _ _. omega arith))
    (all-when P (nat_lt 1 count) (At Dot (point (x + 16) y)) (λ _ _. omega arith))

dots-to : (count x y : ℕ) → All (EndsAt (x + 18)) (dots count x y)
dots-to count x y =
    let P : Shape → Type 0 = EndsAt (x + 18) in
    All-append P (when (nat_lt 0 count) (At Dot (point (x + 11) y))) (when (nat_lt 1 count) (At Dot (point (x + 16) y)))
    (all-when P (nat_lt 0 count) (At Dot (point (x + 11) y)) (λ _ _. omega arith))
    (all-when P (nat_lt 1 count) (At Dot (point (x + 16) y)) (λ _ _. omega arith))

-- a note of one or two slots has no dots
dots-few : (slots : ℕ) → (3 ≤ slots) ⊎ ((value_of slots).dots ≡ 0)
dots-few zero = inr refl
dots-few (suc zero) = inr refl
dots-few (suc (suc zero)) = inr refl
dots-few (suc (suc (suc n))) = inl (omega arith)

ties-own : (P : Shape → Type 0) (all : List Written) (place : NotePlace) (note : Written) (head : Head)
    → All (λ s. is_own s ≡ true → P s) (ties all place note head)
ties-own P all place note head =
    let Q : Shape → Type 0 = λ s. is_own s ≡ true → P s in
    let out : Shape = Tie head.up (point (head.x + 6) head.y) (tie_to all place note) in
    let in_from : Shape = Tie head.up (point (head.x - 18) head.y) (head.x - 6) in
    let goes_on : Bool = note.tie_in && (note.slot == 0) && place.first in
    All-append Q (when note.tie_out out) (when goes_on in_from)
    (all-when Q note.tie_out out (λ _ own. absurd (false≢true own)))
    (all-when Q goes_on in_from (λ _ own. absurd (false≢true own)))

weaker-end : (x y : ℕ) → x ≤ y → (xs : List Shape) → All (EndsAt x) xs → All (EndsAt y) xs
weaker-end x y h xs ends = λ k d there own. omega (arith, h, ends k d there own)

weaker-begin : (x y : ℕ) → y ≤ x → (xs : List Shape) → All (BeginsAt x) xs → All (BeginsAt y) xs
weaker-begin x y h xs begin = λ k d there own. omega (arith, h, begin k d there own)

-- ---- the parts of one note

pub parts-apart : PartsStandApart
parts-apart note middle degree dot head far =
    let x = head.x in
    let base = note.value.base in
    let from : Shape → Type 0 = BeginsAt (x - 9) in
    let to : Shape → Type 0 = EndsAt (x + 9) in
    let ruled : List Shape = ledgers x middle degree in
    let one : List Shape = At (head_symbol base) (point x head.y) ∷ [] in
    let stemmed : List Shape = stems base head in
    let dotted : List Shape = dots note.value.dots x dot in
    let all-else =
    All-append from (ruled ++ one ++ stemmed) dotted
    (All-append from (ruled ++ one) stemmed
    (All-append from ruled one (ledgers-from head far middle degree)
    (all-one from (At (head_symbol base) (point x head.y)) (λ _. head-from head far base)))
    (stems-from head far base))
    (weaker-begin (x + 9) (x - 9) (omega arith) dotted (dots-from note.value.dots x dot)) in
    let core =
    All-append to (ruled ++ one) (stem head ∷ [])
    (All-append to ruled one (ledgers-to head far middle degree)
    (all-one to (At (head_symbol base) (point x head.y)) (λ _. head-to head far base)))
    (all-one to (stem head) (λ _. stem-to head far head.up)) in (
      ends-before (x - 9) (x - 9) (omega arith) (signs note.sign x head.y) (ruled ++ one ++ stemmed ++ dotted)
          (signs-to head far note.sign head.y) all-else,
      ends-before (x + 9) (x + 9) (omega arith) (ruled ++ one ++ stem head ∷ []) dotted core
          (dots-from note.value.dots x dot),
    )

-- ---- one note and the next

-- an element that passes is found
found : (p : Written → Bool) (all : List Written) (note : Written) → Contains all note → p note ≡ true
    → list_any p all ≡ true
found p all note (k, there, is) h = list_any_at p all k note there (ap p is ∙ h)

same-slot : (n : ℕ) → (n == n) ≡ true
same-slot n = eq-eqb n n refl

-- slots have 4 at least
rooms-least : (all : List Written) (a b : ℕ) → a ≤ b → room_of all a + 4 * (b - a) ≤ room_of all b
rooms-least all a zero h = let e : a ≡ 0 = omega (arith, h) in rw e (omega arith)
rooms-least all a (suc b) h =
    elim (le-suc_iff.0 h) [
      | inl below ↦ omega (arith, below, rooms-least all a b below)
      | inr e ↦ rw e (omega arith)
    ]

-- a slot that is so many behind one where a note begins
far-enough : (all : List Written) (slot slots later : ℕ) → begins all slot ≡ true → 1 ≤ slots → slot + slots ≤ later
    → slot_x all slot + 17 + 4 * slots + lead all later ≤ slot_x all later
far-enough all slot slots later there some behind =
    let wide : room_of all (suc slot) ≡ room_of all slot + (4 + 17 + lead all slot) =
    ap (λ b. room_of all slot + (4 + cond b 17 0 + lead all slot)) there in
    let next : suc slot ≤ later = omega (arith, some, behind) in
    omega (arith, wide, some, behind, rooms-least all (suc slot) later next)

x-far : (all : List Written) (slot : ℕ) → 18 + lead all slot ≤ slot_x all slot
x-far all slot = omega arith

-- a sign has its room
sign-room : (all : List Written) (slot : ℕ) → has_sign all slot ≡ true → lead all slot ≡ 11
sign-room all slot e = ap (λ b. cond b 11 0) e

module _ (all notes : List Written) (place : NotePlace) (note : Written) (in-bar : IsInBar all note) where
  abbrev x : ℕ
  x = slot_x all note.slot

  few : 18 ≤ x
  few = omega (arith, x-far all note.slot)

  -- where what is drawn ends: the dots of a note of three slots or more
  dots-end : (y : ℕ) → All (EndsAt (x + 8 + 4 * note.slots)) (dots note.value.dots x y)
  dots-end y = by (dots-few note.slots)
    where
      by : (3 ≤ note.slots) ⊎ ((value_of note.slots).dots ≡ 0) → All (EndsAt (x + 8 + 4 * note.slots)) (dots note.value.dots x y)
      by (inl many) =
          weaker-end (x + 18) (x + 8 + 4 * note.slots) (omega (arith, many)) (dots note.value.dots x y)
          (dots-to note.value.dots x y)
      by (inr none) =
          subst (λ count. All (EndsAt (x + 8 + 4 * note.slots)) (dots count x y))
          (sym (ap (λ (v : NoteValue). v.dots) in-bar.value ∙ none))
          (All-nil (EndsAt (x + 8 + 4 * note.slots)))

  -- where its sign is shown, there is room for it
  shown : is_shown note.sign ≡ true → lead all note.slot ≡ 11
  shown e =
      sign-room all note.slot
      (found (λ (one : Written). (one.slot == note.slot) && is_shown one.sign) all note in-bar.there
      (and_from (note.slot == note.slot) (is_shown note.sign) (same-slot note.slot) e))

  -- the signs of a note stand in the room before its slot
  sign-begin : (written : Sign) (y : ℕ) → note.sign ≡ written
      → All (BeginsAt (x - (9 + lead all note.slot))) (signs written x y)
  sign-begin sign.Plain y e = All-nil (BeginsAt (x - (9 + lead all note.slot)))
  sign-begin sign.Sharp y e =
      all-one (BeginsAt (x - (9 + lead all note.slot))) (At Sharp (point (x - 13) y))
      (λ _. omega (arith, few, shown (ap is_shown e)))
  sign-begin sign.Flat y e =
      all-one (BeginsAt (x - (9 + lead all note.slot))) (At Flat (point (x - 13) y))
      (λ _. omega (arith, few, shown (ap is_shown e)))
  sign-begin sign.Natural y e =
      all-one (BeginsAt (x - (9 + lead all note.slot))) (At Natural (point (x - 13) y))
      (λ _. omega (arith, few, shown (ap is_shown e)))

  -- what is drawn of it begins behind the room of its signs
  note-begins : (p : Pitch) → All (BeginsAt (x - (9 + lead all note.slot))) (note_shapes all notes place note p)
  note-begins p =
      let head : Head = head_of all notes place.middle note p in
      let base = note.value.base in
      let n : ℕ = x - (9 + lead all note.slot) in
      let P : Shape → Type 0 = BeginsAt n in
      let less : n ≤ x - 9 = omega arith in
      let dot : ℕ = dot_height place.middle (degree_of p) head.y in
      let ruled : List Shape = ledgers x place.middle (degree_of p) in
      let one : List Shape = At (head_symbol base) (point x head.y) ∷ [] in
      let stemmed : List Shape = stems base head in
      let signed : List Shape = signs note.sign x head.y in
      let dotted : List Shape = dots note.value.dots x dot in
      let tied : List Shape = ties all place note head in
      All-append P (ruled ++ one ++ stemmed ++ signed ++ dotted) tied
      (All-append P (ruled ++ one ++ stemmed ++ signed) dotted
      (All-append P (ruled ++ one ++ stemmed) signed
      (All-append P (ruled ++ one) stemmed
      (All-append P ruled one
      (weaker-begin (x - 9) n less ruled (ledgers-from head few place.middle (degree_of p)))
      (all-one P (At (head_symbol base) (point x head.y)) (λ _. omega (arith, less, head-from head few base))))
      (weaker-begin (x - 9) n less stemmed (stems-from head few base)))
      (sign-begin note.sign head.y refl))
      (weaker-begin (x + 9) n (omega arith) dotted (dots-from note.value.dots x dot)))
      (ties-own (λ s. n ≤ shape_from s) all place note head)

  -- and ends before the next slot's room
  note-ends : (p : Pitch) → All (EndsAt (x + 8 + 4 * note.slots)) (note_shapes all notes place note p)
  note-ends p =
      let head : Head = head_of all notes place.middle note p in
      let base = note.value.base in
      let n : ℕ = x + 8 + 4 * note.slots in
      let P : Shape → Type 0 = EndsAt n in
      let more : x + 12 ≤ n = omega (arith, in-bar.some) in
      let dot : ℕ = dot_height place.middle (degree_of p) head.y in
      let ruled : List Shape = ledgers x place.middle (degree_of p) in
      let one : List Shape = At (head_symbol base) (point x head.y) ∷ [] in
      let stemmed : List Shape = stems base head in
      let signed : List Shape = signs note.sign x head.y in
      let dotted : List Shape = dots note.value.dots x dot in
      let tied : List Shape = ties all place note head in
      All-append P (ruled ++ one ++ stemmed ++ signed ++ dotted) tied
      (All-append P (ruled ++ one ++ stemmed ++ signed) dotted
      (All-append P (ruled ++ one ++ stemmed) signed
      (All-append P (ruled ++ one) stemmed
      (All-append P ruled one
      (weaker-end (x + 9) n (omega (arith, more)) ruled (ledgers-to head few place.middle (degree_of p)))
      (all-one P (At (head_symbol base) (point x head.y)) (λ _. omega (arith, more, head-to head few base))))
      (weaker-end (x + 12) n more stemmed (stems-to head few base)))
      (weaker-end (x - 9) n (omega (arith, more)) signed (signs-to head few note.sign head.y)))
      (dots-end dot))
      (ties-own (λ s. shape_to s ≤ n) all place note head)

  -- the same of a rest that doesn't fill the bar
  module _ (short : note.slots < 8) where
    rest-place : rest_x all place note ≡ x
    rest-place =
        ap (λ b. cond b (place.width / 2) x) (ne_eqb note.slots 8 (λ e. omega (arith, e, short)))

    rest-from : (base : Base) → x - 9 ≤ symbol_from (rest_symbol base) x
    rest-from Whole = omega (arith, few)
    rest-from Half = omega (arith, few)
    rest-from Quarter = omega (arith, few)
    rest-from Eighth = omega (arith, few)

    rest-to : (base : Base) → symbol_to (rest_symbol base) x ≤ x + 9
    rest-to Whole = omega arith
    rest-to Half = omega arith
    rest-to Quarter = omega arith
    rest-to Eighth = omega arith

    abbrev rest_at : ℕ → List Shape
    rest_at at = At (rest_symbol note.value.base) (point at 600) ∷ [] ++ dots note.value.dots at 596

    rest-begins : All (BeginsAt (x - (9 + lead all note.slot))) (rest_shapes all place note)
    rest-begins =
        let n = x - (9 + lead all note.slot) in
        let P : Shape → Type 0 = BeginsAt n in
        subst (λ at. All P (rest_at at)) (sym rest-place)
        (All-append P (At (rest_symbol note.value.base) (point x 600) ∷ []) (dots note.value.dots x 596)
        (all-one P (At (rest_symbol note.value.base) (point x 600)) (λ _. omega (arith, rest-from note.value.base)))
        (weaker-begin (x + 9) n (omega arith) (dots note.value.dots x 596) (dots-from note.value.dots x 596)))

    rest-ends : All (EndsAt (x + 8 + 4 * note.slots)) (rest_shapes all place note)
    rest-ends =
        let n = x + 8 + 4 * note.slots in
        let P : Shape → Type 0 = EndsAt n in
        subst (λ at. All P (rest_at at)) (sym rest-place)
        (All-append P (At (rest_symbol note.value.base) (point x 600) ∷ []) (dots note.value.dots x 596)
        (all-one P (At (rest_symbol note.value.base) (point x 600))
        (λ _. omega (arith, in-bar.some, rest-to note.value.base)))
        (dots-end 596))

    begins-there : All (BeginsAt (x - (9 + lead all note.slot))) (written_shapes all notes place note)
    begins-there =
        all-or (BeginsAt (x - (9 + lead all note.slot))) (note_shapes all notes place note) (rest_shapes all place note)
        note-begins rest-begins note.pitch

    ends-there : All (EndsAt (x + 8 + 4 * note.slots)) (written_shapes all notes place note)
    ends-there =
        all-or (EndsAt (x + 8 + 4 * note.slots)) (note_shapes all notes place note) (rest_shapes all place note)
        note-ends rest-ends note.pitch

pub notes-apart : NotesStandApart
notes-apart all notes place note other here there behind =
    let short : note.slots < 8 = omega (arith, behind, there.some, there.within) in
    let shorter : other.slots < 8 = omega (arith, behind, here.some, there.within) in
    let begun : begins all note.slot ≡ true =
    found (λ (one : Written). one.slot == note.slot) all note here.there (same-slot note.slot) in
    let enough : slot_x all note.slot + 8 + 4 * note.slots ≤ slot_x all other.slot - (9 + lead all other.slot) =
    omega (arith, far-enough all note.slot note.slots other.slot begun here.some behind) in
    ends-before (slot_x all note.slot + 8 + 4 * note.slots) (slot_x all other.slot - (9 + lead all other.slot)) enough
    (written_shapes all notes place note) (written_shapes all notes place other)
    (ends-there all notes place note here short) (begins-there all notes place other there shorter)
