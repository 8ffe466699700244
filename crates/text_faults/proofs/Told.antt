-- What is told of lines, one after the other, is the faults of those behind a line: all of them and
-- no others, in order, and no line has two.
use Rattle.std.proofs.Common.{◌≡◌, ℕ, zero, suc, ◌+◌, ◌<◌, ◌≤◌, Bool, true, false, List, [], ◌∷◌, ◌++◌, Contains, Ok, Err, inl, inr, refl, sym, arith}
use Rattle.std.specs.Prelude.{length, nat_lt, if◌then◌else◌}
use Rattle.std.specs.List.{slice_split}
use Rattle.std.specs.Str.{is_utf8}
use Rattle.std.specs.Str.Lines.{lines}
use Rattle.std.proofs.lemmas.Bool.{lt-ltb, ltb-true}
use Rattle.std.proofs.lemmas.List.Elements.{Contains-append_cases, Contains-append_left, Contains-append_right, Contains-push}
use Rattle.fux_text.specs.declared.fault.TextKind.{TextKind}
use Rattle.fux_text.specs.declared.fault.TextKind.TheVariants as kinds
use Rattle.text_lines.specs.Faults.{Fault}
use Rattle.text_lines.specs.Lines.{is_skipped, line_words, lines_from, lines_in, numbered}
use Rattle.text_lines.specs.Utf8.{fault_of_utf8, text_in}
use Rattle.text_lines.specs.Words.{LineWords, is_blank, placed, words_from}
use Rattle.text_faults.specs.declared.found.FoundFault.{FoundFault}
use Rattle.text_faults.specs.declared.known.Known.{Known}
use Rattle.text_faults.specs.Below.{AreBelow, AreFrom, IsFaultOfOne, StandBehind, found, judged, known_after, known_behind, lines_judged, lines_read, told_below, told_of}
use Rattle.text_faults.specs.HeadLines.{Judged}
use Rattle.text_faults.specs.Known.{nothing_known}
use Rattle.text_faults.proofs.FaultLines.{AllOf, FaultIn, IsOfLine, judged_line}

-- ---- the lines of a text have ascending numbers

-- from a number on, and all words of a line are of it
abbrev pub AreNumbered : ℕ → List LineWords → Type 0
AreNumbered n [] = Unit {0}
AreNumbered n (line ∷ lines) = (n ≤ line.line) × IsOfLine line.line line × AreNumbered (line.line + 1) lines

lower : (m n : ℕ) (lines : List LineWords) → m ≤ n → AreNumbered n lines → AreNumbered m lines
lower m n [] h a = tt
lower m n (line ∷ lines) h a = (omega (arith, h, a.0), a.1, a.2)

placed_line : (n column : ℕ) (pieces : List (List ℕ)) → AllOf n (placed n column pieces)
placed_line n column [] = tt
placed_line n column ([] ∷ pieces) = placed_line n (column + 0 + 1) pieces
placed_line n column ((b ∷ bs) ∷ pieces) = (refl, placed_line n (column + length (b ∷ bs) + 1) pieces)

one_line : (n : ℕ) (bytes : List ℕ) → IsOfLine n (line_words n bytes)
unfolding words_from
one_line n bytes = record { line = refl; words = placed_line n 1 (slice_split is_blank bytes) }

numbered_lines : (n : ℕ) (texts : List (List ℕ)) → AreNumbered n (numbered n texts)
numbered_lines n [] = tt
numbered_lines n (bytes ∷ others) = by (is_skipped bytes) (numbered_lines (n + 1) others)
  where
    by : (b : Bool) → AreNumbered (n + 1) (numbered (n + 1) others)
        → AreNumbered n (if b then numbered (n + 1) others else line_words n bytes ∷ numbered (n + 1) others)
    by true a = lower n (n + 1) (numbered (n + 1) others) (omega arith) a
    by false a = (omega arith, one_line n bytes, a)

judged_numbered : (bytes : List ℕ) → AreNumbered 1 (lines_judged bytes)
unfolding lines_judged text_in lines_from
judged_numbered bytes = by (nat_lt 65536 (length bytes)) (is_utf8 bytes)
  where
    by : (long utf8 : Bool) → AreNumbered 1 (lines_read (if long then Err (record { kind = kinds.TooLong; line = 1; column = 1 })
        else (if utf8 then Ok (lines_in bytes) else Err (fault_of_utf8 kinds.NotUtf8 bytes))))
    by true utf8 = tt
    by false true = numbered_lines 1 (lines bytes)
    by false false = tt

-- ---- what is told is a fault of one of them

none_there : {X : Type 0} (x : X) → Contains [] x → ⊥
none_there x c = omega (arith, c.1)

only_there : {X : Type 0} (x y : X) → Contains (x ∷ []) y → y ≡ x
only_there x y (zero, h, e) = sym e
only_there x y (suc k, h, e) = absurd (omega (arith, h))

one_more : (known : Known) (line : LineWords) (lines : List LineWords) (first : ℕ) (f : FoundFault)
    → IsFaultOfOne (known_behind known (judged known line)) lines f × (first < f.line)
    → IsFaultOfOne known (line ∷ lines) f × (first < f.line)
one_more known line lines first f told = (
  record {
    above = line ∷ told.0.above;
    line = told.0.line;
    below = told.0.below;
    stands = rw told.0.stands refl;
    fault = told.0.fault;
    wrong = told.0.wrong;
    there = told.0.there;
    is = told.0.is;
  },
  told.1,
)

of_line : (first : ℕ) (known : Known) (line : LineWords) (lines : List LineWords) (f : FoundFault) (r : Judged)
    → judged known line ≡ r → FaultIn line.line r → Contains (told_of first r) f
    → IsFaultOfOne known (line ∷ lines) f × (first < f.line)
of_line first known line lines f (Ok more) e i c = absurd (none_there f c)
of_line first known line lines f (Err fault) e i c = by (nat_lt first fault.line) refl c
  where
    by : (b : Bool) → nat_lt first fault.line ≡ b → Contains (if b then found fault ∷ [] else []) f
        → IsFaultOfOne known (line ∷ lines) f × (first < f.line)
    by true t c =
        let same : f ≡ found fault = only_there (found fault) f c in (
          record {
            above = [];
            line = line;
            below = lines;
            stands = refl;
            fault = fault;
            wrong = e;
            there = i;
            is = same;
          },
          rw same (ltb-true first fault.line t),
        )
    by false t c = absurd (none_there f c)

told_is : (first : ℕ) (known : Known) (lines : List LineWords) (n : ℕ) (f : FoundFault) → AreNumbered n lines
    → Contains (told_below first known lines) f → IsFaultOfOne known lines f × (first < f.line)
told_is first known [] n f a c = absurd (none_there f c)
told_is first known (line ∷ lines) n f a c =
    elim (Contains-append_cases (told_of first (judged known line))
    (told_below first (known_behind known (judged known line)) lines) f c) [
      | inl here ↦ of_line first known line lines f (judged known line) refl (judged_line known line line.line a.1) here
      | inr later ↦ one_more known line lines first f
          (told_is first (known_behind known (judged known line)) lines (line.line + 1) f a.2 later)
    ]

-- ---- each is told

fault_told : (first : ℕ) (above : List LineWords) (known : Known) (line : LineWords) (below : List LineWords)
    (fault : Fault TextKind) → judged (known_after known above) line ≡ Err fault → first < fault.line
    → Contains (told_below first known (above ++ line ∷ below)) (found fault)
fault_told first [] known line below fault e h =
    let t : nat_lt first fault.line ≡ true = lt-ltb first fault.line h in
    Contains-append_left (told_of first (judged known line))
    (told_below first (known_behind known (judged known line)) below) (found fault)
    (rw (e, t) (Contains-push [] (found fault)))
fault_told first (a ∷ above) known line below fault e h =
    Contains-append_right (told_of first (judged known a))
    (told_below first (known_behind known (judged known a)) (above ++ line ∷ below)) (found fault)
    (fault_told first above (known_behind known (judged known a)) line below fault e h)

is_told : (first : ℕ) (known : Known) (lines : List LineWords) (f : FoundFault)
    → IsFaultOfOne known lines f × (first < f.line) → Contains (told_below first known lines) f
is_told first known lines f told =
    let it = told.0 in
    rw (it.stands, it.is) (fault_told first it.above known it.line it.below it.fault it.wrong
    (rw it.is at told.1))

-- ---- in order

behind_line : (m first : ℕ) (known : Known) (lines : List LineWords) (n : ℕ) → AreNumbered n lines → m < n
    → StandBehind m (told_below first known lines)
behind_line m first known [] n a h = tt
behind_line m first known (line ∷ lines) n a h =
    by (judged known line) (judged_line known line line.line a.1)
    (λ k more j. behind_line k first more lines (line.line + 1) a.2 j)
  where
    by : (r : Judged) → FaultIn line.line r
        → ((k : ℕ) (more : Known) → k < line.line + 1 → StandBehind k (told_below first more lines))
        → StandBehind m (told_of first r ++ told_below first (known_behind known r) lines)
    by (Ok more) i later = later m more (omega (arith, h, a.0))
    by (Err fault) i later = told (nat_lt first fault.line)
      where
        told : (b : Bool) → StandBehind m ((if b then found fault ∷ [] else []) ++ told_below first known lines)
        told true = (omega (arith, h, a.0, i), later fault.line known (omega (arith, i)))
        told false = later m known (omega (arith, h, a.0))

in_order : (first : ℕ) (known : Known) (lines : List LineWords) (n : ℕ) → AreNumbered n lines
    → StandBehind first (told_below first known lines)
in_order first known [] n a = tt
in_order first known (line ∷ lines) n a =
    by (judged known line) (judged_line known line line.line a.1)
    (λ k more j. behind_line k first more lines (line.line + 1) a.2 j)
    (λ more. in_order first more lines (line.line + 1) a.2)
  where
    by : (r : Judged) → FaultIn line.line r
        → ((k : ℕ) (more : Known) → k < line.line + 1 → StandBehind k (told_below first more lines))
        → ((more : Known) → StandBehind first (told_below first more lines))
        → StandBehind first (told_of first r ++ told_below first (known_behind known r) lines)
    by (Ok more) i later same = same more
    by (Err fault) i later same = told (nat_lt first fault.line) refl
      where
        told : (b : Bool) → nat_lt first fault.line ≡ b
            → StandBehind first ((if b then found fault ∷ [] else []) ++ told_below first known lines)
        told true t = (ltb-true first fault.line t, later fault.line known (omega (arith, i)))
        told false t = same known

-- ---- all of it

pub are_below : (first : ℕ) (bytes : List ℕ) → AreBelow first (lines_judged bytes) (told_below first nothing_known (lines_judged bytes))
are_below first bytes = record {
  each = λ f. (
    told_is first nothing_known (lines_judged bytes) 1 f (judged_numbered bytes),
    is_told first nothing_known (lines_judged bytes) f,
  );
  order = in_order first nothing_known (lines_judged bytes) 1 (judged_numbered bytes);
}

pub are_from : (first : FoundFault) (bytes : List ℕ) (faults : List FoundFault)
    → faults ≡ first ∷ told_below first.line nothing_known (lines_judged bytes) → AreFrom first bytes faults
are_from first bytes faults e = rw e (refl, are_below first.line bytes)
