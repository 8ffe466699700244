-- A text as a row of words, each with the byte that ends it, behind which stands what no such byte
-- ends: how rows read it, which texts are right, and of the first fault of one that isn't its kind.
use Rattle.std.specs.Prelude.{◌≡◌, ℕ, ◌+◌, ◌-◌, ◌==◌, ◌&&◌, ◌||◌, Bool, List, [], ◌∷◌, Option, Some, None, Result, Ok, Err, length, nat_lt, slice_index, take, if◌then◌else◌}
use Rattle.std.specs.Option.{option_and_then}
use Rattle.std.specs.List.{onto_first}
use Rattle.text_lines.specs.Faults.{Fault}
use Rattle.text_lines.specs.Rows.{IsRow, IsRowFault, Place, Row, named_place, row_in}
use Rattle.text_lines.specs.Words.{LineWords, PlacedWord}

-- a byte that ends a line, and one that ends a word of it
abbrev pub is_feed : ℕ → Bool
is_feed b = b == 10

abbrev pub is_end : ℕ → Bool
is_end b = (b == 32) || (b == 10)

-- the words of bytes, each with the byte that ends it, and behind them what none ends
unfoldable pub ended : (ℕ → Bool) → List ℕ → List (List ℕ)
ended ends [] = []
ended ends (b ∷ bs) = if ends b then (b ∷ []) ∷ ended ends bs else onto_first b (ended ends bs)

-- a word without the byte that ends it, which has to be this one
abbrev pub without : ℕ → List ℕ → Option (List ℕ)
without end word =
    if nat_lt 0 (length word) && (slice_index word (length word - 1) == end) then Some (take (length word - 1) word)
    else None

-- words from a column on
abbrev pub placed : ℕ → List (List ℕ) → List PlacedWord
placed column [] = []
placed column (word ∷ words) =
    record { line = 1; column = column; text = word } ∷ placed (column + length word) words

-- what is left of a text, from a column on
abbrev pub left_of_text : (ℕ → Bool) → ℕ → List ℕ → LineWords
left_of_text ends column bytes = record {
  line = 1;
  past = column;
  end = column + length bytes;
  words = placed column (ended ends bytes);
}

abbrev pub whole_text : (ℕ → Bool) → List ℕ → LineWords
whole_text ends bytes = left_of_text ends 1 bytes

-- the place of a word that ends so and names something
abbrev pub ended_place : {K V : Type 0} → K → ℕ → (List ℕ → Option V) → Place K V
ended_place kind end named = named_place kind kind (λ word. option_and_then named (without end word))

-- ---- reading

-- the kind of the fault alone
abbrev pub by_kind : {K R : Type 0} → Result R (Fault K) → Result R K
by_kind (Ok x) = Ok x
by_kind (Err f) = Err f.kind

-- what a text says by a row, or the kind of its first fault
unfoldable pub said : {K R : Type 0} → (ℕ → Bool) → Row K R → List ℕ → Result R K
said ends row bytes = by_kind (row_in row (whole_text ends bytes))

-- ---- without reading

-- the words of a text are right, and say this
abbrev pub Says : {K R : Type 0} → (ℕ → Bool) → Row K R → List ℕ → R → Type 0
Says ends row bytes x = IsRow row (whole_text ends bytes) x

-- the first fault of a text is of this kind: all words before it are right
abbrev pub GoesWrong : {K R : Type 0} → (ℕ → Bool) → Row K R → List ℕ → K → Type 0
GoesWrong {K = K} ends row bytes kind = (f : Fault K) × IsRowFault row (whole_text ends bytes) f × (f.kind ≡ kind)

-- a text that is fit to be read says this
abbrev pub IsText : {K R : Type 0} → Type 0 → (ℕ → Bool) → Row K R → List ℕ → R → Type 0
IsText Fits ends row bytes x = Fits × Says ends row bytes x

-- a text that isn't fit has a fault of this first kind, and another goes wrong
pub data IsTextFault {K R : Type 0} (Fits : Type 0) (first : K) (ends : ℕ → Bool) (row : Row K R) (bytes : List ℕ) (kind : K)
    : Type 0 where
  unfit : (Fits → ⊥) → kind ≡ first → IsTextFault Fits first ends row bytes kind
  in_words : Fits → GoesWrong ends row bytes kind → IsTextFault Fits first ends row bytes kind
