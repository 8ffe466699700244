-- A line as a row of places, of which each may hang on the words before it: how it is read, which
-- lines are right, and the first fault of one that isn't.
use Rattle.std.specs.Prelude.{◌≡◌, ◌⊎◌, ℕ, Bool, List, [], ◌∷◌, Option, Some, None, Result, Ok, Err, map, if◌then◌else◌}
use Rattle.std.specs.Option.{ok_or}
use Rattle.text_lines.specs.Faults.{Fault, ◌>>=◌}
use Rattle.text_lines.specs.Numbers.{number_within}
use Rattle.text_lines.specs.Reading.{done, fault_at, fault_beyond, fault_past, next, same_text}
use Rattle.text_lines.specs.Words.{LineWords, PlacedWord, first_word}

-- a place: the kind of the fault where its word is missing, and what a word says there, with what
-- stands behind it, or the kind of its fault
pub record Place (K V : Type 0) : Type 0 where
  pub missing : K
  pub says : LineWords → List ℕ → Result V K

-- words of any number: what each makes of the words before it, and what those before the line's end
-- say
pub record Run (K S R : Type 0) : Type 0 where
  pub word : S → List ℕ → Result S K
  pub end : S → Result R K

-- the places of a line: the end, where a word too many is of a kind; or a place, and those behind
-- it by what it says; or a run of words, through the line's end
pub data Row (K R : Type 0) : Type 1 where
  ends : K → R → Row K R
  place : {V : Type 0} → Place K V → (V → Row K R) → Row K R
  runs : {S : Type 0} → Run K S R → S → Row K R

-- ---- places

-- the place of a word that names something
abbrev pub named_place : {K V : Type 0} → K → K → (List ℕ → Option V) → Place K V
named_place missing wrong named = record { missing = missing; says = λ behind text. ok_or (named text) wrong }

-- the place of a number within bounds
abbrev pub number_place : {K : Type 0} → K → ℕ → ℕ → Place K ℕ
number_place kind least most = named_place kind kind (number_within least most)

-- the place of this word
abbrev pub right_word : {K : Type 0} → K → Bool → Result (Unit {0}) K
right_word kind same = if same then Ok tt else Err kind

abbrev pub word_place : {K : Type 0} → K → List ℕ → Place K (Unit {0})
word_place kind word = record { missing = kind; says = λ behind text. right_word kind (same_text text word) }

-- a kind of fault, where something holds
abbrev pub refused_if : {K : Type 0} → Bool → K → Result (Unit {0}) K
refused_if bad kind = if bad then Err kind else Ok tt

-- ---- reading

abbrev pub told_at : {K V : Type 0} → PlacedWord → Result V K → Result V (Fault K)
told_at w (Ok x) = Ok x
told_at w (Err kind) = Err (fault_at kind w)

abbrev pub told_beyond : {K V : Type 0} → LineWords → Result V K → Result V (Fault K)
told_beyond at (Ok x) = Ok x
told_beyond at (Err kind) = Err (fault_beyond kind at)

abbrev pub left_behind : {K V : Type 0} → LineWords → V → Result (V × LineWords) (Fault K)
left_behind rest x = Ok (x, rest)

-- one place: what its word says, and what is left behind it
abbrev pub place_in : {K V : Type 0} → Place K V → LineWords → Result (V × LineWords) (Fault K)
place_in p at = next p.missing at >>= λ w. told_at w.0 (p.says w.1 w.0.text) >>= λ x. left_behind w.1 x

unfoldable pub run_in : {K S R : Type 0} → Run K S R → S → LineWords → List PlacedWord → Result R (Fault K)
run_in m s at [] = told_beyond at (m.end s)
run_in m s at (w ∷ ws) = told_at w (m.word s w.text) >>= λ t. run_in m t at ws

unfoldable pub row_in : {K R : Type 0} → Row K R → LineWords → Result R (Fault K)
row_in (Row.ends extra x) at = done extra at >>= λ end. Ok x
row_in (Row.place p more) at =
    next p.missing at >>= λ w. told_at w.0 (p.says w.1 w.0.text) >>= λ x. row_in (more x) w.1
row_in (Row.runs m s) at = run_in m s at at.words

-- ---- without reading

-- the texts of words
abbrev pub texts_of : List PlacedWord → List (List ℕ)
texts_of words = map (λ w. w.text) words

-- the next word is missing, and the fault is one past the line's last word; or it is refused, and
-- the fault is at it
pub data Lacks {K V : Type 0} (p : Place K V) (at : LineWords) (f : Fault K) : Type 0 where
  missing : first_word at ≡ None → f ≡ fault_past p.missing at → Lacks p at f
  refused : (w : PlacedWord) (rest : LineWords) (kind : K) → first_word at ≡ Some (w, rest)
      → p.says rest w.text ≡ Err kind → f ≡ fault_at kind w → Lacks p at f

-- the next word says this, and the rest of the line stands behind it
pub record Stands {K V : Type 0} (p : Place K V) (x : V) (at rest : LineWords) : Type 0 where
  pub word : PlacedWord
  pub next : first_word at ≡ Some (word, rest)
  pub right : p.says rest word.text ≡ Ok x

-- a word is one too many, and the fault is at it
pub record IsExtra {K : Type 0} (kind : K) (at : LineWords) (f : Fault K) : Type 0 where
  pub word : PlacedWord
  pub rest : LineWords
  pub next : first_word at ≡ Some (word, rest)
  pub fault : f ≡ fault_at kind word

-- these words are right, each behind those before it, and say this
abbrev pub IsRun : {K S R : Type 0} → Run K S R → S → List (List ℕ) → R → Type 0
IsRun m s [] x = m.end s ≡ Ok x
IsRun {S = S} m s (word ∷ words) x = (t : S) × (m.word s word ≡ Ok t) × IsRun m t words x

-- a word is wrong, and the fault is at it; or the line may not end so, and the fault is one past
-- its end
abbrev pub IsRunFault : {K S R : Type 0} → Run K S R → S → LineWords → List PlacedWord → Fault K → Type 0
IsRunFault {K = K} m s at [] f = (kind : K) × (m.end s ≡ Err kind) × (f ≡ fault_beyond kind at)
IsRunFault {K = K} {S = S} m s at (w ∷ ws) f =
    ((kind : K) × (m.word s w.text ≡ Err kind) × (f ≡ fault_at kind w))
    ⊎ ((t : S) × (m.word s w.text ≡ Ok t) × IsRunFault m t at ws f)

-- the line has right words, which say this
abbrev pub IsRow : {K R : Type 0} → Row K R → LineWords → R → Type 0
IsRow (Row.ends extra x) at y = (first_word at ≡ None) × (x ≡ y)
IsRow (Row.place {V = V} p more) at y = (x : V) × (rest : LineWords) × Stands p x at rest × IsRow (more x) rest y
IsRow (Row.runs m s) at y = IsRun m s (texts_of at.words) y

-- the first fault of the line: all words before it are right
abbrev pub IsRowFault : {K R : Type 0} → Row K R → LineWords → Fault K → Type 0
IsRowFault (Row.ends extra x) at f = IsExtra extra at f
IsRowFault (Row.place {V = V} p more) at f =
    Lacks p at f ⊎ ((x : V) × (rest : LineWords) × Stands p x at rest × IsRowFault (more x) rest f)
IsRowFault (Row.runs m s) at f = IsRunFault m s at at.words f
