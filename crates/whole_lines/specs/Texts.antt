-- What readers of such texts keep, and what they answer.
use Rattle.std.specs.Prelude.{◌≡◌, ℕ, All, Bool, false, List, ◌++◌, ◌∷◌, Option, Some, None, Result, Ok, Err}
use Rattle.std.specs.Borrow.{Bor}
use Rattle.text_lines.specs.Faults.{Fault}
use Rattle.text_lines.specs.Words.{LineWords, PlacedWord}
use Rattle.whole_lines.specs.declared.places.Fault.{Fault as WordFault}
use Rattle.whole_lines.specs.declared.places.Word.{Word}
use Rattle.whole_lines.specs.declared.places.Words.{Words}
use Rattle.whole_lines.specs.Ended.{is_end, is_feed, left_of_text}

abbrev pub word_of : Word → PlacedWord
word_of w = record { line = 1; column = w.column; text = w.text.now }

abbrev pub words_of : Words → LineWords
words_of w = left_of_text is_end w.column w.rest.now

abbrev pub fault_of_word : {K : Type 0} → K → Word → WordFault K
fault_of_word kind w = record { kind = kind; column = w.column }

-- what a reader answers, seen by `view`, is what reading gives
abbrev pub Reads : {K X Y : Type 0} → (X → Y) → Result X (WordFault K) → Result Y (Fault K) → Type 0
Reads view (Ok x) read = read ≡ Ok (view x)
Reads view (Err f) read = read ≡ Err (record { kind = f.kind; line = 1; column = f.column })

-- no byte ends a word
abbrev pub HasNone : (ℕ → Bool) → List ℕ → Type 0
HasNone ends bytes = All (λ b. ends b ≡ false) bytes

-- a text is cut behind its first line feed, if it has one
abbrev pub CutsLine : List ℕ → Option (Bor (List ℕ) × Bor (List ℕ)) → Type 0
CutsLine text None = HasNone is_feed text
CutsLine text (Some (line, behind)) = (text ≡ line.now ++ 10 ∷ behind.now) × HasNone is_feed line.now
