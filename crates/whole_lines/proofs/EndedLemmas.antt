-- Where the words of a text end (`ended-word`, `ended-last`), what stands in one without the byte
-- that ends it (`without-end`, `without-none`), and that a text is read by a row just where it says
-- so, or goes wrong so (`text-read`).
use Rattle.std.proofs.Common.{◌≡◌, ◌↔◌, ℕ, ◌+◌, ◌-◌, ◌<◌, ◌≤◌, ◌==◌, Bool, true, false, List, [], ◌∷◌, ◌++◌, length, get_or, take, drop, Option, None, Some, Result, Ok, Err, refl, ap, sym, ◌∙◌, arith}
use Rattle.std.specs.Prelude.{nat_lt, option_and_then, if◌then◌else◌}
use Rattle.std.specs.List.{onto_first, position, position_or_len}
use Rattle.std.proofs.Math.Seq.{get_or-append_seam, take-append_seam}
use Rattle.std.proofs.lemmas.Bool.{lt-ltb, ltb-false}
use Rattle.std.proofs.lemmas.Grind.{common_steps}
use Rattle.std.proofs.lemmas.List.{drop_all, length-append, take_all, take_more}
use Rattle.std.proofs.lemmas.List.Elements.{All-head, All-tail}
use Rattle.std.proofs.lemmas.List.Sums.{fails_before_first, passes_at_first, split_at_first}
use Rattle.text_lines.specs.Faults.{Fault, ◌>>=◌}
use Rattle.text_lines.specs.Reading.{fault_at, literal, next, same_text}
use Rattle.text_lines.specs.Rows.{Row, right_word, row_in, told_at, word_place}
use Rattle.text_lines.specs.Words.{LineWords, PlacedWord, first_word}
use Rattle.text_lines.proofs.RowLemmas.{row-fails, row-gives, row-right, row-wrong}
use Rattle.whole_lines.specs.Ended.{GoesWrong, IsText, IsTextFault, Says, by_kind, ended, ended_place, left_of_text, said, whole_text, without}
use Rattle.whole_lines.specs.Texts.{HasNone, Reads}
use Rattle.whole_lines.specs.declared.places.Fault.{Fault as WordFault}

-- ---- where a word ends

module _ (ends : ℕ → Bool) where
  ended-one : (b : ℕ) (bs : List ℕ) → ends b ≡ false → ended ends (b ∷ bs) ≡ onto_first b (ended ends bs)
  unfolding ended
  ended-one b bs e = rw e refl

  pub ended-word : (word : List ℕ) (end : ℕ) (behind : List ℕ) → HasNone ends word → ends end ≡ true
      → ended ends (word ++ end ∷ behind) ≡ (word ++ end ∷ []) ∷ ended ends behind
  unfolding ended
  ended-word [] end behind none is = rw is refl
  ended-word (b ∷ bs) end behind none is =
      ended-one b (bs ++ end ∷ behind) (All-head (λ x. ends x ≡ false) b bs none)
      ∙ ap (onto_first b) (ended-word bs end behind (All-tail (λ x. ends x ≡ false) b bs none) is)

  -- what no such byte ends is one word, if it has bytes
  pub ended-last : (bytes : List ℕ) → 0 < length bytes → HasNone ends bytes → ended ends bytes ≡ bytes ∷ []
  unfolding ended
  ended-last [] some none = absurd (omega (arith, some))
  ended-last (b ∷ []) some none = ended-one b [] (All-head (λ x. ends x ≡ false) b [] none)
  ended-last (b ∷ c ∷ cs) some none =
      ended-one b (c ∷ cs) (All-head (λ x. ends x ≡ false) b (c ∷ cs) none)
      ∙ ap (onto_first b) (ended-last (c ∷ cs) (omega arith) (All-tail (λ x. ends x ≡ false) b (c ∷ cs) none))

  missing : (n m : ℕ) (b : Bool) → nat_lt n m ≡ b → (if b then Some n else None) ≡ None → m ≤ n
  missing n m true e h = grind arith
  missing n m false e h = ltb-false n m e

  found : (n m i : ℕ) (b : Bool) → nat_lt n m ≡ b → (if b then Some n else None) ≡ Some i → (n ≡ i) × (n < m)
  found n m i true e h = grind arith
  found n m i false e h = grind arith

  pub no_end : (bytes : List ℕ) → 0 < length bytes → position ends bytes ≡ None
      → ended ends bytes ≡ take (length bytes) bytes ∷ ended ends (drop (length bytes) bytes)
  unfolding ended
  no_end bytes some none =
      let beyond = missing (position_or_len ends bytes) (length bytes) _ refl none in
      rw (take_all (length bytes) bytes (omega arith), drop_all (length bytes) bytes (omega arith))
      (ended-last bytes some (λ k d within. fails_before_first ends bytes k d (omega (arith, beyond))))

  pub first_end : (bytes : List ℕ) (i : ℕ) → position ends bytes ≡ Some i
      → ended ends bytes ≡ take (i + 1) bytes ∷ ended ends (drop (i + 1) bytes)
  first_end bytes i at =
      let n = position_or_len ends bytes in
      let h = found n (length bytes) i _ refl at in
      let none : HasNone ends (take n bytes) =
      λ k d within. let before = fails_before_first ends bytes k d (grind (arith, common_steps)) in grind (arith, common_steps) in
      rw (← h.0) (
      ap (ended ends) (split_at_first ends bytes 0 h.1)
      ∙ ended-word (take n bytes) (get_or bytes n 0) (drop (n + 1) bytes) none (passes_at_first ends bytes 0 h.1)
      ∙ ap (λ word. word ∷ ended ends (drop (n + 1) bytes)) (sym (take_more bytes n 0 h.1))
      )

  -- of nothing there is no word
  pub no_words : (column : ℕ) (bytes : List ℕ) → (length bytes == 0) ≡ true
      → first_word (left_of_text ends column bytes) ≡ None
  unfolding ended
  no_words column [] none = refl
  no_words column (b ∷ bs) none = absurd (grind (arith, none))

-- ---- a word without the byte that ends it

pub without-end : (word : List ℕ) (end : ℕ) → without end (word ++ end ∷ []) ≡ Some word
without-end word end =
    let more : length (word ++ end ∷ []) ≡ length word + 1 = length-append word (end ∷ []) in
    let long : length (word ++ end ∷ []) - 1 ≡ length word = omega (arith, more) in
    rw (lt-ltb 0 (length (word ++ end ∷ [])) (omega (arith, more)), long, get_or-append_seam word end [] 0, take-append_seam word (end ∷ [])) (by end)
  where
    by : (end : ℕ) → (if end == end then Some word else None) ≡ Some word
    by end = grind arith

pub without-none : (word : List ℕ) (end : ℕ) → 0 < length word → HasNone (λ b. b == end) word → without end word ≡ None
without-none word end some none = rw (lt-ltb 0 (length word) some, none (length word - 1) 0 (omega (arith, some))) refl

-- ---- rows

module _ {K R X : Type 0} (view : X → R) (answer : Result X (WordFault K)) (at rest : LineWords) where
  -- behind a right word a row reads what stands there
  pub behind_word : (kind : K) (word : List ℕ) (more : Unit {0} → Row K R) → literal kind word at ≡ Ok rest
      → Reads view answer (row_in (more tt) rest)
      → Reads view answer (row_in (Row.place (word_place kind word) more) at)
  unfolding row_in literal
  behind_word kind word more is reads = by (next kind at) is
    where
      same : (w : PlacedWord × LineWords) (b : Bool) → (if b then Ok w.1 else Err (fault_at kind w.0)) ≡ Ok rest
          → Reads view answer (told_at w.0 (right_word kind b) >>= λ x. row_in (more x) w.1)
      same w true is = let here : w.1 ≡ rest = grind (arith, is) in rw here reads
      same w false is = absurd (grind (arith, is))

      by : (r : Result (PlacedWord × LineWords) (Fault K))
          → (r >>= λ w. if same_text w.0.text word then Ok w.1 else Err (fault_at kind w.0)) ≡ Ok rest
          → Reads view answer
          (r >>= λ w. told_at w.0 (right_word kind (same_text w.0.text word)) >>= λ x. row_in (more x) w.1)
      by (Ok w) is = same w (same_text w.0.text word) is
      by (Err f) is = absurd (grind (arith, is))

  -- and behind one that says something
  pub behind_place : {V : Type 0} (kind : K) (end : ℕ) (named : List ℕ → Option V) (more : V → Row K R) (word : PlacedWord)
      (x : V) → next kind at ≡ Ok (word, rest) → Some x ≡ option_and_then named (without end word.text)
      → Reads view answer (row_in (more x) rest)
      → Reads view answer (row_in (Row.place (ended_place kind end named) more) at)
  unfolding row_in
  behind_place kind end named more word x stands says reads = rw (stands, ← says) reads

-- ---- whole texts

module _ {K R : Type 0} (ends : ℕ → Bool) (row : Row K R) (bytes : List ℕ) where
  at : LineWords
  at = whole_text ends bytes

  said-ok : (x : R) → Says ends row bytes x ↔ (said ends row bytes ≡ Ok x)
  unfolding said at
  said-ok x = (λ says. rw (row-gives row at x says) refl, λ e. row-right row at x (by (row_in row at) e))
    where
      by : (r : Result R (Fault K)) → by_kind r ≡ Ok x → r ≡ Ok x
      by (Ok y) e = grind (arith, e)
      by (Err f) e = absurd (grind (arith, e))

  said-err : (kind : K) → GoesWrong ends row bytes kind ↔ (said ends row bytes ≡ Err kind)
  unfolding said at
  said-err kind = (
    λ (f, wrong, is). rw (row-fails row at f wrong) (ap Err is),
    λ e. let (f, fails, is) = by (row_in row at) e in (f, row-wrong row at f fails, is),
  )
    where
      by : (r : Result R (Fault K)) → by_kind r ≡ Err kind → (f : Fault K) × (r ≡ Err f) × (f.kind ≡ kind)
      by (Ok y) e = absurd (grind (arith, e))
      by (Err f) e = (f, refl, grind (arith, e))

  -- where a text is refused that isn't fit to be read
  module _ (Fits : Type 0) (first : K) (refused : Bool) (fit : refused ≡ false → Fits) (unfit : refused ≡ true → Fits → ⊥) where
    read-ok : (x : R) → IsText Fits ends row bytes x ↔ ((if refused then Err first else said ends row bytes) ≡ Ok x)
    read-ok x = by refused fit unfit
      where
        by : (b : Bool) → (b ≡ false → Fits) → (b ≡ true → Fits → ⊥)
            → IsText Fits ends row bytes x ↔ ((if b then Err first else said ends row bytes) ≡ Ok x)
        by true fit unfit = (λ text. absurd (unfit refl text.0), λ e. absurd (grind (arith, e)))
        by false fit unfit = (λ text. (said-ok x).0 text.1, λ e. (fit refl, (said-ok x).1 e))

    read-err : (kind : K)
        → IsTextFault Fits first ends row bytes kind ↔ ((if refused then Err first else said ends row bytes) ≡ Err kind)
    read-err kind = (λ fault. to refused fit unfit fault, λ e. from refused fit unfit e)
      where
        to : (b : Bool) → (b ≡ false → Fits) → (b ≡ true → Fits → ⊥) → IsTextFault Fits first ends row bytes kind
            → (if b then Err first else said ends row bytes) ≡ Err kind
        to true fit unfit (IsTextFault.unfit none is) = ap Err (sym is)
        to true fit unfit (IsTextFault.in_words fits wrong) = absurd (unfit refl fits)
        to false fit unfit (IsTextFault.unfit none is) = absurd (none (fit refl))
        to false fit unfit (IsTextFault.in_words fits wrong) = (said-err kind).0 wrong

        from : (b : Bool) → (b ≡ false → Fits) → (b ≡ true → Fits → ⊥)
            → (if b then Err first else said ends row bytes) ≡ Err kind → IsTextFault Fits first ends row bytes kind
        from true fit unfit e = IsTextFault.unfit (unfit refl) (grind (arith, e))
        from false fit unfit e = IsTextFault.in_words (fit refl) ((said-err kind).1 e)

    -- both ways
    pub text-read : ((x : R) → IsText Fits ends row bytes x ↔ ((if refused then Err first else said ends row bytes) ≡ Ok x))
        × ((kind : K) → IsTextFault Fits first ends row bytes kind
        ↔ ((if refused then Err first else said ends row bytes) ≡ Err kind))
    text-read = (read-ok, read-err)
