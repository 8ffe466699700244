-- The lines of a text, one after the other (`lines_more`, `lines_last`), and a line without its carriage return
-- (`stripped`, `unstripped`); what is read from a line on (`line_empty`, `line_named`, `line_at_fault`).
use Rattle.std.proofs.Common.{◌≡◌, ◌≢◌, ℕ, ◌+◌, ◌-◌, ◌<◌, ◌==◌, suc, Bool, true, false, cond, List, [], ◌∷◌, ◌++◌, length, take, All, slice_index, refl, ap, sym, ◌∙◌, subst, arith, eqb-true, ne_eqb, length-append, Result, Ok, Err, Global, Vec, String}
use Rattle.std.specs.Prelude.{if◌then◌else◌}
use Rattle.std.specs.List.{onto_first, slice_split}
use Rattle.std.specs.Str.Lines.{lines, lines_of_parts, strip_carriage_return}
use Rattle.std.proofs.lemmas.List.Splits.{slice_split_at, slice_split_none}
use Rattle.class_marker.specs.declared.list.ListFault.{ListFault}
use Rattle.class_marker.specs.declared.list.ListFault.TheVariants.{At, Memory}
use Rattle.class_marker.specs.Lists.{Gives}
use Rattle.whole_lines.specs.Ended.{is_feed}
use Rattle.class_marker.specs.LooseLists.{PutsName, may_be_name, names_from}

-- there is a first part
record HasFirst (parts : List (List ℕ)) : Type 0 where
  part : List ℕ
  more : List (List ℕ)
  is : parts ≡ part ∷ more

put_first : (b : ℕ) (parts : List (List ℕ)) → HasFirst (onto_first b parts)
put_first b [] = record { part = b ∷ []; more = []; is = refl }
put_first b (part ∷ parts) = record { part = b ∷ part; more = parts; is = refl }

has_first : (text : List ℕ) → HasFirst (slice_split is_feed text)
has_first [] = record { part = []; more = []; is = refl }
has_first (b ∷ bs) = by (is_feed b)
  where
    by : (test : Bool) → HasFirst (cond test ([] ∷ slice_split is_feed bs) (onto_first b (slice_split is_feed bs)))
    by true = record { part = []; more = slice_split is_feed bs; is = refl }
    by false = put_first b (slice_split is_feed bs)

parts_more : (line : List ℕ) (parts : List (List ℕ)) → HasFirst parts
    → lines_of_parts (line ∷ parts) ≡ strip_carriage_return line ∷ lines_of_parts parts
parts_more line parts first = rw first.is refl

-- a line behind which others stand
pub lines_more : (line behind : List ℕ) → All (λ b. is_feed b ≡ false) line
    → lines (line ++ 10 ∷ behind) ≡ strip_carriage_return line ∷ lines behind
lines_more line behind none =
    ap lines_of_parts (slice_split_at is_feed line 10 behind none refl)
    ∙ parts_more line (slice_split is_feed behind) (has_first behind)

-- the last line, without a line feed
pub lines_last : (line : List ℕ) → All (λ b. is_feed b ≡ false) line → 0 < length line → lines line ≡ line ∷ lines []
lines_last line none some = ap lines_of_parts (slice_split_none is_feed line none) ∙ last line some
  where
    last : (line : List ℕ) → 0 < length line → lines_of_parts (line ∷ []) ≡ line ∷ []
    last [] some = absurd (omega (arith, some))
    last (b ∷ bs) some =
        let there : (length (b ∷ bs) == 0) ≡ false = ne_eqb (length (b ∷ bs)) 0 (λ e. omega (arith, e)) in rw there refl

-- ---- carriage returns

last_at : (front : List ℕ) (b : ℕ) → slice_index (front ++ b ∷ []) (length front) ≡ b
last_at [] b = refl
last_at (x ∷ xs) b = last_at xs b

front_of : (front : List ℕ) (b : ℕ) → take (length front) (front ++ b ∷ []) ≡ front
front_of [] b = refl
front_of (x ∷ xs) b = ap (λ l. x ∷ l) (front_of xs b)

-- a line that ends with a carriage return
pub stripped : (line front : List ℕ) → line ≡ front ++ 13 ∷ [] → front ≡ strip_carriage_return line
stripped line front e =
    let long : length (front ++ 13 ∷ []) - 1 ≡ length front = omega (arith, length-append front (13 ∷ [])) in
    rw (e, long, last_at front 13) (sym (front_of front 13))

returns : (line : List ℕ) → (slice_index line (length line - 1) == 13) ≡ true
    → line ≡ take (length line - 1) line ++ 13 ∷ []
returns [] e = absurd cc
returns (b ∷ []) e = ap (λ c. c ∷ []) (eqb-true b 13 e)
returns (b ∷ c ∷ more) e =
    let longer : length (b ∷ c ∷ more) - 1 ≡ suc (length (c ∷ more) - 1) = omega arith in
    let ends : (slice_index (c ∷ more) (length (c ∷ more) - 1) == 13) ≡ true =
    subst (λ n. (slice_index (b ∷ c ∷ more) n == 13) ≡ true) longer e in
    ap (λ l. b ∷ l) (returns (c ∷ more) ends) ∙ ap (λ n. take n (b ∷ c ∷ more) ++ 13 ∷ []) (sym longer)

-- a line that doesn't
pub unstripped : (line : List ℕ) → ((front : List ℕ) → line ≢ front ++ 13 ∷ []) → line ≡ strip_carriage_return line
unstripped line none = by (slice_index line (length line - 1) == 13) refl
  where
    by : (test : Bool) → (slice_index line (length line - 1) == 13) ≡ test → line ≡ strip_carriage_return line
    by true e = absurd (none (take (length line - 1) line) (returns line e))
    by false e = rw e refl

-- ---- names

module _ (number : ℕ) (names : List (List ℕ)) (line : List ℕ) (more : List (List ℕ)) where
  pub line_empty : (length line == 0) ≡ true → names_from number names (line ∷ more) ≡ names_from (number + 1) names more
  line_empty e = rw e refl

  pub line_named : (length line == 0) ≡ false → may_be_name (length names) line ≡ true
      → names_from number names (line ∷ more) ≡ names_from (number + 1) (names ++ line ∷ []) more
  line_named e f = rw (e, f) refl

  pub line_at_fault : (length line == 0) ≡ false → may_be_name (length names) line ≡ false
      → names_from number names (line ∷ more) ≡ Err number
  line_at_fault e f = rw (e, f) refl

-- no line is left
pub all_lines : (number : ℕ) (names : List (List ℕ)) (rest : List ℕ) → (length rest == 0) ≡ true
    → names_from number names (lines rest) ≡ (if length names == 0 then Err 1 else Ok names)
all_lines number names [] none = refl
all_lines number names (b ∷ bs) none = absurd (grind (arith, none))

-- a fault of the line that comes next
pub gives_fault : (fault : ListFault) (result : Result (Vec (String Global) Global) ListFault) (text : List ℕ) (number : ℕ)
    (names new : List (List ℕ)) (line : List ℕ) (more : List (List ℕ)) → result ≡ Err fault
    → PutsName names number line new (Err fault) → names_from 1 [] (lines text) ≡ names_from number names (line ∷ more)
    → Gives result (names_from 1 [] (lines text))
gives_fault (At at) result text number names new line more e puts so_far = rw e (so_far ∙ puts more)
gives_fault Memory result text number names new line more e puts so_far = rw e tt
