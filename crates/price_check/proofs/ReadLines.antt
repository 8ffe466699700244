-- A line that is read may stand there, and its text stands at the front of the bytes
-- (`read_lines_fit`).
use Rattle.text_lines.specs.Faults.{◌>>=◌}
use Rattle.std.proofs.Common.{◌≡◌, ℕ, zero, suc, ◌+◌, ◌-◌, ◌<◌, ◌≤◌, Bool, true, false, List, [], ◌∷◌, ◌++◌, map, Option, Some, None, option_map, Ok, refl, sym, ap, ◌∙◌, subst, arith, if◌then◌else◌}
use Rattle.std.specs.Prelude.{◌&&◌, nat_lt, nat_le, not, codes}
use Rattle.std.specs.Fmt.{decimal}
use Rattle.std.specs.Option.{option_and_then}
use Rattle.std.proofs.lemmas.Bool.{and_parts, not-true}
use Rattle.std.proofs.lemmas.Bool.Decides.{nat_tests}
use Rattle.fux_pitch.specs.declared.pitch.Pitch.{Pitch}
use Rattle.fux_pitch.specs.Names.{name_of}
use Rattle.fux_grid.specs.declared.exercise.Exercise.{Exercise}
use Rattle.fux_text.specs.Names.{pitch_named}
use Rattle.fux_text.specs.Words.{text_line}
use Rattle.fux_text.proofs.Named.{text_from}
use Rattle.fux_text.proofs.OnlyWords.{pitch-only, within-only}
use Rattle.text_lines.specs.Numbers.{if_within, number_within}
use Rattle.text_lines.specs.Numbers as numbers
use Rattle.text_lines.specs.Reading.{same_text}
use Rattle.price_check.specs.declared.line.Before.{Before}
use Rattle.price_check.specs.declared.words.Kind.{Kind}
use Rattle.price_check.specs.declared.words.Kind.TheVariants as kinds
use Rattle.price_check.specs.declared.words.Part.{Part}
use Rattle.price_check.specs.declared.words.Part.TheVariants as parts
use Rattle.price_check.specs.LineLaws.{IsRead}
use Rattle.price_check.specs.PriceLines.{Keeps, Cases, Price, Claims, AreFalling, Fits, Line, is_free_voice, line_text, most_price, price_place}
use Rattle.price_check.specs.Reading.{behind_kind, behind_part, behind_voice, case_of, cases_in, free_named, free_or_none, if_below, if_later, inner_voice_of, keeps_in, key_and_more, key_of, keys_in, kind_of, line_in, number_of, only_if, part_of, pitch_of, price_in, runs_of, said, voice_of}
use Rattle.price_check.proofs.WordLaws.{chosen, end_byte, first_is, line-last, line-more, said-only, second_is, steps}

-- ---- numbers

below_from : (n m : ℕ) → nat_lt n m ≡ true → n < m
below_from n m e = grind (arith, nat_tests)

-- what a number within bounds is
record IsWithin (least most : ℕ) (text : List ℕ) (n : ℕ) : Type 0 where
  digits : text ≡ decimal n
  low : least ≤ n
  high : n ≤ most

within : (least most : ℕ) (text : List ℕ) (n : ℕ) → number_within least most text ≡ Some n → IsWithin least most text n
within least most text n e = by (numbers.number_of text) refl e
  where
    inside : (m : ℕ) → (if nat_le least m && nat_le m most then Some m else None) ≡ Some n → (least ≤ n) × (n ≤ most)
    inside m f = at (nat_le least m && nat_le m most) refl f
      where
        at : (b : Bool) → (nat_le least m && nat_le m most) ≡ b → (if b then Some m else None) ≡ Some n
            → (least ≤ n) × (n ≤ most)
        at false g h = cc
        at true g h =
            let same : m ≡ n = cc in
            let p = and_parts (nat_le least m) (nat_le m most) g in
            let low : least ≤ m = let t = p.0 in grind (arith, nat_tests) in
            let high : m ≤ most = let t = p.1 in grind (arith, nat_tests) in
            (omega (arith, low, same), omega (arith, high, same))

    by : (o : Option ℕ) → numbers.number_of text ≡ o → option_and_then (if_within least most) o ≡ Some n
        → IsWithin least most text n
    by None f g = cc
    by (Some m) f g =
        let p = inside m g in record { digits = within-only least most text n e; low = p.0; high = p.1 }

-- ---- what words say

-- a test on what is there
record IsPassed {A B : Type 0} (o : Option A) (f : A → Option B) (y : B) : Type 0 where
  value : A
  there : o ≡ Some value
  passes : f value ≡ Some y

passed : {A B : Type 0} (o : Option A) (f : A → Option B) (y : B) → option_and_then f o ≡ Some y → IsPassed o f y
passed None f y e = cc
passed (Some x) f y e = record { value = x; there = refl; passes = e }

-- a pair of what is there and whether the line ends
record IsPaired {A : Type 0} (o : Option A) (ends : Bool) (pair : A × Bool) : Type 0 where
  value : o ≡ Some pair.0
  same : ends ≡ pair.1

paired : {A : Type 0} (o : Option A) (ends : Bool) (pair : A × Bool) → option_map (λ x. (x, ends)) o ≡ Some pair
    → IsPaired o ends pair
paired None ends pair e = cc
paired {A} (Some x) ends pair e =
    let same : (x, ends) ≡ pair = cc in
    record { value = ap (λ (p : A × Bool). Some p.0) same; same = ap (λ (p : A × Bool). p.1) same }

module _ (ex : Exercise) where
  record IsFreeNamed (text : List ℕ) (v : ℕ) : Type 0 where
    digits : text ≡ decimal v
    free : is_free_voice ex v ≡ true

  free-only : (text : List ℕ) (v : ℕ) → free_named ex text ≡ Some v → IsFreeNamed text v
  free-only text v e =
      let its = passed (number_within 0 3 text) (free_or_none ex) v e in
      let own = chosen (is_free_voice ex its.value) its.value v its.passes in
      record {
        digits = (within 0 3 text its.value its.there).digits ∙ ap decimal own.1;
        free = ap (is_free_voice ex) (sym own.1) ∙ own.0;
      }

  -- ---- keys

  record IsKey (high : ℕ) (text : List ℕ) (ends : Bool) (key : ℕ × Bool) : Type 0 where
    digits : text ≡ decimal key.0
    below : key.0 < high
    same : ends ≡ key.1

  key-only : (high : ℕ) (text : List ℕ) (ends : Bool) (rest : List ℕ) (key : ℕ × Bool)
      → key_of high (record { text = text; ends = ends; rest = rest }) ≡ Some key → IsKey high text ends key
  unfolding key_of
  key-only high text ends rest key e =
      let pair = paired (option_and_then (if_below high) (number_within 0 126 text)) ends key e in
      let its = passed (number_within 0 126 text) (if_below high) key.0 pair.value in
      let own = chosen (nat_lt its.value high) its.value key.0 its.passes in
      record {
        digits = (within 0 126 text its.value its.there).digits ∙ ap decimal own.1;
        below = below_from key.0 high (ap (λ k. nat_lt k high) (sym own.1) ∙ own.0);
        same = pair.same;
      }

  -- keys that were read fall, and stand at the front
  record AreKeys (high most : ℕ) (bytes keys rest : List ℕ) : Type 0 where
    first : ℕ
    others : List ℕ
    is : keys ≡ first ∷ others
    falls : AreFalling high most (first ∷ others)
    text : bytes ≡ text_line (map decimal (first ∷ others)) ++ rest

  keys-only : (most high : ℕ) (bytes keys rest : List ℕ) → keys_in most high bytes ≡ Ok (keys, rest)
      → AreKeys high most bytes keys rest
  unfolding keys_in
  keys-only zero high bytes keys rest e = cc
  keys-only (suc most) high bytes keys rest e =
      let one = steps (said (key_of high) bytes) _ (keys, rest) e in
      let word = said-only (key_of high) bytes one.said.0 one.said.1 one.first in
      let key = key-only high word.text word.ends one.said.1 one.said.0 word.says_so in
      let stands : bytes ≡ decimal one.said.0.0 ++ end_byte one.said.0.1 ∷ one.said.1 = word.stands
      ∙ ap (λ t. t ++ end_byte word.ends ∷ one.said.1) key.digits
      ∙ ap (λ b. decimal one.said.0.0 ++ end_byte b ∷ one.said.1) key.same in
      by one.said.0.0 one.said.0.1 one.said.1 key.below stands one.behind
      (λ first more others left f. keys-only most first more others left f)
    where
      by : (key : ℕ) (ends : Bool) (more : List ℕ) → key < high → bytes ≡ decimal key ++ end_byte ends ∷ more
          → key_and_more key ends more (keys_in most key) ≡ Ok (keys, rest)
          → ((k : ℕ) (b ks r : List ℕ) → keys_in most k b ≡ Ok (ks, r) → AreKeys k most b ks r)
          → AreKeys high (suc most) bytes keys rest
      by key true more below stands f behind =
          let same : (key ∷ [], more) ≡ (keys, rest) = cc in
          let left : more ≡ rest = second_is same in
          record {
            first = key;
            others = [];
            is = sym (first_is same);
            falls = (below, omega arith, tt);
            text = stands ∙ ap (λ r. decimal key ++ 10 ∷ r) left ∙ sym (line-last (decimal key) rest);
          }
      by key false more below stands f behind =
          let two = steps (keys_in most key more) _ (keys, rest) f in
          let its = behind key more two.said.0 two.said.1 two.first in
          let same : (key ∷ two.said.0, two.said.1) ≡ (keys, rest) = let g = two.behind in cc in
          let left : two.said.1 ≡ rest = second_is same in
          let fewer : most ≡ suc most - 1 = omega arith in
          record {
            first = key;
            others = its.first ∷ its.others;
            is = sym (first_is same) ∙ ap (λ ks. key ∷ ks) its.is;
            falls = (
              below,
              omega arith,
              subst (λ (m : ℕ). AreFalling key m (its.first ∷ its.others)) fewer its.falls,
            );
            text = stands ∙ ap (λ r. decimal key ++ 32 ∷ r) (its.text
                ∙ ap (λ r. text_line (map decimal (its.first ∷ its.others)) ++ r) left)
                ∙ sym (line-more (decimal key) (decimal its.first) (map decimal its.others) rest);
          }

  -- ---- behind the first word

  -- behind a word that ends its line nothing more is read
  record IsCases (bytes : List ℕ) (line : Line) (rest : List ℕ) : Type 0 where
    voice : ℕ
    keys : List ℕ
    is : line ≡ Cases voice keys
    free : is_free_voice ex voice ≡ true
    falls : AreFalling 127 15 keys
    text : bytes ≡ text_line (decimal voice ∷ map decimal keys) ++ rest

  cases-only : (bytes : List ℕ) (line : Line) (rest : List ℕ) → cases_in ex bytes ≡ Ok (line, rest)
      → IsCases bytes line rest
  unfolding cases_in voice_of
  cases-only bytes line rest e =
      let one = steps (said (voice_of ex) bytes) _ (line, rest) e in
      let word = said-only (voice_of ex) bytes one.said.0 one.said.1 one.first in
      let pair = paired (free_named ex word.text) word.ends one.said.0 word.says_so in
      let voice = free-only word.text one.said.0.0 pair.value in
      let stands : bytes ≡ decimal one.said.0.0 ++ end_byte one.said.0.1 ∷ one.said.1 = word.stands
      ∙ ap (λ t. t ++ end_byte word.ends ∷ one.said.1) voice.digits
      ∙ ap (λ b. decimal one.said.0.0 ++ end_byte b ∷ one.said.1) pair.same in
      by one.said.0.0 one.said.0.1 one.said.1 voice.free stands one.behind
    where
      by : (v : ℕ) (ends : Bool) (more : List ℕ) → is_free_voice ex v ≡ true → bytes ≡ decimal v ++ end_byte ends ∷ more
          → behind_voice v ends more ≡ Ok (line, rest) → IsCases bytes line rest
      by v true more free stands f =
          let same : (Cases v [], more) ≡ (line, rest) = cc in
          let left : more ≡ rest = second_is same in
          record {
            voice = v;
            keys = [];
            is = sym (first_is same);
            free = free;
            falls = tt;
            text = stands ∙ ap (λ r. decimal v ++ 10 ∷ r) left ∙ sym (line-last (decimal v) rest);
          }
      by v false more free stands f =
          let two = steps (keys_in 15 127 more) _ (line, rest) f in
          let its = keys-only 15 127 more two.said.0 two.said.1 two.first in
          let same : (Cases v two.said.0, two.said.1) ≡ (line, rest) = let g = two.behind in cc in
          let left : two.said.1 ≡ rest = second_is same in
          record {
            voice = v;
            keys = its.first ∷ its.others;
            is = sym (first_is same) ∙ ap (λ ks. Cases v ks) its.is;
            free = free;
            falls = its.falls;
            text = stands ∙ ap (λ r. decimal v ++ 32 ∷ r) (its.text
                ∙ ap (λ r. text_line (map decimal (its.first ∷ its.others)) ++ r) left)
                ∙ sym (line-more (decimal v) (decimal its.first) (map decimal its.others) rest);
          }

  -- ---- what is kept

  -- the text of a word, where the test says that it is that one
  runs-only : (text : List ℕ) (ends : Bool) (rest : List ℕ) (b : Bool)
      → runs_of (record { text = text; ends = ends; rest = rest }) ≡ Some b → (text ≡ codes "runs") × (ends ≡ true)
  unfolding runs_of
  runs-only text ends rest b e = at (same_text text (codes "runs")) refl e
    where
      at : (t : Bool) → same_text text (codes "runs") ≡ t → (if t then only_if ends true else None) ≡ Some b
          → (text ≡ codes "runs") × (ends ≡ true)
      at false f g = cc
      at true f g = (text_from text (codes "runs") f, (chosen ends true b g).0)

  -- what a word behind `keeps` tells
  abbrev PartTells : List ℕ → Bool → Part → Type 0
  PartTells text ends (parts.Turns more) = (text ≡ codes "turns") × (ends ≡ more)
  PartTells text ends parts.Runs = (text ≡ codes "runs") × (ends ≡ true)

  part-only : (text : List ℕ) (ends : Bool) (rest : List ℕ) (part : Part)
      → part_of (record { text = text; ends = ends; rest = rest }) ≡ Some part → PartTells text ends part
  unfolding part_of
  part-only text ends rest part e = at (same_text text (codes "turns")) refl e
    where
      runs : (t : Bool) → same_text text (codes "runs") ≡ t → (if t then only_if ends parts.Runs else None) ≡ Some part
          → PartTells text ends part
      runs false f g = cc
      runs true f g =
          let own = chosen ends parts.Runs part g in
          subst (PartTells text ends) own.1 (text_from text (codes "runs") f, own.0)

      at : (t : Bool) → same_text text (codes "turns") ≡ t
          → (if t then Some (parts.Turns ends)
          else (if same_text text (codes "runs") then only_if ends parts.Runs else None)) ≡ Some part
          → PartTells text ends part
      at true f g =
          let same : parts.Turns ends ≡ part = cc in
          subst (PartTells text ends) same (text_from text (codes "turns") f, refl)
      at false f g = runs (same_text text (codes "runs")) refl g

  -- a line of what is kept, whose first word was read
  record IsKept (ends : Bool) (bytes : List ℕ) (line : Line) (rest : List ℕ) : Type 0 where
    turns : Bool
    runs : Bool
    is : line ≡ Keeps turns runs
    text : codes "keeps" ++ end_byte ends ∷ bytes ≡ line_text (Keeps turns runs) ++ rest

  keeps-only : (ends : Bool) (bytes : List ℕ) (line : Line) (rest : List ℕ) → keeps_in ends bytes ≡ Ok (line, rest)
      → IsKept ends bytes line rest
  unfolding keeps_in
  keeps-only true bytes line rest e =
      let same : (Keeps false false, bytes) ≡ (line, rest) = cc in
      record {
        turns = false;
        runs = false;
        is = sym (first_is same);
        text = ap (λ r. codes "keeps" ++ 10 ∷ r) (second_is same) ∙ sym (line-last (codes "keeps") rest);
      }
  keeps-only false bytes line rest e =
      let one = steps (said part_of bytes) _ (line, rest) e in
      let word = said-only part_of bytes one.said.0 one.said.1 one.first in
      by one.said.0 one.said.1 word.text word.ends
      (part-only word.text word.ends one.said.1 one.said.0 word.says_so) word.stands one.behind
    where
      by : (part : Part) (mid : List ℕ) (text : List ℕ) (ends : Bool) → PartTells text ends part
          → bytes ≡ text ++ end_byte ends ∷ mid → behind_part part mid ≡ Ok (line, rest) → IsKept false bytes line rest
      by (parts.Turns true) mid text ends tells stands f =
          let same : (Keeps true false, mid) ≡ (line, rest) = cc in
          let whole : bytes ≡ codes "turns" ++ 10 ∷ rest = stands ∙ ap (λ t. t ++ end_byte ends ∷ mid) tells.0
          ∙ ap (λ b. codes "turns" ++ end_byte b ∷ mid) tells.1 ∙ ap (λ r. codes "turns" ++ 10 ∷ r) (second_is same) in
          record {
            turns = true;
            runs = false;
            is = sym (first_is same);
            text = ap (λ r. codes "keeps" ++ 32 ∷ r) (whole ∙ sym (line-last (codes "turns") rest))
                ∙ sym (line-more (codes "keeps") (codes "turns") [] rest);
          }
      by (parts.Turns false) mid text ends tells stands f =
          let two = steps (said runs_of mid) _ (line, rest) f in
          let word = said-only runs_of mid two.said.0 two.said.1 two.first in
          let own = runs-only word.text word.ends two.said.1 two.said.0 word.says_so in
          let same : (Keeps true true, two.said.1) ≡ (line, rest) = let g = two.behind in cc in
          let last : mid ≡ codes "runs" ++ 10 ∷ rest = word.stands
          ∙ ap (λ t. t ++ end_byte word.ends ∷ two.said.1) own.0
          ∙ ap (λ b. codes "runs" ++ end_byte b ∷ two.said.1) own.1
          ∙ ap (λ r. codes "runs" ++ 10 ∷ r) (second_is same) in
          let whole : bytes ≡ codes "turns" ++ 32 ∷ (text_line (codes "runs" ∷ []) ++ rest) =
          stands ∙ ap (λ t. t ++ end_byte ends ∷ mid) tells.0 ∙ ap (λ b. codes "turns" ++ end_byte b ∷ mid) tells.1
          ∙ ap (λ r. codes "turns" ++ 32 ∷ r) (last ∙ sym (line-last (codes "runs") rest)) in
          record {
            turns = true;
            runs = true;
            is = sym (first_is same);
            text = ap (λ r. codes "keeps" ++ 32 ∷ r) (whole ∙ sym (line-more (codes "turns") (codes "runs") [] rest))
                ∙ sym (line-more (codes "keeps") (codes "turns") (codes "runs" ∷ []) rest);
          }
      by parts.Runs mid text ends tells stands f =
          let same : (Keeps false true, mid) ≡ (line, rest) = cc in
          let whole : bytes ≡ codes "runs" ++ 10 ∷ rest = stands ∙ ap (λ t. t ++ end_byte ends ∷ mid) tells.0
          ∙ ap (λ b. codes "runs" ++ end_byte b ∷ mid) tells.1 ∙ ap (λ r. codes "runs" ++ 10 ∷ r) (second_is same) in
          record {
            turns = false;
            runs = true;
            is = sym (first_is same);
            text = ap (λ r. codes "keeps" ++ 32 ∷ r) (whole ∙ sym (line-last (codes "runs") rest))
                ∙ sym (line-more (codes "keeps") (codes "runs") [] rest);
          }

  -- ---- prices

  module _ (before : Before) where
    -- what the words of a price say
    case-only : (text : List ℕ) (ends : Bool) (rest : List ℕ) (case : ℕ)
        → case_of before.cases (record { text = text; ends = ends; rest = rest }) ≡ Some case
        → (ends ≡ false) × (number_within 1 before.cases text ≡ Some case)
    unfolding case_of
    case-only text true rest case e = cc
    case-only text false rest case e = (refl, e)

    inner-only : (text : List ℕ) (ends : Bool) (rest : List ℕ) (v : ℕ)
        → inner_voice_of ex (record { text = text; ends = ends; rest = rest }) ≡ Some v
        → (ends ≡ false) × (free_named ex text ≡ Some v)
    unfolding inner_voice_of
    inner-only text true rest v e = cc
    inner-only text false rest v e = (refl, e)

    record IsLaterPitch (case v : ℕ) (text : List ℕ) (ends : Bool) (p : Pitch) : Type 0 where
      goes_on : ends ≡ false
      named : text ≡ name_of p
      later : before.last < price_place case v p

    pitch-read : (case v : ℕ) (text : List ℕ) (ends : Bool) (rest : List ℕ) (p : Pitch)
        → pitch_of before.last case v (record { text = text; ends = ends; rest = rest }) ≡ Some p
        → IsLaterPitch case v text ends p
    unfolding pitch_of
    pitch-read case v text true rest p e = cc
    pitch-read case v text false rest p e =
        let its = passed (pitch_named text) (if_later before.last case v) p e in
        let own = chosen (nat_lt before.last (price_place case v its.value)) its.value p its.passes in
        record {
          goes_on = refl;
          named = pitch-only text p (its.there ∙ ap Some own.1);
          later = below_from before.last (price_place case v p)
              (ap (λ q. nat_lt before.last (price_place case v q)) (sym own.1) ∙ own.0);
        }

    number-read : (text : List ℕ) (ends : Bool) (rest : List ℕ) (n : ℕ)
        → number_of (record { text = text; ends = ends; rest = rest }) ≡ Some n
        → (ends ≡ true) × (number_within 1 most_price text ≡ Some n)
    unfolding number_of
    number-read text true rest n e = (refl, e)
    number-read text false rest n e = cc

    record IsPrice (bytes : List ℕ) (line : Line) (rest : List ℕ) : Type 0 where
      case : ℕ
      voice : ℕ
      pitch : Pitch
      number : ℕ
      is : line ≡ Price case voice pitch number
      fits : Fits ex before (Price case voice pitch number)
      text : bytes ≡ text_line (decimal case ∷ decimal voice ∷ name_of pitch ∷ decimal number ∷ []) ++ rest

    -- a word that was read, with its own text
    stands_so : (bytes text own : List ℕ) (ends other : Bool) (mid : List ℕ) → bytes ≡ text ++ end_byte ends ∷ mid
        → text ≡ own → ends ≡ other → bytes ≡ own ++ end_byte other ∷ mid
    stands_so bytes text own ends other mid stands e f =
        stands ∙ ap (λ t. t ++ end_byte ends ∷ mid) e ∙ ap (λ b. own ++ end_byte b ∷ mid) f

    -- four words of a line, one behind the other
    four_words : (bytes first second third fourth rest a b c d : List ℕ) → bytes ≡ a ++ 32 ∷ first
        → first ≡ b ++ 32 ∷ second → second ≡ c ++ 32 ∷ third → third ≡ d ++ 10 ∷ fourth → fourth ≡ rest
        → bytes ≡ text_line (a ∷ b ∷ c ∷ d ∷ []) ++ rest
    four_words bytes first second third fourth rest a b c d e f g h i =
        let last : third ≡ text_line (d ∷ []) ++ rest = h ∙ ap (λ r. d ++ 10 ∷ r) i ∙ sym (line-last d rest) in
        let two : second ≡ text_line (c ∷ d ∷ []) ++ rest =
        g ∙ ap (λ r. c ++ 32 ∷ r) last ∙ sym (line-more c d [] rest) in
        let three : first ≡ text_line (b ∷ c ∷ d ∷ []) ++ rest =
        f ∙ ap (λ r. b ++ 32 ∷ r) two ∙ sym (line-more b c (d ∷ []) rest) in
        e ∙ ap (λ r. a ++ 32 ∷ r) three ∙ sym (line-more a b (c ∷ d ∷ []) rest)

    price-only : (bytes : List ℕ) (line : Line) (rest : List ℕ) → price_in ex before bytes ≡ Ok (line, rest)
        → IsPrice bytes line rest
    unfolding price_in
    price-only bytes line rest e =
        let one = steps (said (case_of before.cases) bytes) _ (line, rest) e in
        let two = steps (said (inner_voice_of ex) one.said.1) _ (line, rest) one.behind in
        let three = steps (said (pitch_of before.last one.said.0 two.said.0) two.said.1) _ (line, rest) two.behind in
        let four = steps (said number_of three.said.1) _ (line, rest) three.behind in
        let w1 = said-only (case_of before.cases) bytes one.said.0 one.said.1 one.first in
        let w2 = said-only (inner_voice_of ex) one.said.1 two.said.0 two.said.1 two.first in
        let w3 = said-only (pitch_of before.last one.said.0 two.said.0) two.said.1 three.said.0 three.said.1 three.first in
        let w4 = said-only number_of three.said.1 four.said.0 four.said.1 four.first in
        let c = case-only w1.text w1.ends one.said.1 one.said.0 w1.says_so in
        let case = within 1 before.cases w1.text one.said.0 c.1 in
        let v = inner-only w2.text w2.ends two.said.1 two.said.0 w2.says_so in
        let voice = free-only w2.text two.said.0 v.1 in
        let pitch = pitch-read one.said.0 two.said.0 w3.text w3.ends three.said.1 three.said.0 w3.says_so in
        let n = number-read w4.text w4.ends four.said.1 four.said.0 w4.says_so in
        let number = within 1 most_price w4.text four.said.0 n.1 in
        let same : (Price one.said.0 two.said.0 three.said.0 four.said.0, four.said.1) ≡ (line, rest) =
        let g = four.behind in cc in
        let cs = decimal one.said.0 in
        let vs = decimal two.said.0 in
        let ps = name_of three.said.0 in
        let ns = decimal four.said.0 in
        record {
          case = one.said.0;
          voice = two.said.0;
          pitch = three.said.0;
          number = four.said.0;
          is = sym (first_is same);
          fits = (case.low, case.high, voice.free, pitch.later, number.low, number.high);
          text = four_words bytes one.said.1 two.said.1 three.said.1 four.said.1 rest cs vs ps ns
              (stands_so bytes w1.text cs w1.ends false one.said.1 w1.stands case.digits c.0)
              (stands_so one.said.1 w2.text vs w2.ends false two.said.1 w2.stands voice.digits v.0)
              (stands_so two.said.1 w3.text ps w3.ends false three.said.1 w3.stands pitch.named pitch.goes_on)
              (stands_so three.said.1 w4.text ns w4.ends true four.said.1 w4.stands number.digits n.0)
              (second_is same);
        }

    -- ---- kinds

    abbrev KindTells : List ℕ → Bool → Kind → Type 0
    KindTells text ends (kinds.Keeps alone) = (text ≡ codes "keeps") × (ends ≡ alone) × (before.lists < 8)
    KindTells text ends kinds.Cases = (text ≡ codes "cases") × (ends ≡ false) × (before.kept ≡ true)
    KindTells text ends kinds.Price = (text ≡ codes "price") × (ends ≡ false) × (0 < before.cases)
    KindTells text ends kinds.Claims = (text ≡ codes "claims") × (ends ≡ true) × (0 < before.lists)

    kind-only : (text : List ℕ) (ends : Bool) (rest : List ℕ) (kind : Kind)
        → kind_of before (record { text = text; ends = ends; rest = rest }) ≡ Some kind → KindTells text ends kind
    unfolding kind_of
    kind-only text ends rest kind e = keeps (same_text text (codes "keeps")) refl e
      where
        claims : (t : Bool) → same_text text (codes "claims") ≡ t
            → (if t then only_if (nat_lt 0 before.lists && ends) kinds.Claims else None) ≡ Some kind
            → KindTells text ends kind
        claims false f g = cc
        claims true f g =
            let own = chosen (nat_lt 0 before.lists && ends) kinds.Claims kind g in
            let p = and_parts (nat_lt 0 before.lists) ends own.0 in
            subst (KindTells text ends) own.1 (text_from text (codes "claims") f, p.1, below_from 0 before.lists p.0)

        price : (t : Bool) → same_text text (codes "price") ≡ t
            → (if t then only_if (nat_lt 0 before.cases && not ends) kinds.Price
            else (if same_text text (codes "claims") then only_if (nat_lt 0 before.lists && ends) kinds.Claims else None))
            ≡ Some kind → KindTells text ends kind
        price false f g = claims (same_text text (codes "claims")) refl g
        price true f g =
            let own = chosen (nat_lt 0 before.cases && not ends) kinds.Price kind g in
            let p = and_parts (nat_lt 0 before.cases) (not ends) own.0 in
            subst (KindTells text ends) own.1 (
              text_from text (codes "price") f,
              not-true ends p.1,
              below_from 0 before.cases p.0,
            )

        cases : (t : Bool) → same_text text (codes "cases") ≡ t
            → (if t then only_if (before.kept && not ends) kinds.Cases
            else (if same_text text (codes "price") then only_if (nat_lt 0 before.cases && not ends) kinds.Price
            else (if same_text text (codes "claims") then only_if (nat_lt 0 before.lists && ends) kinds.Claims else None)))
            ≡ Some kind → KindTells text ends kind
        cases false f g = price (same_text text (codes "price")) refl g
        cases true f g =
            let own = chosen (before.kept && not ends) kinds.Cases kind g in
            let p = and_parts before.kept (not ends) own.0 in
            subst (KindTells text ends) own.1 (text_from text (codes "cases") f, not-true ends p.1, p.0)

        keeps : (t : Bool) → same_text text (codes "keeps") ≡ t
            → (if t then only_if (nat_lt before.lists 8) (kinds.Keeps ends)
            else (if same_text text (codes "cases") then only_if (before.kept && not ends) kinds.Cases
            else (if same_text text (codes "price") then only_if (nat_lt 0 before.cases && not ends) kinds.Price
            else (if same_text text (codes "claims") then only_if (nat_lt 0 before.lists && ends) kinds.Claims else None))))
            ≡ Some kind → KindTells text ends kind
        keeps false f g = cases (same_text text (codes "cases")) refl g
        keeps true f g =
            let own = chosen (nat_lt before.lists 8) (kinds.Keeps ends) kind g in
            subst (KindTells text ends) own.1 (text_from text (codes "keeps") f, refl, below_from before.lists 8 own.0)

    -- ---- lines

    -- a line with the text that stands for it
    of_line : (line own : Line) (bytes rest : List ℕ) → line ≡ own → Fits ex before own
        → bytes ≡ line_text own ++ rest → IsRead ex before line bytes rest
    of_line line own bytes rest e fits text =
        subst (λ (l : Line). IsRead ex before l bytes rest) (sym e) (record { fits = fits; text = text })

    pub line-only : (line : Line) (bytes rest : List ℕ) → line_in ex before bytes ≡ Ok (line, rest)
        → IsRead ex before line bytes rest
    unfolding line_in
    line-only line bytes rest e =
        let one = steps (said (kind_of before) bytes) _ (line, rest) e in
        let word = said-only (kind_of before) bytes one.said.0 one.said.1 one.first in
        by one.said.0 one.said.1 word.text word.ends
        (kind-only word.text word.ends one.said.1 one.said.0 word.says_so) word.stands one.behind
      where
        by : (kind : Kind) (mid : List ℕ) (text : List ℕ) (ends : Bool) → KindTells text ends kind
            → bytes ≡ text ++ end_byte ends ∷ mid → behind_kind ex before kind mid ≡ Ok (line, rest)
            → IsRead ex before line bytes rest
        by (kinds.Keeps alone) mid text ends tells stands f =
            let its = keeps-only alone mid line rest f in
            of_line line (Keeps its.turns its.runs) bytes rest its.is tells.2
            (stands_so bytes text (codes "keeps") ends alone mid stands tells.0 tells.1 ∙ its.text)
        by kinds.Cases mid text ends tells stands f =
            let its = cases-only mid line rest f in
            of_line line (Cases its.voice its.keys) bytes rest its.is (tells.2, its.free, its.falls)
            (stands_so bytes text (codes "cases") ends false mid stands tells.0 tells.1
            ∙ ap (λ r. codes "cases" ++ 32 ∷ r) its.text
            ∙ sym (line-more (codes "cases") (decimal its.voice) (map decimal its.keys) rest))
        by kinds.Price mid text ends tells stands f =
            let its = price-only mid line rest f in
            of_line line (Price its.case its.voice its.pitch its.number) bytes rest its.is its.fits
            (stands_so bytes text (codes "price") ends false mid stands tells.0 tells.1
            ∙ ap (λ r. codes "price" ++ 32 ∷ r) its.text
            ∙ sym (line-more (codes "price") (decimal its.case)
            (decimal its.voice ∷ name_of its.pitch ∷ decimal its.number ∷ []) rest))
        by kinds.Claims mid text ends tells stands f =
            let same : (Claims, mid) ≡ (line, rest) = cc in
            of_line line Claims bytes rest (sym (first_is same)) tells.2
            (stands_so bytes text (codes "claims") ends true mid stands tells.0 tells.1
            ∙ ap (λ r. codes "claims" ++ 10 ∷ r) (second_is same) ∙ sym (line-last (codes "claims") rest))

pub read_lines_fit : (ex : Exercise) (before : Before) (line : Line) (bytes rest : List ℕ)
    → line_in ex before bytes ≡ Ok (line, rest) → IsRead ex before line bytes rest
read_lines_fit ex before line bytes rest e = line-only ex before line bytes rest e
