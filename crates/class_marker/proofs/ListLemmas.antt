-- What is read of a list from a line on (`from`): one name more (`one_name`), the fault of a line
-- (`wrong_name`, `no_name`), or all names (`all_names`).
use Rattle.std.proofs.Common.{◌≡◌, ℕ, ◌+◌, ◌<◌, ◌==◌, ◌≢◌, ◌↔◌, Bool, true, false, ◌&&◌, List, [], ◌∷◌, ◌++◌, length, get_or, Bor, Option, None, Some, Result, Ok, Err, ne_eqb, refl, ◌∙◌, arith}
use Rattle.std.specs.Prelude.{MatchOption, nat_lt, not, ◌||◌, if◌then◌else◌}
use Rattle.std.specs.Str.{IsUtf8, is_utf8}
use Rattle.std.proofs.lemmas.Bool.{le-ltb, ltb-false, not-false, or_parts}
use Rattle.std.proofs.lemmas.Bool.Decides.{nat_tests}
use Rattle.std.proofs.lemmas.List.{get_or_default}
use Rattle.std.proofs.lemmas.Str.{IsUtf8-from_is_utf8, is_utf8-from_IsUtf8}
use Rattle.text_lines.specs.Rows.{row_in, run_in, told_beyond}
use Rattle.whole_lines.specs.Ended.{IsText, IsTextFault, by_kind, ended, is_feed, placed, said, whole_text}
use Rattle.whole_lines.specs.Texts.{CutsLine, HasNone}
use Rattle.whole_lines.proofs.EndedLemmas.{ended-last, ended-word, text-read, without-end, without-none}
use Rattle.class_marker.specs.Lists.{IsListed, is_name, listed_by, listed_names, names_row, names_run}

-- what is read from a line on, behind these names
unfoldable pub from : List ℕ → ℕ → List (List ℕ) → List ℕ → Result (List (List ℕ)) ℕ
from text column names rest = by_kind (run_in names_run names (whole_text is_feed text) (placed column (ended is_feed rest)))

pub from-start : (text : List ℕ) → said is_feed names_row text ≡ from text 1 [] text
unfolding from said row_in
from-start text = refl

module _ (text : List ℕ) (column : ℕ) (names : List (List ℕ)) (rest : List ℕ) where
  module _ (line behind : List ℕ) (cut : (rest ≡ line ++ 10 ∷ behind) × HasNone is_feed line) where
    pub one_name : (is_name line && nat_lt (length names) 512) ≡ true
        → from text column names rest ≡ from text (column + length (line ++ 10 ∷ [])) (names ++ line ∷ []) behind
    unfolding from run_in
    one_name good = rw (cut.0, ended-word is_feed line 10 behind cut.1 refl, without-end line 10, good) refl

    pub wrong_name : (is_name line && nat_lt (length names) 512) ≡ false
        → from text column names rest ≡ Err (length names + 1)
    unfolding from run_in
    wrong_name bad = rw (cut.0, ended-word is_feed line 10 behind cut.1 refl, without-end line 10, bad) refl

  -- a line without its line feed
  pub no_name : HasNone is_feed rest → (length rest == 0) ≡ false → from text column names rest ≡ Err (length names + 1)
  unfolding from run_in
  no_name none some =
      let long : 0 < length rest = grind (arith, nat_tests, some) in
      rw (ended-last is_feed rest long none, without-none rest 10 long none) refl

  pub all_names : (length rest == 0) ≡ true
      → from text column names rest ≡ (if length names == 0 then Err 1 else Ok names)
  unfolding from run_in ended
  all_names none = by rest none
    where
      over : (b : Bool) → by_kind {K = ℕ} (told_beyond (whole_text is_feed text) (if b then Err 1 else Ok names))
          ≡ (if b then Err 1 else Ok names)
      over true = refl
      over false = refl

      by : (rest : List ℕ) → (length rest == 0) ≡ true
          → from text column names rest ≡ (if length names == 0 then Err 1 else Ok names)
      by [] none = over (length names == 0)
      by (b ∷ bs) none = absurd (grind (arith, none))

no_feed_in : (xs : List ℕ) → ((i : ℕ) → i < length xs → get_or xs i 0 ≢ 10) → HasNone is_feed xs
no_feed_in xs none = λ k d within. ne_eqb (get_or xs k d) 10 (λ e. none k within (get_or_default xs k 0 d within ∙ e))

-- ---- whole texts

fits : (text : List ℕ) → (nat_lt 65536 (length text) || not (is_utf8 text)) ≡ false → IsListed text
fits text ok =
    let parts = or_parts _ _ ok in
    (ltb-false 65536 (length text) parts.0, IsUtf8-from_is_utf8 text (not-false _ parts.1))

misfits : (text : List ℕ) → (nat_lt 65536 (length text) || not (is_utf8 text)) ≡ true → IsListed text → ⊥
misfits text bad (few, utf8) =
    absurd (grind (arith, bad, le-ltb 65536 (length text) few, is_utf8-from_IsUtf8 text utf8))

-- what the lines of a list say, and that nothing else is one
module _ (says : List ℕ → Result (List (List ℕ)) ℕ) (text : List ℕ) where
  pub some_listed : IsListed text → listed_by says text ≡ says text
  some_listed listed =
      rw (le-ltb 65536 (length text) listed.0, is_utf8-from_IsUtf8 text listed.1) refl

  pub none_listed : (IsListed text → ⊥) → listed_by says text ≡ Err 1
  none_listed none = by (nat_lt 65536 (length text) || not (is_utf8 text)) refl
    where
      by : (test : Bool) → (nat_lt 65536 (length text) || not (is_utf8 text)) ≡ test
          → (if test then Err 1 else says text) ≡ Err 1
      by true is = refl
      by false is = absurd (none (fits text is))

pub lists : (text : List ℕ)
    → ((names : List (List ℕ)) → IsText (IsListed text) is_feed names_row text names ↔ (listed_names text ≡ Ok names))
    × ((line : ℕ) → IsTextFault (IsListed text) 1 is_feed names_row text line ↔ (listed_names text ≡ Err line))
lists text = text-read is_feed names_row text (IsListed text) 1 _ (fits text) (misfits text)

-- ---- where a line ends

pub cuts : (text : List ℕ) (found : Option (Bor (List ℕ) × Bor (List ℕ)))
    → MatchOption found ((i : ℕ) → i < length text → get_or text i 0 ≢ 10)
    (λ x. (text ≡ x.0.now ++ 10 ∷ x.1.now) × ((i : ℕ) → i < length x.0.now → get_or x.0.now i 0 ≢ 10))
    → CutsLine text found
cuts text None none = no_feed_in text none
cuts text (Some x) parts = (parts.0, no_feed_in x.0.now parts.1)
