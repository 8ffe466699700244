-- A line that may stand there is read as it is written (`lines_are_read`).
use Rattle.text_lines.specs.Faults.{◌>>=◌}
use Rattle.std.proofs.Common.{◌≡◌, ℕ, zero, suc, ◌+◌, ◌-◌, ◌%◌, ◌<◌, ◌≤◌, ◌^◌, Bool, true, false, List, [], ◌∷◌, ◌++◌, map, Some, option_map, Ok, refl, ap, ◌∙◌, subst, arith}
use Rattle.std.specs.Prelude.{◌==◌, ◌&&◌, nat_lt, not, codes}
use Rattle.std.specs.Fmt.{decimal}
use Rattle.std.specs.List.{list_all}
use Rattle.std.specs.Option.{option_and_then}
use Rattle.std.proofs.lemmas.Bool.{and_from, and_parts, lt-ltb}
use Rattle.std.proofs.lemmas.Bool.Decides.{nat_tests}
use Rattle.std.proofs.lemmas.Fmt.{decimal_by_steps}
use Rattle.std.proofs.lemmas.List.Folds.{list_all-append}
use Rattle.fux_pitch.specs.declared.pitch.Pitch.{Pitch}
use Rattle.fux_pitch.specs.Names.{name_of}
use Rattle.fux_pitch.proofs.NameLemmas.{name_of-passes}
use Rattle.fux_grid.specs.declared.exercise.Exercise.{Exercise}
use Rattle.fux_text.specs.Words.{text_line}
use Rattle.fux_text.proofs.NumberWords.{within-own}
use Rattle.fux_text.proofs.OwnWords.{pitch-own}
use Rattle.fux_text.proofs.PlainWords.{is_ink}
use Rattle.price_check.specs.declared.line.Before.{Before}
use Rattle.price_check.specs.declared.words.Kind.{Kind}
use Rattle.price_check.specs.declared.words.Kind.TheVariants as kinds
use Rattle.price_check.specs.declared.words.Part.TheVariants as parts
use Rattle.price_check.specs.PriceLines.{Keeps, Cases, Price, Claims, AreFalling, Fits, Line, is_free_voice, line_text, most_price, price_place}
use Rattle.price_check.specs.Reading.{behind_kind, case_of, cases_in, free_named, free_or_none, if_below, if_later, inner_voice_of, is_end, keeps_in, key_of, keys_in, kind_of, line_in, number_of, part_of, pitch_of, price_in, runs_of, said, voice_of}
use Rattle.price_check.proofs.WordLaws.{bound, choose, line-last, line-more, said-own}

-- ---- words of ink

digit-ink : (d : ℕ) → d < 10 → is_ink (48 + d) ≡ true
digit-ink d lt = and_from (nat_lt 32 (48 + d)) (nat_lt (48 + d) 127) (lt-ltb 32 (48 + d) (omega (arith, lt)))
    (lt-ltb (48 + d) 127 (omega (arith, lt)))

number-ink : (n : ℕ) → n < 2 ^ 64 → list_all is_ink (decimal n) ≡ true
number-ink n few =
    decimal_by_steps (λ m ds. list_all is_ink ds ≡ true) (λ d lt. and_from (is_ink (48 + d)) true (digit-ink d lt) refl)
    (λ m ds ten e. list_all-append is_ink ds ((48 + m % 10) ∷ [])
    ∙ and_from (list_all is_ink ds) (list_all is_ink ((48 + m % 10) ∷ [])) e
    (and_from (is_ink (48 + m % 10)) true (digit-ink (m % 10) (omega arith)) refl))
    n few

name-ink : (p : Pitch) → list_all is_ink (name_of p) ≡ true
name-ink p = name_of-passes is_ink refl p

-- ---- the first word

module _ (ex : Exercise) (before : Before) where
  line-kind : (w : List ℕ) (t : ℕ) (more : List ℕ) (kind : Kind) → list_all is_ink w ≡ true → is_end t ≡ true
      → kind_of before (record { text = w; ends = t == 10; rest = more }) ≡ Some kind
      → line_in ex before (w ++ t ∷ more) ≡ behind_kind ex before kind more
  unfolding line_in
  line-kind w t more kind ink end says =
      bound (said (kind_of before) (w ++ t ∷ more)) (λ k. behind_kind ex before k.0 k.1) (kind, more)
      (said-own (kind_of before) w t more kind ink end says)

  -- ---- what is kept

  kind-keeps : (ends : Bool) (rest : List ℕ) → before.lists < 8
      → kind_of before (record { text = codes "keeps"; ends = ends; rest = rest }) ≡ Some (kinds.Keeps ends)
  unfolding kind_of
  kind-keeps ends rest few = choose (nat_lt before.lists 8) (kinds.Keeps ends) (lt-ltb before.lists 8 few)

  runs-own : (rest : List ℕ) → said runs_of (text_line (codes "runs" ∷ []) ++ rest) ≡ Ok (true, rest)
  unfolding runs_of
  runs-own rest =
      ap (said runs_of) (line-last (codes "runs") rest) ∙ said-own runs_of (codes "runs") 10 rest true refl refl refl

  keeps-none : (rest : List ℕ) → keeps_in true rest ≡ Ok (Keeps false false, rest)
  unfolding keeps_in
  keeps-none rest = refl

  keeps-turns : (rest : List ℕ) → keeps_in false (text_line (codes "turns" ∷ []) ++ rest) ≡ Ok (Keeps true false, rest)
  unfolding keeps_in part_of
  keeps-turns rest =
      bound (said part_of (text_line (codes "turns" ∷ []) ++ rest)) _ (parts.Turns true, rest)
      (ap (said part_of) (line-last (codes "turns") rest)
      ∙ said-own part_of (codes "turns") 10 rest (parts.Turns true) refl refl refl)

  keeps-runs : (rest : List ℕ) → keeps_in false (text_line (codes "runs" ∷ []) ++ rest) ≡ Ok (Keeps false true, rest)
  unfolding keeps_in part_of
  keeps-runs rest =
      bound (said part_of (text_line (codes "runs" ∷ []) ++ rest)) _ (parts.Runs, rest)
      (ap (said part_of) (line-last (codes "runs") rest)
      ∙ said-own part_of (codes "runs") 10 rest parts.Runs refl refl refl)

  keeps-both : (rest : List ℕ)
      → keeps_in false (text_line (codes "turns" ∷ codes "runs" ∷ []) ++ rest) ≡ Ok (Keeps true true, rest)
  unfolding keeps_in part_of
  keeps-both rest =
      let more = text_line (codes "runs" ∷ []) ++ rest in
      bound (said part_of (text_line (codes "turns" ∷ codes "runs" ∷ []) ++ rest)) _ (parts.Turns false, more)
      (ap (said part_of) (line-more (codes "turns") (codes "runs") [] rest)
      ∙ said-own part_of (codes "turns") 32 more (parts.Turns false) refl refl refl)
      ∙ bound (said runs_of more) _ (true, rest) (runs-own rest)

  keeps-read : (turns runs : Bool) (rest : List ℕ) → before.lists < 8
      → line_in ex before (line_text (Keeps turns runs) ++ rest) ≡ Ok (Keeps turns runs, rest)
  keeps-read false false rest few =
      ap (line_in ex before) (line-last (codes "keeps") rest)
      ∙ line-kind (codes "keeps") 10 rest (kinds.Keeps true) refl refl (kind-keeps true rest few) ∙ keeps-none rest
  keeps-read true false rest few =
      let more = text_line (codes "turns" ∷ []) ++ rest in
      ap (line_in ex before) (line-more (codes "keeps") (codes "turns") [] rest)
      ∙ line-kind (codes "keeps") 32 more (kinds.Keeps false) refl refl (kind-keeps false more few) ∙ keeps-turns rest
  keeps-read false true rest few =
      let more = text_line (codes "runs" ∷ []) ++ rest in
      ap (line_in ex before) (line-more (codes "keeps") (codes "runs") [] rest)
      ∙ line-kind (codes "keeps") 32 more (kinds.Keeps false) refl refl (kind-keeps false more few) ∙ keeps-runs rest
  keeps-read true true rest few =
      let more = text_line (codes "turns" ∷ codes "runs" ∷ []) ++ rest in
      ap (line_in ex before) (line-more (codes "keeps") (codes "turns") (codes "runs" ∷ []) rest)
      ∙ line-kind (codes "keeps") 32 more (kinds.Keeps false) refl refl (kind-keeps false more few) ∙ keeps-both rest

  -- ---- the last line

  kind-claims : (rest : List ℕ) → 0 < before.lists
      → kind_of before (record { text = codes "claims"; ends = true; rest = rest }) ≡ Some kinds.Claims
  unfolding kind_of
  kind-claims rest some =
      choose (nat_lt 0 before.lists && true) kinds.Claims
      (and_from (nat_lt 0 before.lists) true (lt-ltb 0 before.lists some) refl)

  claims-read : (rest : List ℕ) → 0 < before.lists → line_in ex before (line_text Claims ++ rest) ≡ Ok (Claims, rest)
  claims-read rest some =
      ap (line_in ex before) (line-last (codes "claims") rest)
      ∙ line-kind (codes "claims") 10 rest kinds.Claims refl refl (kind-claims rest some)

  -- ---- cases

  free-own : (v : ℕ) → ex.voices ≤ 4 → is_free_voice ex v ≡ true → free_named ex (decimal v) ≡ Some v
  free-own v four free =
      let parts = and_parts (nat_lt v ex.voices) (not (v == ex.cantus_voice)) free in
      let there : v < ex.voices = let t = parts.0 in grind (arith, nat_tests) in
      ap (option_and_then (free_or_none ex)) (within-own 0 3 v (omega (arith, there, four)) (omega arith) (omega (arith, there, four)))
      ∙ choose (is_free_voice ex v) v free

  voice-own : (v : ℕ) (ends : Bool) (rest : List ℕ) → ex.voices ≤ 4 → is_free_voice ex v ≡ true
      → voice_of ex (record { text = decimal v; ends = ends; rest = rest }) ≡ Some (v, ends)
  unfolding voice_of
  voice-own v ends rest four free = ap (option_map (λ w. (w, ends))) (free-own v four free)

  voice-few : (v : ℕ) → ex.voices ≤ 4 → is_free_voice ex v ≡ true → v < 2 ^ 64
  voice-few v four free =
      let parts = and_parts (nat_lt v ex.voices) (not (v == ex.cantus_voice)) free in
      let there : v < ex.voices = let t = parts.0 in grind (arith, nat_tests) in
      omega (arith, there, four)

  key-own : (high key : ℕ) (ends : Bool) (rest : List ℕ) → high ≤ 127 → key < high
      → key_of high (record { text = decimal key; ends = ends; rest = rest }) ≡ Some (key, ends)
  unfolding key_of
  key-own high key ends rest small below =
      ap (λ o. option_map (λ k. (k, ends)) (option_and_then (if_below high) o))
      (within-own 0 126 key (omega (arith, small, below)) (omega arith) (omega (arith, small, below)))
      ∙ ap (option_map (λ k. (k, ends))) (choose (nat_lt key high) key (lt-ltb key high below))

  keys-own : (keys : List ℕ) (most high key : ℕ) (rest : List ℕ) → high ≤ 127 → AreFalling high most (key ∷ keys)
      → keys_in most high (text_line (map decimal (key ∷ keys)) ++ rest) ≡ Ok (key ∷ keys, rest)
  unfolding keys_in
  keys-own keys zero high key rest small falls = absurd (omega (arith, falls.1))
  keys-own [] (suc most) high key rest small falls =
      bound (said (key_of high) (text_line (decimal key ∷ []) ++ rest)) _ ((key, true), rest)
      (ap (said (key_of high)) (line-last (decimal key) rest)
      ∙ said-own (key_of high) (decimal key) 10 rest (key, true) (number-ink key (omega (arith, small, falls.0))) refl
      (key-own high key true rest small falls.0))
  keys-own (next ∷ keys) (suc most) high key rest small falls =
      let more = text_line (map decimal (next ∷ keys)) ++ rest in
      let fewer : suc most - 1 ≡ most = omega arith in
      bound (said (key_of high) (text_line (map decimal (key ∷ next ∷ keys)) ++ rest)) _ ((key, false), more)
      (ap (said (key_of high)) (line-more (decimal key) (decimal next) (map decimal keys) rest)
      ∙ said-own (key_of high) (decimal key) 32 more (key, false) (number-ink key (omega (arith, small, falls.0))) refl
      (key-own high key false more small falls.0))
      ∙ bound (keys_in most key more) _ (next ∷ keys, rest)
      (keys-own keys most key next rest (omega (arith, small, falls.0))
      (subst (λ (m : ℕ). AreFalling key m (next ∷ keys)) fewer falls.2))

  behind-own : (v : ℕ) (keys : List ℕ) (rest : List ℕ) → ex.voices ≤ 4 → is_free_voice ex v ≡ true → AreFalling 127 15 keys
      → cases_in ex (text_line (decimal v ∷ map decimal keys) ++ rest) ≡ Ok (Cases v keys, rest)
  unfolding cases_in
  behind-own v [] rest four free falls =
      bound (said (voice_of ex) (text_line (decimal v ∷ []) ++ rest)) _ ((v, true), rest)
      (ap (said (voice_of ex)) (line-last (decimal v) rest)
      ∙ said-own (voice_of ex) (decimal v) 10 rest (v, true) (number-ink v (voice-few v four free)) refl
      (voice-own v true rest four free))
  behind-own v (key ∷ keys) rest four free falls =
      let more = text_line (map decimal (key ∷ keys)) ++ rest in
      bound (said (voice_of ex) (text_line (decimal v ∷ map decimal (key ∷ keys)) ++ rest)) _ ((v, false), more)
      (ap (said (voice_of ex)) (line-more (decimal v) (decimal key) (map decimal keys) rest)
      ∙ said-own (voice_of ex) (decimal v) 32 more (v, false) (number-ink v (voice-few v four free)) refl
      (voice-own v false more four free))
      ∙ bound (keys_in 15 127 more) _ (key ∷ keys, rest) (keys-own keys 15 127 key rest (omega arith) falls)

  kind-cases : (rest : List ℕ) → before.kept ≡ true
      → kind_of before (record { text = codes "cases"; ends = false; rest = rest }) ≡ Some kinds.Cases
  unfolding kind_of
  kind-cases rest kept = choose (before.kept && true) kinds.Cases (and_from before.kept true kept refl)

  cases-read : (v : ℕ) (keys : List ℕ) (rest : List ℕ) → ex.voices ≤ 4 → before.kept ≡ true → is_free_voice ex v ≡ true
      → AreFalling 127 15 keys → line_in ex before (line_text (Cases v keys) ++ rest) ≡ Ok (Cases v keys, rest)
  cases-read v keys rest four kept free falls =
      let more = text_line (decimal v ∷ map decimal keys) ++ rest in
      ap (line_in ex before) (line-more (codes "cases") (decimal v) (map decimal keys) rest)
      ∙ line-kind (codes "cases") 32 more kinds.Cases refl refl (kind-cases more kept)
      ∙ behind-own v keys rest four free falls

  -- ---- prices

  kind-price : (rest : List ℕ) → 0 < before.cases
      → kind_of before (record { text = codes "price"; ends = false; rest = rest }) ≡ Some kinds.Price
  unfolding kind_of
  kind-price rest some =
      choose (nat_lt 0 before.cases && true) kinds.Price
      (and_from (nat_lt 0 before.cases) true (lt-ltb 0 before.cases some) refl)

  case-own : (case : ℕ) (rest : List ℕ) → 1 ≤ case → case ≤ before.cases → before.cases ≤ 16
      → case_of before.cases (record { text = decimal case; ends = false; rest = rest }) ≡ Some case
  unfolding case_of
  case-own case rest some within few = within-own 1 before.cases case (omega (arith, within, few)) some within

  inner-own : (v : ℕ) (rest : List ℕ) → ex.voices ≤ 4 → is_free_voice ex v ≡ true
      → inner_voice_of ex (record { text = decimal v; ends = false; rest = rest }) ≡ Some v
  unfolding inner_voice_of
  inner-own v rest four free = free-own v four free

  pitch-read : (case v : ℕ) (p : Pitch) (rest : List ℕ) → before.last < price_place case v p
      → pitch_of before.last case v (record { text = name_of p; ends = false; rest = rest }) ≡ Some p
  unfolding pitch_of
  pitch-read case v p rest later =
      ap (option_and_then (if_later before.last case v)) (pitch-own p)
      ∙ choose (nat_lt before.last (price_place case v p)) p (lt-ltb before.last (price_place case v p) later)

  number-read : (n : ℕ) (rest : List ℕ) → 1 ≤ n → n ≤ most_price
      → number_of (record { text = decimal n; ends = true; rest = rest }) ≡ Some n
  unfolding number_of
  number-read n rest some few = within-own 1 most_price n (omega (arith, few)) some few

  module _ (case v : ℕ) (p : Pitch) (n : ℕ) (rest : List ℕ) (four : ex.voices ≤ 4) (cases : before.cases ≤ 16)
      (some : 1 ≤ case) (within : case ≤ before.cases) (free : is_free_voice ex v ≡ true)
      (later : before.last < price_place case v p) (positive : 1 ≤ n) (few : n ≤ most_price) where
    abbrev last_words : List ℕ
    last_words = text_line (decimal n ∷ []) ++ rest

    abbrev pitch_words : List ℕ
    pitch_words = text_line (name_of p ∷ decimal n ∷ []) ++ rest

    abbrev voice_words : List ℕ
    voice_words = text_line (decimal v ∷ name_of p ∷ decimal n ∷ []) ++ rest

    abbrev case_words : List ℕ
    case_words = text_line (decimal case ∷ decimal v ∷ name_of p ∷ decimal n ∷ []) ++ rest

    case-said : said (case_of before.cases) case_words ≡ Ok (case, voice_words)
    case-said =
        ap (said (case_of before.cases)) (line-more (decimal case) (decimal v) (name_of p ∷ decimal n ∷ []) rest)
        ∙ said-own (case_of before.cases) (decimal case) 32 voice_words case
        (number-ink case (omega (arith, within, cases))) refl (case-own case voice_words some within cases)

    voice-said : said (inner_voice_of ex) voice_words ≡ Ok (v, pitch_words)
    voice-said =
        ap (said (inner_voice_of ex)) (line-more (decimal v) (name_of p) (decimal n ∷ []) rest)
        ∙ said-own (inner_voice_of ex) (decimal v) 32 pitch_words v (number-ink v (voice-few v four free)) refl
        (inner-own v pitch_words four free)

    pitch-said : said (pitch_of before.last case v) pitch_words ≡ Ok (p, last_words)
    pitch-said =
        ap (said (pitch_of before.last case v)) (line-more (name_of p) (decimal n) [] rest)
        ∙ said-own (pitch_of before.last case v) (name_of p) 32 last_words p (name-ink p) refl
        (pitch-read case v p last_words later)

    number-said : said number_of last_words ≡ Ok (n, rest)
    number-said =
        ap (said number_of) (line-last (decimal n) rest)
        ∙ said-own number_of (decimal n) 10 rest n (number-ink n (omega (arith, few))) refl (number-read n rest positive few)

    price-own : price_in ex before case_words ≡ Ok (Price case v p n, rest)
    unfolding price_in
    price-own =
        bound (said (case_of before.cases) case_words) _ (case, voice_words) case-said
        ∙ bound (said (inner_voice_of ex) voice_words) _ (v, pitch_words) voice-said
        ∙ bound (said (pitch_of before.last case v) pitch_words) _ (p, last_words) pitch-said
        ∙ bound (said number_of last_words) _ (n, rest) number-said

    price-read : line_in ex before (line_text (Price case v p n) ++ rest) ≡ Ok (Price case v p n, rest)
    price-read =
        ap (line_in ex before) (line-more (codes "price") (decimal case) (decimal v ∷ name_of p ∷ decimal n ∷ []) rest)
        ∙ line-kind (codes "price") 32 case_words kinds.Price refl refl
        (kind-price case_words (omega (arith, some, within)))
        ∙ price-own

pub lines_are_read : (ex : Exercise) (before : Before) (line : Line) (rest : List ℕ) → ex.voices ≤ 4 → before.cases ≤ 16
    → Fits ex before line → line_in ex before (line_text line ++ rest) ≡ Ok (line, rest)
lines_are_read ex before (Keeps turns runs) rest four cases fits = keeps-read ex before turns runs rest fits
lines_are_read ex before (Cases v keys) rest four cases fits =
    cases-read ex before v keys rest four fits.0 fits.1 fits.2
lines_are_read ex before (Price case v p n) rest four cases fits =
    price-read ex before case v p n rest four cases fits.0 fits.1 fits.2 fits.3 fits.4 fits.5
lines_are_read ex before Claims rest four cases fits = claims-read ex before rest fits
