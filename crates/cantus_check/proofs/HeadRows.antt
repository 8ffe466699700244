-- The row of a head has the texts of heads (`head-says`, `head-of`), none of which begins another
-- one (`heads-alone`). What its pieces read it reads, and where they stop it stops.
use Rattle.std.proofs.Common.{◌≡◌, inl, inr, ℕ, ◌+◌, ◌-◌, ◌*◌, ◌<◌, ◌≤◌, Bool, true, false, List, [], ◌∷◌, ◌++◌, Some, None, length, length-append, refl, sym, ap, subst, ◌∙◌, append_assoc, arith}
use Rattle.std.specs.Prelude.{◌==◌, codes}
use Rattle.std.specs.Fmt.{decimal}
use Rattle.std.proofs.lemmas.Fmt.{length-decimal-le}
use Rattle.fux_pitch.specs.declared.pitch.Pitch.{Pitch}
use Rattle.fux_pitch.specs.Names.{name_of}
use Rattle.fux_pitch.proofs.NameLemmas.{name_of-length}
use Rattle.cert_text.specs.HeadRows.{IsKind, NumberLine}
use Rattle.cert_text.specs.Pieces.{Fixed, GoesTo, Literal, OneByte, Reads, Stops, Then}
use Rattle.cert_text.proofs.NumberLemmas.{numbers-plain}
use Rattle.cert_text.proofs.PieceLemmas.{Alone, Plain, byte-plain, fixed-plain, then-plain}
use Rattle.cantus_check.specs.Heads.{IsHeadText, IsSaid, Said, closing_text, head_text, opening_text}
use Rattle.cantus_check.specs.Rows.{BestRow, CantusRow, HeadRow, KindRow, KindsRow, Names, NothingRow, none_rest}
use Rattle.cert_text.proofs.Fronts.{few-left, goes-to}
use Rattle.cantus_check.proofs.NameRows.{names-alone, names-live, names-of, names-say, names_text, names_text-more}

abbrev NUMBER : List ℕ
NUMBER = codes "est "

abbrev CANTUS : List ℕ
CANTUS = codes "cantus"

-- what stands behind the pitches
abbrev Closed : ℕ → List Pitch → Said → List ℕ → Type 0
Closed penalty cantus = Fixed (Some (penalty, cantus)) closing_text

abbrev NamesRow : ℕ → Said → List ℕ → Type 0
NamesRow penalty = Then (Names 3 24) (Closed penalty)

abbrev NumberRow : Said → List ℕ → Type 0
NumberRow = Then NumberLine CantusRow

-- ---- no head begins another one, and heads go on

pub names_row-plain : (penalty : ℕ) → Plain (NamesRow penalty)
names_row-plain penalty =
    then-plain (Names 3 24) (Closed penalty) (record { alone = names-alone 3 24; live = names-live 3 24 })
    (λ ps. fixed-plain (Some (penalty, ps)) closing_text)

pub cantus-plain : (penalty : ℕ) → Plain (CantusRow penalty)
cantus-plain penalty =
    then-plain (Literal CANTUS) (λ _. NamesRow penalty) (fixed-plain (tt {0}) CANTUS) (λ _. names_row-plain penalty)

pub number-plain : Plain NumberRow
number-plain = then-plain NumberLine CantusRow numbers-plain cantus-plain

pub kind-plain : (best : Bool) → Plain (KindRow best)
kind-plain true = then-plain (Literal NUMBER) (λ _. NumberRow) (fixed-plain (tt {0}) NUMBER) (λ _. number-plain)
kind-plain false = fixed-plain None none_rest

pub kinds-plain : Plain KindsRow
kinds-plain =
    then-plain (OneByte IsKind) (λ byte. KindRow (byte == 98)) (byte-plain IsKind 98 (inl refl))
    (λ byte. kind-plain (byte == 98))

head-plain : Plain HeadRow
head-plain =
    then-plain (Literal opening_text) (λ _. KindsRow) (fixed-plain (tt {0}) opening_text) (λ _. kinds-plain)

-- ---- the row has the texts of heads

-- the text of a penalty and of a cantus, behind `best`
best_text : (penalty : ℕ) (names : List ℕ)
    → (decimal penalty ++ 10 ∷ []) ++ (codes "cantus" ++ (names ++ closing_text))
    ≡ (decimal penalty ++ 10 ∷ (codes "cantus" ++ names)) ++ closing_text
best_text penalty names =
    append_assoc (decimal penalty) (10 ∷ []) (codes "cantus" ++ (names ++ closing_text))
    ∙ sym (append_assoc (decimal penalty) (10 ∷ (codes "cantus" ++ names)) closing_text)

-- what a text says behind the first line
abbrev SaysBehind : Said → List ℕ → Type 0
SaysBehind said rest = IsHeadText said (opening_text ++ rest)

best-says : (said : Said) (rest : List ℕ) → BestRow said rest → SaysBehind said (98 ∷ rest)
best-says said rest row =
    let number = row.behind in
    let word = number.behind in
    let names = word.behind in
    let penalty = number.said in
    let cantus = names.said in
    let says = names-say 3 24 cantus names.front (omega arith) names.first in
    let told : said ≡ Some (penalty, cantus) = names.behind.0 in
    let parts : rest ≡ codes "est " ++ ((decimal penalty ++ 10 ∷ []) ++ (codes "cantus" ++ (names_text cantus ++ closing_text))) =
    row.parts ∙ ap (λ w. w ++ row.rest) row.first.1
    ∙ ap (λ w. codes "est " ++ w) (number.parts ∙ ap (λ w. w ++ number.rest) number.first.1
    ∙ ap (λ w. (decimal penalty ++ 10 ∷ []) ++ w) (word.parts ∙ ap (λ w. w ++ word.rest) word.first.1
    ∙ ap (λ w. codes "cantus" ++ w) (names.parts ∙ ap (λ w. w ++ names.rest) says.is
    ∙ ap (λ w. names_text cantus ++ w) names.behind.1))) in
    subst (λ s. SaysBehind s (98 ∷ rest)) (sym told) (
      (number.first.0, says.few, says.many),
      ap (λ w. opening_text ++ 98 ∷ w) parts
          ∙ ap (λ w. opening_text ++ (codes "best " ++ w)) (best_text penalty (names_text cantus)),
    )

nothing-says : (said : Said) (rest : List ℕ) → NothingRow said rest → SaysBehind said (110 ∷ rest)
nothing-says said rest row =
    subst (λ s. SaysBehind s (110 ∷ rest)) (sym row.0) (tt, ap (λ w. opening_text ++ 110 ∷ w) row.1)

pub head-says : (said : Said) (text : List ℕ) → HeadRow said text → IsHeadText said text
head-says said text row =
    let kinds = row.behind in
    subst (IsHeadText said) (sym (row.parts ∙ ap (λ w. w ++ row.rest) row.first.1
    ∙ ap (λ w. opening_text ++ w) (kinds.parts ∙ ap (λ w. w ++ kinds.rest) kinds.first.1)))
    (by kinds.said kinds.rest kinds.first.0 kinds.behind)
  where
    by : (byte : ℕ) (rest : List ℕ) → IsKind byte → KindRow (byte == 98) said rest → SaysBehind said (byte ∷ rest)
    by byte rest (inl best) kind =
        subst (λ b. KindRow (b == 98) said rest → SaysBehind said (b ∷ rest)) (sym best) (best-says said rest) kind
    by byte rest (inr none) kind =
        subst (λ b. KindRow (b == 98) said rest → SaysBehind said (b ∷ rest)) (sym none) (nothing-says said rest) kind

headed : (said : Said) (byte : ℕ) (rest : List ℕ) → IsKind byte → KindRow (byte == 98) said rest
    → HeadRow said (opening_text ++ byte ∷ rest)
headed said byte rest is kind = record {
  said = tt;
  front = opening_text;
  rest = byte ∷ rest;
  parts = refl;
  first = (refl, refl);
  behind = record {
    said = byte;
    front = byte ∷ [];
    rest = rest;
    parts = refl;
    first = (is, refl);
    behind = kind;
  };
}

best-row : (penalty : ℕ) (cantus : List Pitch) → IsSaid (Some (penalty, cantus))
    → BestRow (Some (penalty, cantus)) (codes "est " ++ ((decimal penalty ++ 10 ∷ (codes "cantus" ++ names_text cantus)) ++ closing_text))
best-row penalty cantus fits = record {
  said = tt;
  front = codes "est ";
  rest = (decimal penalty ++ 10 ∷ (codes "cantus" ++ names_text cantus)) ++ closing_text;
  parts = refl;
  first = (refl, refl);
  behind = record {
    said = penalty;
    front = decimal penalty ++ 10 ∷ [];
    rest = codes "cantus" ++ (names_text cantus ++ closing_text);
    parts = sym (best_text penalty (names_text cantus));
    first = (fits.0, refl);
    behind = record {
      said = tt;
      front = codes "cantus";
      rest = names_text cantus ++ closing_text;
      parts = refl;
      first = (refl, refl);
      behind = record {
        said = cantus;
        front = names_text cantus;
        rest = closing_text;
        parts = refl;
        first = names-of 3 24 cantus fits.1 fits.2;
        behind = (refl, refl);
      };
    };
  };
}

pub head-of : (said : Said) (text : List ℕ) → IsHeadText said text → HeadRow said text
head-of None text is = subst (HeadRow None) (sym is.1) (headed None 110 none_rest (inr refl) (refl, refl))
head-of (Some best) text is =
    subst (HeadRow (Some best)) (sym is.1)
    (headed (Some best) 98
    (codes "est " ++ ((decimal best.0 ++ 10 ∷ (codes "cantus" ++ names_text best.1)) ++ closing_text)) (inl refl)
    (best-row best.0 best.1 is.0))

pub heads-alone : Alone IsHeadText
heads-alone x y f g a b s t e = head-plain.alone x y f g a b (head-of x f s) (head-of y g t) e

pub head-reads : (bytes rest : List ℕ) (said : Said) → Reads HeadRow bytes said rest → Reads IsHeadText bytes said rest
head-reads bytes rest said (front, parts, row) = (front, parts, head-says said front row)

head-stops : (bytes : List ℕ) (left : ℕ) → Stops HeadRow bytes left → Stops IsHeadText bytes left
head-stops bytes left stop = record {
  front = stop.front;
  rest = stop.rest;
  parts = stop.parts;
  count = stop.count;
  here = record {
    begins = let begun = stop.here.begins in (begun.0, begun.1, head-says begun.0 (stop.front ++ begun.1) begun.2);
    open_ = λ x text. stop.here.open_ x (head-of x stop.front text);
    longest = λ b more e (x, r, text).
        stop.here.longest b more e (x, r, head-of x ((stop.front ++ b ∷ []) ++ r) text);
  };
}

pub head-goes_to : (bytes : List ℕ) (left : ℕ) → Stops HeadRow bytes left
    → (left ≤ length bytes) × GoesTo IsHeadText bytes (length bytes - left)
head-goes_to bytes left stop =
    let stops = head-stops bytes left stop in
    (few-left IsHeadText heads-alone bytes left stops, goes-to IsHeadText heads-alone bytes left stops)

-- ---- how long a head is

names_text-short : (ps : List Pitch) → length (names_text ps) ≤ 4 * length ps + 1
names_text-short [] = omega arith
names_text-short (p ∷ ps) =
    omega (
      arith,
      ap length (names_text-more p ps),
      length-append (name_of p) (names_text ps),
      (name_of-length p).1,
      names_text-short ps,
    )

opening-size : length opening_text ≡ 18
opening-size = refl

closing-size : length closing_text ≡ 7
closing-size = refl

best_text-short : (penalty : ℕ) (cantus : List Pitch) → IsSaid (Some (penalty, cantus))
    → length (head_text (Some (penalty, cantus))) ≤ 200
best_text-short penalty cantus fits =
    let number : length (decimal penalty) ≤ 20 =
    length-decimal-le 20 penalty (omega arith) (omega (arith, fits.0)) fits.0 in
    let behind = 10 ∷ (codes "cantus" ++ names_text cantus) in
    let middle = codes "best " ++ (decimal penalty ++ behind) in
    omega (
      arith,
      number,
      opening-size,
      closing-size,
      length-append opening_text (middle ++ closing_text),
      length-append middle closing_text,
      length-append (codes "best ") (decimal penalty ++ behind),
      length-append (decimal penalty) behind,
      length-append (codes "cantus") (names_text cantus),
      names_text-short cantus,
      fits.2,
    )

-- so it is shorter than its limit
pub heads_are_short : (said : Said) (text : List ℕ) → IsHeadText said text → length text < 65536
heads_are_short None text is = omega (arith, ap length is.1, nothing)
  where
    nothing : length (head_text None) ≡ 30
    nothing = refl
heads_are_short (Some best) text is = omega (arith, ap length is.1, best_text-short best.0 best.1 is.0)
