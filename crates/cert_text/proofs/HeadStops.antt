-- The row of a head has the texts of heads (`row-says`, `row-of_text`). So where reading the row
-- stops bytes stop being a head (`head-stops`), what is read stands at the front (`head-reads`),
-- and one head at most does (`same-head`).
use Rattle.std.proofs.Common.{◌≡◌, inl, inr, append_assoc, ℕ, ◌+◌, ◌-◌, ◌<◌, ◌≤◌, ◌^◌, Bool, true, false, List, [], ◌∷◌, ◌++◌, Option, Some, None, length, take, refl, sym, ap, subst, ◌∙◌, arith}
use Rattle.std.specs.Prelude.{◌==◌, codes}
use Rattle.std.specs.Fmt.{decimal}
use Rattle.fux_grid.specs.declared.exercise.Exercise.{Exercise}
use Rattle.fux_grid.specs.Exercises.{IsValid}
use Rattle.fux_text.specs.Lines.{free_voices}
use Rattle.cert_text.specs.declared.answers.Form.{Form}
use Rattle.cert_text.specs.declared.answers.Form.TheVariants.{First, Second, Third}
use Rattle.cert_text.specs.HeadRows.{BestRow, FeedRow, FormDigit, FormRow, HeadRow, HeadSaid, IsKind, IsUpTo, Itself, KindRow, KindsRow, NothingRow, NumberLine, SingLines, closing_text, feed_text, form_byte, name_text, none_rest, opening_text}
use Rattle.cert_text.specs.HeadTexts.{TextStops}
use Rattle.cert_text.specs.Pieces.{Fixed, Literal, OneByte, Reads, Stops, Then}
use Rattle.cert_text.specs.SingItems.{AreLines, IsHeadText, best_text, nothing_text}
use Rattle.cert_text.proofs.FourthOctave.{natural-four}
use Rattle.cert_text.proofs.Fronts.{few-left, front-taken, goes-to, stands-one}
use Rattle.cert_text.proofs.ItemRows.{lines-alone, lines-live}
use Rattle.cert_text.proofs.ItemTexts.{lines-from, lines-to}
use Rattle.cert_text.proofs.NumberLemmas.{numbers-plain}
use Rattle.cert_text.proofs.PieceLemmas.{Alone, Plain, byte-plain, fixed-plain, then-plain}
use Rattle.cert_text.proofs.SungScores.{items-are_written, written-are_items}

-- ---- the row has the texts of heads

-- what a head says
abbrev pub saying : Form → Option ℕ → List ℕ → HeadSaid
saying form penalty lines = record { form = form; penalty = penalty; lines = lines }

-- the lines behind the penalty
abbrev LinesRow : Exercise → Form → ℕ → HeadSaid → List ℕ → Type 0
LinesRow ex form penalty =
    Then (Itself (SingLines ex (free_voices ex))) (λ lines. Fixed (saying form (Some penalty) lines) (closing_text form))

abbrev NumberRow : Exercise → Form → HeadSaid → List ℕ → Type 0
NumberRow ex form = Then NumberLine (LinesRow ex form)

-- what a head says, and its text
abbrev pub SaysOf : Exercise → Form → Option ℕ → List ℕ → List ℕ → Type 0
SaysOf ex form None lines text = (lines ≡ []) × (text ≡ nothing_text form)
SaysOf ex form (Some penalty) lines text =
    (penalty < 2 ^ 64) × AreLines ex lines × (text ≡ best_text form penalty lines)

abbrev pub Says : Exercise → HeadSaid → List ℕ → Type 0
Says ex said text = SaysOf ex said.form said.penalty said.lines text

pub says-is : (ex : Exercise) (form : Form) (penalty : Option ℕ) (lines text : List ℕ) → SaysOf ex form penalty lines text
    → IsHeadText ex form text penalty
says-is ex form None lines text says = says.1
says-is ex form (Some penalty) lines text says =
    record { below = says.0; lines = lines; canonical = says.1; text = says.2 }

-- it doesn't matter for that what a text says
pub fixed-stops : {A : Type 0} (a : A) (text bytes : List ℕ) (left : ℕ) → Stops (Literal text) bytes left
    → Stops (Fixed a text) bytes left
fixed-stops a text bytes left stop = record {
  front = stop.front;
  rest = stop.rest;
  parts = stop.parts;
  count = stop.count;
  here = record {
    begins = let begun = stop.here.begins in (a, begun.1, (refl, begun.2.1));
    open_ = λ x same. stop.here.open_ tt (refl, same.1);
    longest = λ b more e begun. stop.here.longest b more e (tt, begun.1, (refl, begun.2.1));
  };
}

pub fixed-reads : {A : Type 0} (a : A) (text bytes rest : List ℕ) → Reads (Literal text) bytes tt rest
    → Reads (Fixed a text) bytes a rest
fixed-reads a text bytes rest (front, e, is) = (front, e, (refl, is.1))

-- nor that a text says itself
pub itself-stops : (L : Unit {0} → List ℕ → Type 0) (bytes : List ℕ) (left : ℕ) → Stops L bytes left
    → Stops (Itself L) bytes left
itself-stops L bytes left stop = record {
  front = stop.front;
  rest = stop.rest;
  parts = stop.parts;
  count = stop.count;
  here = record {
    begins = let begun = stop.here.begins in (stop.front ++ begun.1, begun.1, (refl, begun.2));
    open_ = λ lines text. stop.here.open_ tt text.1;
    longest = λ b more e begun. stop.here.longest b more e (tt, begun.1, begun.2.1);
  };
}

-- ---- the digit of a form

module _ (last : Form) where
  one_up_to : IsUpTo last First
  one_up_to = by last
    where
      by : (form : Form) → IsUpTo form First
      by First = tt
      by Second = tt
      by Third = tt

  pub digit-alone : Alone (FormDigit last)
  digit-alone x y f g a b s t e =
      let whole : form_byte x ∷ a ≡ form_byte y ∷ b = ap (λ w. w ++ a) (sym s.1) ∙ e ∙ ap (λ w. w ++ b) t.1 in
      let byte : form_byte x ≡ form_byte y = cc in
      let same = one_form x y byte in
      (same, s.1 ∙ ap (λ c. form_byte c ∷ []) same ∙ sym t.1)
    where
      one_form : (x y : Form) → form_byte x ≡ form_byte y → x ≡ y
      one_form First First e = refl
      one_form First Second e = absurd (omega (arith, e))
      one_form First Third e = absurd (omega (arith, e))
      one_form Second First e = absurd (omega (arith, e))
      one_form Second Second e = refl
      one_form Second Third e = absurd (omega (arith, e))
      one_form Third First e = absurd (omega (arith, e))
      one_form Third Second e = absurd (omega (arith, e))
      one_form Third Third e = refl

  digit-plain : Plain (FormDigit last)
  digit-plain = record { alone = digit-alone; live = (First, 49 ∷ [], (one_up_to, refl)) }

  -- no digit of such a form comes next
  pub no_digit-stops : (bytes : List ℕ)
      → ((b : ℕ) (more : List ℕ) → bytes ≡ b ∷ more → (form : Form) → IsUpTo last form → b ≡ form_byte form → ⊥)
      → Stops (FormDigit last) bytes (length bytes)
  no_digit-stops bytes none = record {
    front = [];
    rest = bytes;
    parts = refl;
    count = refl;
    here = record {
      begins = (First, 49 ∷ [], (one_up_to, refl));
      open_ = λ form s. absurd (omega (arith, ap length s.1));
      longest = λ b more e (form, r, s). none b more e form s.0 (first b (form_byte form) r s.1);
    };
  }
    where
      first : (b d : ℕ) (r : List ℕ) → b ∷ r ≡ d ∷ [] → b ≡ d
      first b d r e = cc

module _ (ex : Exercise) (valid : IsValid ex) where
  some_bars : 1 ≤ ex.bars
  some_bars = omega (arith, valid.fewest_bars)

  lines-are : (lines : List ℕ) → SingLines ex (free_voices ex) tt lines → AreLines ex lines
  lines-are lines row =
      items-are_written ex lines valid
      (lines-from ex (natural-four 65 (omega arith) (omega arith)).0 ex.voices 0 lines row)

  are-lines : (lines : List ℕ) → AreLines ex lines → SingLines ex (free_voices ex) tt lines
  are-lines lines are =
      let items = written-are_items ex are.0 lines valid are.1 in
      subst (SingLines ex (free_voices ex) tt) (sym items.text)
      (lines-to ex items.sung (free_voices ex) some_bars items.fits)

  pub itself-alone : Alone (Itself (SingLines ex (free_voices ex)))
  itself-alone x y f g a b s t e =
      let same = lines-alone ex (free_voices ex) tt tt f g a b s.1 t.1 e in (s.0 ∙ same.1 ∙ sym t.0, same.1)

  itself-plain : Plain (Itself (SingLines ex (free_voices ex)))
  itself-plain =
      let lines = lines-live ex (free_voices ex) some_bars in
      record { alone = itself-alone; live = (lines.1, lines.1, (refl, lines.2)) }

  -- ---- from the second line on

  module _ (form : Form) where
    best-says : (said : HeadSaid) (text : List ℕ) → BestRow ex form said text
        → (said.form ≡ form) × Says ex said (opening_text form ++ 98 ∷ text)
    best-says said text row =
        let number = row.behind in
        let lines = number.behind in
        let penalty = number.said in
        let whole : text ≡ codes "est " ++ (decimal penalty ++ 10 ∷ (lines.said ++ closing_text form)) =
        row.parts ∙ ap (λ w. w ++ row.rest) row.first.1
        ∙ ap (λ w. codes "est " ++ w) (number.parts ∙ ap (λ w. w ++ number.rest) number.first.1
        ∙ append_assoc (decimal penalty) (10 ∷ []) number.rest
        ∙ ap (λ w. decimal penalty ++ 10 ∷ w) (lines.parts ∙ ap (λ w. w ++ lines.rest) (sym lines.first.0)
        ∙ ap (λ w. lines.said ++ w) lines.behind.1)) in
        let says : Says ex (saying form (Some penalty) lines.said) (opening_text form ++ 98 ∷ text) = (
          number.first.0,
          lines-are lines.said (subst (SingLines ex (free_voices ex) tt) (sym lines.first.0) lines.first.1),
          ap (λ w. opening_text form ++ 98 ∷ w) whole,
        ) in (
          ap (λ (s : HeadSaid). s.form) lines.behind.0,
          subst (λ s. Says ex s (opening_text form ++ 98 ∷ text)) (sym lines.behind.0) says,
        )

    nothing-says : (said : HeadSaid) (text : List ℕ) → NothingRow form said text
        → (said.form ≡ form) × Says ex said (opening_text form ++ 110 ∷ text)
    nothing-says said text row = (
      ap (λ (s : HeadSaid). s.form) row.0,
      subst (λ s. Says ex s (opening_text form ++ 110 ∷ text)) (sym row.0)
          (refl, ap (λ w. opening_text form ++ 110 ∷ w) row.1),
    )

    kinds-say : (said : HeadSaid) (text : List ℕ) → KindsRow ex form said text
        → (said.form ≡ form) × Says ex said (opening_text form ++ text)
    kinds-say said text row =
        subst (λ w. (said.form ≡ form) × Says ex said (opening_text form ++ w)) (sym parts)
        (by row.said row.first.0 row.behind)
      where
        parts : text ≡ row.said ∷ row.rest
        parts = row.parts ∙ ap (λ w. w ++ row.rest) row.first.1

        by : (byte : ℕ) → IsKind byte → KindRow ex form (byte == 98) said row.rest
            → (said.form ≡ form) × Says ex said (opening_text form ++ byte ∷ row.rest)
        by byte (inl best) kind =
            subst (λ b. KindRow ex form (b == 98) said row.rest
            → (said.form ≡ form) × Says ex said (opening_text form ++ b ∷ row.rest)) (sym best)
            (best-says said row.rest) kind
        by byte (inr none) kind =
            subst (λ b. KindRow ex form (b == 98) said row.rest
            → (said.form ≡ form) × Says ex said (opening_text form ++ b ∷ row.rest)) (sym none)
            (nothing-says said row.rest) kind

    none-kind : KindsRow ex form (saying form None []) (110 ∷ none_rest form)
    none-kind = record {
      said = 110;
      front = 110 ∷ [];
      rest = none_rest form;
      parts = refl;
      first = (inr refl, refl);
      behind = (refl, refl);
    }

    some-kind : (penalty : ℕ) (lines : List ℕ) → penalty < 2 ^ 64 → AreLines ex lines
        → KindsRow ex form (saying form (Some penalty) lines)
        (codes "best " ++ (decimal penalty ++ 10 ∷ (lines ++ closing_text form)))
    some-kind penalty lines below canonical = record {
      said = 98;
      front = 98 ∷ [];
      rest = codes "est " ++ (decimal penalty ++ 10 ∷ (lines ++ closing_text form));
      parts = refl;
      first = (inl refl, refl);
      behind = record {
        said = tt;
        front = codes "est ";
        rest = decimal penalty ++ 10 ∷ (lines ++ closing_text form);
        parts = refl;
        first = (refl, refl);
        behind = record {
          said = penalty;
          front = decimal penalty ++ 10 ∷ [];
          rest = lines ++ closing_text form;
          parts = sym (append_assoc (decimal penalty) (10 ∷ []) (lines ++ closing_text form));
          first = (below, refl);
          behind = record {
            said = lines;
            front = lines;
            rest = closing_text form;
            parts = refl;
            first = (refl, are-lines lines canonical);
            behind = (refl, refl);
          };
        };
      };
    }

    -- ---- no text begins another one, and each goes on

    pub lines_row-plain : (penalty : ℕ) → Plain (LinesRow ex form penalty)
    lines_row-plain penalty =
        then-plain (Itself (SingLines ex (free_voices ex)))
        (λ lines. Fixed (saying form (Some penalty) lines) (closing_text form)) itself-plain
        (λ lines. fixed-plain (saying form (Some penalty) lines) (closing_text form))

    pub number-plain : Plain (NumberRow ex form)
    number-plain = then-plain NumberLine (LinesRow ex form) numbers-plain lines_row-plain

    pub kind-plain : (best : Bool) → Plain (KindRow ex form best)
    kind-plain true =
        then-plain (Literal (codes "est ")) (λ _. NumberRow ex form) (fixed-plain (tt {0}) (codes "est "))
        (λ _. number-plain)
    kind-plain false = fixed-plain (saying form None []) (none_rest form)

    pub kinds-plain : Plain (KindsRow ex form)
    kinds-plain =
        then-plain (OneByte IsKind) (λ byte. KindRow ex form (byte == 98)) (byte-plain IsKind 110 (inr refl))
        (λ byte. kind-plain (byte == 98))

    pub feed-plain : Plain (FeedRow ex form)
    feed-plain =
        then-plain (Literal feed_text) (λ _. KindsRow ex form) (fixed-plain (tt {0}) feed_text) (λ _. kinds-plain)

  -- ---- the forms up to one

  module _ (last : Form) where
    pub form-plain : Plain (FormRow ex last)
    form-plain = then-plain (FormDigit last) (FeedRow ex) (digit-plain last) feed-plain

    head-plain : Plain (HeadRow ex last)
    head-plain =
        then-plain (Literal name_text) (λ _. FormRow ex last) (fixed-plain (tt {0}) name_text) (λ _. form-plain)

    -- ---- the row of a head

    pub row-says : (said : HeadSaid) (text : List ℕ) → HeadRow ex last said text
        → IsUpTo last said.form × Says ex said text
    row-says said text row =
        let digit = row.behind in
        let feed = digit.behind in
        let form = digit.said in
        let parts : text ≡ opening_text form ++ feed.rest =
        row.parts ∙ ap (λ w. w ++ row.rest) row.first.1
        ∙ ap (λ w. name_text ++ w) (digit.parts ∙ ap (λ w. w ++ digit.rest) digit.first.1
        ∙ ap (λ w. form_byte form ∷ w) (feed.parts ∙ ap (λ w. w ++ feed.rest) feed.first.1)) in
        let says = kinds-say form said feed.rest feed.behind in (
          subst (IsUpTo last) (sym says.0) digit.first.0,
          subst (Says ex said) (sym parts) says.1,
        )

    headed : (form : Form) → IsUpTo last form → (said : HeadSaid) (rest : List ℕ) → KindsRow ex form said rest
        → HeadRow ex last said (opening_text form ++ rest)
    headed form among said rest kinds = record {
      said = tt;
      front = name_text;
      rest = form_byte form ∷ 10 ∷ rest;
      parts = refl;
      first = (refl, refl);
      behind = record {
        said = form;
        front = form_byte form ∷ [];
        rest = 10 ∷ rest;
        parts = refl;
        first = (among, refl);
        behind = record {
          said = tt;
          front = feed_text;
          rest = rest;
          parts = refl;
          first = (refl, refl);
          behind = kinds;
        };
      };
    }

    pub row-of_text : (form : Form) → IsUpTo last form → (text : List ℕ) (penalty : Option ℕ)
        → IsHeadText ex form text penalty → (lines : List ℕ) × HeadRow ex last (saying form penalty lines) text
    row-of_text form among text None is = (
      [],
      subst (HeadRow ex last (saying form None [])) (sym is)
          (headed form among (saying form None []) (110 ∷ none_rest form) (none-kind form)),
    )
    row-of_text form among text (Some penalty) is = (
      is.lines,
      subst (HeadRow ex last (saying form (Some penalty) is.lines)) (sym is.text)
          (headed form among (saying form (Some penalty) is.lines)
          (codes "best " ++ (decimal penalty ++ 10 ∷ (is.lines ++ closing_text form)))
          (some-kind form penalty is.lines is.below is.canonical)),
    )

    -- ---- where bytes stop being a head

    pub head-stops : (bytes : List ℕ) (left : ℕ) → Stops (HeadRow ex last) bytes left
        → (length bytes ≡ length bytes - left + left) × TextStops ex last bytes (length bytes - left)
    head-stops bytes left stop =
        let goes = goes-to (HeadRow ex last) head-plain.alone bytes left stop in (
          omega (arith, few-left (HeadRow ex last) head-plain.alone bytes left stop),
          record {
            within = goes.within;
            begins = let begun = goes.begins in
                let says = row-says begun.0 (take (length bytes - left) bytes ++ begun.1) begun.2 in
                record {
                  form = begun.0.form;
                  among = says.0;
                  penalty = begun.0.penalty;
                  rest = begun.1;
                  whole = says-is ex begun.0.form begun.0.penalty begun.0.lines
                      (take (length bytes - left) bytes ++ begun.1) says.1;
                };
            longest = λ n within begins.
                let row = row-of_text begins.form begins.among (take n bytes ++ begins.rest) begins.penalty begins.whole in
                goes.longest n within (saying begins.form begins.penalty row.0, begins.rest, row.1);
            unfinished = λ form among n penalty within text.
                let row = row-of_text form among (take n bytes) penalty text in
                goes.unfinished (saying form penalty row.0) n (record { within = within; text = row.1 });
          },
        )

    -- ---- what is read

    pub head-reads : (bytes rest : List ℕ) (form : Form) (penalty total : Option ℕ) (lines : List ℕ) → penalty ≡ total
        → Reads (HeadRow ex last) bytes (saying form penalty lines) rest
        → IsUpTo last form × SaysOf ex form total lines (take (length bytes - length rest) bytes)
    head-reads bytes rest form penalty total lines e (front, parts, row) =
        let says = row-says (saying form penalty lines) front row in (
          says.0,
          subst (λ p. SaysOf ex form p lines (take (length bytes - length rest) bytes)) e
              (subst (SaysOf ex form penalty lines) (sym (front-taken bytes front rest parts)) says.1),
        )

  -- one head at most stands at the front
  pub same-head : (bytes : List ℕ) (form other : Form) (n m : ℕ) (penalty total : Option ℕ) → n ≤ length bytes
      → m ≤ length bytes → IsHeadText ex form (take n bytes) penalty → IsHeadText ex other (take m bytes) total
      → (form ≡ other) × (n ≡ m) × (penalty ≡ total)
  same-head bytes form other n m penalty total within within' text text' =
      let one = row-of_text Third form tt (take n bytes) penalty text in
      let two = row-of_text Third other tt (take m bytes) total text' in
      let same = stands-one (HeadRow ex Third) (head-plain Third).alone bytes (saying form penalty one.0)
      (saying other total two.0) n m (record { within = within; text = one.1 })
      (record { within = within'; text = two.1 }) in
      (ap (λ (s : HeadSaid). s.form) same.0, same.1, ap (λ (s : HeadSaid). s.penalty) same.0)
