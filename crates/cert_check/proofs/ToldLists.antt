-- What is told behind a head of the third form, of lists that stop, of the head or of the first
-- price that isn't due, is told once (`one_priced`); lists that stand there are read (`listed`).
use Rattle.std.proofs.Common.{◌≡◌, ℕ, ◌+◌, ◌-◌, ◌≤◌, ◌⊎◌, inl, inr, List, ◌++◌, Option, None, Some, Result, Ok, Err, length, take, drop, sym, ap, subst, ◌∙◌, arith, append_assoc, length-append}
use Rattle.std.specs.Io.{StartsWith}
use Rattle.std.proofs.lemmas.List.{append_cancel_left, take-append-drop, take-take}
use Rattle.std.proofs.Math.Seq.{take-append_seam}
use Rattle.cert_check.specs.Settings.{HasHigh, HasLists, ListsStop}
use Rattle.cert_check.proofs.StartLemmas.{at_front}
use Rattle.cert_file.specs.Readings.{longest_piece}
use Rattle.cert_file.specs.declared.verdict.Verdict.{Verdict}
use Rattle.cert_file.specs.declared.verdict.Verdict.TheVariants as verdicts
use Rattle.cert_law.specs.Certificates.{IsHeadSound}
use Rattle.cert_text.specs.declared.answers.CertFault.TheVariants.{CertHead as WrongHead}
use Rattle.cert_text.specs.declared.answers.CertHead.{CertHead}
use Rattle.cert_text.specs.declared.answers.Form.TheVariants.{Third}
use Rattle.cert_text.specs.declared.answers.Why.TheVariants.{Head, Price}
use Rattle.cert_text.specs.HeadTexts.{Heads}
use Rattle.cert_text.proofs.HeadBacks.{heads_are_one}
use Rattle.fux_grid.specs.declared.exercise.Exercise.{Exercise}
use Rattle.fux_grid.specs.Exercises.{IsValid}
use Rattle.penalty_sheet.specs.declared.sheet.Sheet.{Sheet}
use Rattle.price_check.specs.Stated.{first_high}
use Rattle.price_check.specs.Lists.{AreLists, lists_in, lists_text, most_lines}
use Rattle.price_check.specs.PriceLines.{Line}
use Rattle.price_check.proofs.WholeLists.{lists_are_read}

-- what stands at the front of bytes, by its length
pub front_of : (bytes xs ys : List ℕ) → bytes ≡ xs ++ ys → take (length xs) bytes ≡ xs
front_of bytes xs ys are = ap (λ zs. take (length xs) zs) are ∙ take-append_seam xs ys

-- ---- lists

ok_same : (read other : Result (List Line × List ℕ) ℕ) (a b : List Line × List ℕ) → read ≡ Ok a → other ≡ Ok b
    → read ≡ other → a ≡ b
ok_same read other a b is also e = cc

-- lists read one way only
pub same_lists : (ex : Exercise) (lines others : List Line) (xs ys : List ℕ) → ex.voices ≤ 4 → AreLists ex lines
    → AreLists ex others → length (lists_text lines) ≤ most_lines → length (lists_text others) ≤ most_lines
    → lists_text lines ++ xs ≡ lists_text others ++ ys → lines ≡ others
same_lists ex lines others xs ys few f g small also e =
    let one = lists_are_read ex lines xs few f small in
    let other = lists_are_read ex others ys few g also in
    let same = ok_same (lists_in ex (lists_text lines ++ xs)) (lists_in ex (lists_text others ++ ys)) (lines, xs) (others, ys)
    one other (ap (lists_in ex) e) in
    ap (λ (x : List Line × List ℕ). x.0) same

-- the text of lists that stand with a head in one piece is short
pub short_lists : (lines : List Line) (front bytes : List ℕ) → bytes ≡ front ++ lists_text lines
    → length bytes ≤ longest_piece → length (lists_text lines) ≤ most_lines
short_lists lines front bytes is short = omega (arith, ap length is, length-append front (lists_text lines), short)

module _ (ex : Exercise) (sheet : Sheet) (bytes : List ℕ) where
  abbrev price_told : Option ℕ → Option Verdict
  price_told None = None
  price_told (Some before) = Some (verdicts.Claim (record { number = before + 1; why = Price }))

  -- what is told of the head and the prices, in front of claims
  abbrev IsFrontTold : CertHead → List Line → Option Verdict → Type 0
  IsFrontTold head lines it =
      ((IsHeadSound ex sheet head → ⊥) × (it ≡ Some (verdicts.Claim (record { number = 0; why = Head }))))
      ⊎ (IsHeadSound ex sheet head × (it ≡ price_told (first_high sheet lines)))

  -- what is told of lists that are read up to an end
  abbrev TellsLists : CertHead → ℕ → Result (List Line × List ℕ) ℕ → Option Verdict → Type 0
  TellsLists head end (Err left) it = it ≡ Some (verdicts.Text (WrongHead (end - left)))
  TellsLists head end (Ok found) it = IsFrontTold head found.0 it

  -- what is told behind a head of the third form
  pub record IsPriced (it : Option Verdict) (head : CertHead) : Type 0 where
    pub front : List ℕ
    pub heads : Heads ex Third front head (length front)
    pub rest : List ℕ
    pub is : take longest_piece bytes ≡ front ++ rest
    pub told : TellsLists head (length front + length rest) (lists_in ex rest) it

  -- ---- each of the ways

  pub of_stop : (at : ℕ) (it : ListsStop ex bytes at) → IsPriced (Some (verdicts.Text (WrongHead at))) it.head
  of_stop at it = record {
    front = it.front;
    heads = it.heads;
    rest = it.rest;
    is = it.is;
    told =
        subst (λ r. TellsLists it.head (length it.front + length it.rest) r (Some (verdicts.Text (WrongHead at))))
        (sym it.stop) (ap (λ n. Some (verdicts.Text (WrongHead n))) it.place);
  }

  -- what stands at the front of the first piece
  pub piece_of : (opening : List ℕ) → length opening ≤ longest_piece → StartsWith bytes opening
      → take longest_piece bytes ≡ opening ++ drop (length opening) (take longest_piece bytes)
  piece_of opening short begins =
      let piece = take longest_piece bytes in
      sym (take-append-drop (length opening) piece)
      ∙ ap (λ xs. xs ++ drop (length opening) piece)
      (take-take (length opening) longest_piece bytes short ∙ begins)

  module _ (valid : IsValid ex) where
    pub listed : (head : CertHead) (it : Option Verdict) (lists : HasLists ex head bytes)
        → IsFrontTold head lists.lines it → IsPriced it head
    listed head it lists told =
        let opens = lists.opens in
        let text = lists_text lists.lines in
        let later = drop (length lists.opening) (take longest_piece bytes) in
        let small = short_lists lists.lines opens.front lists.opening opens.is opens.short in
        record {
          front = opens.front;
          heads = opens.heads;
          rest = text ++ later;
          is = piece_of lists.opening opens.short lists.begins ∙ ap (λ xs. xs ++ later) opens.is
              ∙ append_assoc opens.front text later;
          told =
              subst (λ r. TellsLists head (length opens.front + length (text ++ later)) r it)
              (sym (lists_are_read ex lists.lines later valid.most_voices opens.fits small)) told;
        }

    pub of_unsound : (head : CertHead) (number : ℕ) → number ≡ 0 → HasLists ex head bytes
        → (IsHeadSound ex sheet head → ⊥)
        → IsPriced (Some (verdicts.Claim (record { number = number; why = Head }))) head
    of_unsound head number numbered lists unsound =
        listed head (Some (verdicts.Claim (record { number = number; why = Head }))) lists
        (inl (unsound, ap (λ n. Some (verdicts.Claim (record { number = n; why = Head }))) numbered))

    pub of_high : (head : CertHead) (number : ℕ) → HasHigh ex sheet head number bytes
        → IsPriced (Some (verdicts.Claim (record { number = number; why = Price }))) head
    of_high head number it =
        listed head (Some (verdicts.Claim (record { number = number; why = Price }))) it.lists
        (inr (
          it.sound,
          ap (λ n. Some (verdicts.Claim (record { number = n; why = Price }))) it.numbered ∙ sym (ap price_told it.first),
        ))

    -- behind a sound head and prices that are due nothing is refused
    pub of_due : (head : CertHead) (lists : HasLists ex head bytes) → IsHeadSound ex sheet head
        → first_high sheet lists.lines ≡ None → IsPriced None head
    of_due head lists sound due = listed head None lists (inr (sound, sym (ap price_told due)))

    -- ---- it is told once

    pub stands_priced : (head : CertHead) (it : Option Verdict) (p : IsPriced it head)
        → Heads ex Third bytes head (length p.front)
    stands_priced head it p =
        let later = drop longest_piece bytes in
        at_front ex Third head bytes p.front (p.rest ++ later)
        (sym (take-append-drop longest_piece bytes) ∙ ap (λ xs. xs ++ later) p.is ∙ append_assoc p.front p.rest later)
        p.heads

    one_front_told : (head : CertHead) (lines : List Line) (it other : Option Verdict) → IsFrontTold head lines it
        → IsFrontTold head lines other → it ≡ other
    one_front_told head lines it other (inl p) (inl q) = p.1 ∙ sym q.1
    one_front_told head lines it other (inl p) (inr q) = absurd (p.0 q.0)
    one_front_told head lines it other (inr p) (inl q) = absurd (q.0 p.0)
    one_front_told head lines it other (inr p) (inr q) = p.1 ∙ sym q.1

    one_told : (head : CertHead) (end : ℕ) (read : Result (List Line × List ℕ) ℕ) (it other : Option Verdict)
        → TellsLists head end read it → TellsLists head end read other → it ≡ other
    one_told head end (Err left) it other p q = p ∙ sym q
    one_told head end (Ok found) it other p q = one_front_told head found.0 it other p q

    pub one_priced : (head other : CertHead) (it its : Option Verdict) → IsPriced it head → IsPriced its other → it ≡ its
    one_priced head other it its p q =
        one_told head (length p.front + length p.rest) (lists_in ex p.rest) it its p.told
        (subst (λ xs. TellsLists head (length p.front + length xs) (lists_in ex xs) its) (sym rests)
        (subst (λ (xs : List ℕ). TellsLists head (length xs + length q.rest) (lists_in ex q.rest) its) (sym fronts)
        (subst (λ (h : CertHead). TellsLists h (length q.front + length q.rest) (lists_in ex q.rest) its) (sym one.1) q.told)))
      where
        piece : List ℕ
        piece = take longest_piece bytes

        one : (Third ≡ Third) × (head ≡ other) × (length p.front ≡ length q.front)
        one = heads_are_one ex bytes Third Third head other (length p.front) (length q.front) valid
            (stands_priced head it p) (stands_priced other its q)

        fronts : p.front ≡ q.front
        fronts = sym (front_of piece p.front p.rest p.is) ∙ ap (λ n. take n piece) one.2
            ∙ front_of piece q.front q.rest q.is

        rests : p.rest ≡ q.rest
        rests = append_cancel_left p.front p.rest q.rest (sym p.is ∙ q.is ∙ ap (λ xs. xs ++ q.rest) (sym fronts))
