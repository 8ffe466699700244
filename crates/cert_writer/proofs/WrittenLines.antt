-- What is true by lists is true by the lines that state them (`of_lines`), each first claim has a line
-- (`own_fits`), and so what is written of a case with lists is a valid certificate (`is_certificate`).
use Rattle.std.proofs.Common.{◌≡◌, ℕ, zero, suc, ◌+◌, ◌≤◌, Bool, true, false, List, [], ◌∷◌, ◌++◌, Option, Some, None, if◌then◌else◌, length, refl, ap, arith}
use Rattle.std.specs.Prelude.{is_none}
use Rattle.std.specs.List.{AllByRecursion}
use Rattle.std.specs.Option.{option_map_or}
use Rattle.cert_text.specs.declared.answers.CertHead.{CertHead}
use Rattle.cert_text.specs.declared.answers.Form.TheVariants.{Third}
use Rattle.cert_text.specs.declared.claim.Claim.{Claim}
use Rattle.cert_text.specs.declared.claim.Claim.TheVariants.{Open, Broken, NoChain, Floor, TheScore}
use Rattle.cert_text.specs.Lines.{IsClaim}
use Rattle.cert_tree.proofs.OwnClaims.{written_from}
use Rattle.cert_tree.proofs.OwnClaims.{each_of}
use Rattle.cert_tree.specs.Trees.{AreTrueFrom, claims_from}
use Rattle.cert_law.proofs.PrefixTruths.{sound}
use Rattle.cert_law.specs.Cases.{Matter}
use Rattle.cert_law.specs.Certificates.{Holds}
use Rattle.cert_law.specs.Claims.{longer_prefixes}
use Rattle.cert_law.specs.Writer.{head_text, is_no_better, is_setting_of, least_break}
use Rattle.cert_writer.proofs.Fits.{break_named, named_from_test}
use Rattle.cert_file.proofs.Fits.{claims-fit}
use Rattle.cert_file.specs.Writing.{HaveLines, claim_lines}
use Rattle.fux_grid.specs.declared.cell.Cell.{Cell}
use Rattle.fux_grid.specs.declared.exercise.Exercise.{Exercise}
use Rattle.fux_grid.specs.Exercises.{IsValid, columns_in}
use Rattle.cert_writer.specs.Stating.{FitBehind}
use Rattle.penalty_sheet.specs.declared.sheet.Sheet.{Sheet}
use Rattle.price_check.specs.Sharps.{Sharp, lists_in, own_in, tree_in}
use Rattle.price_check.specs.Statements.{HasLargeStated, stated_tree}
use Rattle.price_check.specs.Certificates.{sharp_tree}
use Rattle.price_check.specs.PriceLists.{PriceList, sharp_floor}
use Rattle.price_check.specs.Truths.{sharp_first_claim, sharp_unbroken}
use Rattle.price_check.specs.Stated.{AreEachStated, AreStated, StatedList, lists_of}
use Rattle.price_check.proofs.WholeLists.{lists_few}
use Rattle.price_check.specs.declared.line.Before.{Before}
use Rattle.price_check.specs.Lists.{AreLinesOf, AreLists, lists_text}
use Rattle.price_check.specs.PriceLines.{Keeps, Cases, Price, Claims, Line, after, nothing_before}
use Rattle.cert_writer.proofs.Written.{all_true}
use Rattle.cert_writer.specs.Certificates.{IsPricedCertificateOf, with_claims}

-- ---- by the lists that lines state

module _ (ex : Exercise) (sheet : Sheet) (head : CertHead) (lines : List Line) (lists : List PriceList)
    (stated : AreStated sheet lines lists) (own : List (List Cell) → Claim) where
  -- what is true by lists is true by the lines that state them
  pub of_lines : (count : ℕ) (p : List (List Cell)) → AreTrueFrom (sharp_tree ex sheet head lists) own count p
      → AreTrueFrom (stated_tree ex sheet head lines) own count p
  of_lines zero p h = (record { lists = lists; stated = stated; holds = h.0 }, h.1)
  of_lines (suc count) p h = (
    record { lists = lists; stated = stated; holds = h.0 },
    λ e. each_of {P = AreTrueFrom (sharp_tree ex sheet head lists) own count}
        {Q = AreTrueFrom (stated_tree ex sheet head lines) own count} (longer_prefixes ex p) (of_lines count) (h.1 e),
  )

-- whole lists are eight at most
lists_within : (ex : Exercise) (before : Before) (lines : List Line) → AreLinesOf ex before lines → before.lists ≤ 8
    → before.lists + length (lists_of lines) ≤ 8
lists_within ex before [] are few = omega (arith, few)
lists_within ex before (Keeps turns runs ∷ lines) are few =
    let more = lists_within ex (after before (Keeps turns runs)) lines are.2
    (lists_few ex before (Keeps turns runs) are.0 few) in
    omega (arith, more)
lists_within ex before (Cases voice keys ∷ lines) are few =
    lists_within ex (after before (Cases voice keys)) lines are.2 few
lists_within ex before (Price case voice pitch number ∷ lines) are few =
    lists_within ex (after before (Price case voice pitch number)) lines are.2 few
lists_within ex before (Claims ∷ lines) are few = lists_within ex (after before Claims) lines are.2 few

each_stated : (sheet : Sheet) (stated : List StatedList) (lists : List PriceList) → AreEachStated sheet stated lists
    → length lists ≡ length stated
each_stated sheet [] [] are = refl
each_stated sheet [] (list ∷ lists) are = absurd are
each_stated sheet (one ∷ stated) [] are = absurd are
each_stated sheet (one ∷ stated) (list ∷ lists) are =
    let rest = each_stated sheet stated lists are.1 in omega (arith, rest)

pub eight_lists : (ex : Exercise) (sheet : Sheet) (lines : List Line) (lists : List PriceList) → AreLists ex lines
    → AreStated sheet lines lists → length lists ≤ 8
eight_lists ex sheet lines lists are stated =
    let same = each_stated sheet (lists_of lines) lists stated in
    let few = lists_within ex nothing_before lines are (omega arith) in
    omega (arith, same, few)

-- ---- each first claim has a line

module _ (t : Matter) (unmixed : t.exercise.mixed ≡ None) (lists : List PriceList) where
  own_fits : (p : List (List Cell)) → IsClaim (sharp_first_claim t.exercise t.sheet t.head lists p)
  own_fits p = setting (is_setting_of t.head p)
    where
      floor : (b : Bool) → IsClaim (if b then Floor else Open)
      floor true = (omega arith, omega arith)
      floor false = (omega arith, omega arith)

      chain : (o : Option ℕ) → IsClaim (if is_none o then NoChain
          else (if option_map_or (is_no_better t.head p) o false then Floor else Open))
      chain None = (omega arith, omega arith)
      chain (Some f) = floor (is_no_better t.head p f)

      rule : (o : Option ℕ) → least_break t.exercise p ≡ o
          → IsClaim (option_map_or Broken o (sharp_unbroken t.exercise t.sheet t.head lists p))
      rule (Some r) e = named_from_test r (break_named t unmixed p r e)
      rule None e = chain (sharp_floor t.exercise t.sheet lists p)

      setting : (b : Bool) → IsClaim (if b then TheScore
          else option_map_or Broken (least_break t.exercise p) (sharp_unbroken t.exercise t.sheet t.head lists p))
      setting true = (omega arith, omega arith)
      setting false = rule (least_break t.exercise p) refl

-- ---- a case with lists

module _ (s : Sharp) (valid : IsValid s.case.exercise) (unmixed : s.case.exercise.mixed ≡ None)
    (holds : Holds s.case.exercise s.case.sheet s.case.head) (stated : AreStated s.case.sheet s.lines (lists_in s)) where
  -- its own claims are true, and have lines
  pub own_told : AreTrueFrom (tree_in s) (own_in s) (columns_in s.case.exercise) []
  own_told =
      of_lines s.case.exercise s.case.sheet s.case.head s.lines (lists_in s) stated (own_in s) (columns_in s.case.exercise) []
      (all_true s.case.exercise valid s.case.sheet (lists_in s) s.case.head holds)

  pub own_lines : HaveLines (own_in s)
  own_lines = own_fits s.case unmixed (lists_in s)

  -- behind lists that may stand behind a head they are a valid certificate
  pub is_certificate : (text : List ℕ)
      → FitBehind s.case.exercise s.case.sheet (head_text s.case.exercise Third s.case.head) s.lines
      → (HasLargeStated s.case.exercise s.case.sheet s.lines → ⊥)
      → text ≡ head_text s.case.exercise Third s.case.head ++ lists_text s.lines
      → IsPricedCertificateOf s.case.exercise s.case.sheet s.case.head (with_claims text s)
  is_certificate text fit small told =
      let claims = claims_from (tree_in s) (own_in s) (columns_in s.case.exercise) [] in
      record {
        sound = sound s.case.exercise s.case.sheet s.case.head holds;
        lines = s.lines;
        fit = fit;
        small = small;
        claims = claims;
        have_lines = claims-fit (tree_in s) (own_in s) own_lines (columns_in s.case.exercise) [];
        certified = written_from (tree_in s) (own_in s) (columns_in s.case.exercise) [] own_told;
        written = ap (λ bs. bs ++ claim_lines claims) told;
      }
