-- True claims by lists exclude what refutes a sound head (`sharp_excludes`), so the head of a valid
-- certificate holds (`sharp_certificate_holds`).
use Rattle.std.proofs.Common.{◌≡◌, inl, inr, ℕ, ◌+◌, ◌≤◌, true, false, List, [], ◌++◌, Option, Some, None, subst, arith, append-nil}
use Rattle.std.specs.Prelude.{IsSomeAnd}
use Rattle.cert_text.specs.declared.answers.CertHead.{CertHead}
use Rattle.cert_text.specs.declared.answers.CertHead.TheVariants.{Best, Nothing}
use Rattle.cert_text.specs.declared.claim.Claim.{Claim}
use Rattle.cert_text.specs.declared.claim.Claim.TheVariants.{Open, Broken, NoChain, Floor, TheScore}
use Rattle.cert_tree.specs.Trees.{Excludes, IsBegunByOne}
use Rattle.cert_tree.proofs.Shown.{none_refutes_from}
use Rattle.cert_law.specs.Certificates.{Begins, Holds, IsBetter, IsHeadSound, Refutes, is_open, tree_of}
use Rattle.cert_law.specs.Claims.{IsNoBetter, longer_prefixes}
use Rattle.cert_law.specs.WayLaws.{empty_begins}
use Rattle.cert_law.proofs.TailFacts.{tails_hold}
use Rattle.cert_law.proofs.Valid.{excludes_refuting, unrefuted_holds}
use Rattle.fux_grid.specs.declared.cell.Cell.{Cell}
use Rattle.fux_grid.specs.declared.exercise.Exercise.{Exercise}
use Rattle.fux_grid.specs.Exercises.{IsValid}
use Rattle.fux_grid.specs.Grid.{Grid}
use Rattle.fux_grid.specs.Order.{IsEarlier}
use Rattle.fux_grid.proofs.OrderLemmas.{earlier-append, earlier-chained, earlier-itself}
use Rattle.fux_judge.specs.Lawful.{IsLawful}
use Rattle.fux_judge.specs.Penalties.{penalty_of}
use Rattle.penalty_sheet.specs.declared.sheet.Sheet.{Sheet}
use Rattle.price_check.specs.Certificates.{IsFloorOf, IsSharpCertificate, IsSharpTrueOf, sharp_tree}
use Rattle.price_check.specs.PriceLists.{PriceList, sharp_floor}
use Rattle.price_check.proofs.ListSums.{sharp_floors}

module _ (ex : Exercise) (valid : IsValid ex) (sheet : Sheet) (lists : List PriceList)
    (floors : IsFloorOf ex sheet (sharp_floor ex sheet lists)) where
  -- true claims of the first form exclude what refutes
  others : (head : CertHead) → IsHeadSound ex sheet head
      → Excludes (tree_of ex sheet head None) Begins (Refutes ex sheet head)
  others = excludes_refuting ex sheet valid.most_voices None (tails_hold ex valid sheet None tt)

  -- nothing better goes on from a prefix whose floor is no better
  none_by_floor : (penalty : ℕ) (score : Grid) (p rest : List (List Cell)) (floor : Option ℕ)
      → IsSomeAnd floor (λ f. f ≤ penalty_of ex sheet (p ++ rest)) → IsSomeAnd floor (IsNoBetter (Best penalty score) p)
      → IsBetter ex sheet (Best penalty score) (p ++ rest) → ⊥
  none_by_floor penalty score p rest None low no_better better = low
  none_by_floor penalty score p rest (Some f) low (inl above) (inl less) = omega arith
  none_by_floor penalty score p rest (Some f) low (inl above) (inr same) = omega (arith, same.0)
  none_by_floor penalty score p rest (Some f) low (inr later) (inl less) = omega (arith, later.0)
  none_by_floor penalty score p rest (Some f) low (inr later) (inr same) =
      let after : IsEarlier score.columns (p ++ rest) = subst (λ (s : List (List Cell)). IsEarlier s (p ++ rest))
      (append-nil score.columns) (earlier-append score.columns p [] rest later.1) in
      earlier-itself score.columns (earlier-chained score.columns (p ++ rest) score.columns after same.1)

  by_floor : (head : CertHead) (p rest : List (List Cell)) (floor : Option ℕ)
      → IsSomeAnd floor (λ f. f ≤ penalty_of ex sheet (p ++ rest)) → IsBetter ex sheet head (p ++ rest)
      → IsSomeAnd floor (IsNoBetter head p) → ⊥
  by_floor Nothing p rest None low better h = h
  by_floor Nothing p rest (Some f) low better h = h
  by_floor (Best penalty score) p rest floor low better h = none_by_floor penalty score p rest floor low h better

  -- a prefix without a floor begins no lawful setting
  no_floor : (floor : Option ℕ) (Is : ℕ → Type 0) → IsSomeAnd floor Is → floor ≡ None → ⊥
  no_floor None Is h e = h
  no_floor (Some f) Is h e = cc

  module _ (head : CertHead) (sound : IsHeadSound ex sheet head) where
    goes_on : (p : List (List Cell)) (claim : Claim) (s : List (List Cell)) → is_open claim ≡ true
        → IsSharpTrueOf ex sheet head lists p claim → Refutes ex sheet head s → Begins p s
        → IsBegunByOne Begins (longer_prefixes ex p) s
    goes_on p Open s e holds refutes begins = (others head sound).open_goes_on p Open s e holds refutes begins
    goes_on p (Broken rule) s e holds refutes begins = cc
    goes_on p NoChain s e holds refutes begins = cc
    goes_on p Floor s e holds refutes begins = cc
    goes_on p TheScore s e holds refutes begins = cc

    ends : (p : List (List Cell)) (claim : Claim) (s : List (List Cell)) → is_open claim ≡ false
        → IsSharpTrueOf ex sheet head lists p claim → Refutes ex sheet head s → Begins p s → ⊥
    ends p Open s e holds refutes begins = cc
    ends p (Broken rule) s e holds refutes begins =
        (others head sound).closed_ends p (Broken rule) s e holds refutes begins
    ends p NoChain s e holds refutes begins =
        no_floor (sharp_floor ex sheet lists p) _ (floors p begins.rest
        (subst (λ (q : List (List Cell)). IsLawful ex q) begins.is refutes.lawful)) holds
    ends p Floor s e holds refutes begins =
        by_floor head p begins.rest (sharp_floor ex sheet lists p)
        (floors p begins.rest (subst (λ (q : List (List Cell)). IsLawful ex q) begins.is refutes.lawful))
        (subst (λ (q : List (List Cell)). IsBetter ex sheet head q) begins.is refutes.better) holds
    ends p TheScore s e holds refutes begins = (others head sound).closed_ends p TheScore s e holds refutes begins

    pub sharp_excludes : Excludes (sharp_tree ex sheet head lists) Begins (Refutes ex sheet head)
    sharp_excludes = record { open_goes_on = goes_on; closed_ends = ends }

pub sharp_certificate_holds : (ex : Exercise) (sheet : Sheet) (head : CertHead) (lists : List PriceList)
    (claims : List Claim) → IsValid ex → IsSharpCertificate ex sheet head lists claims → Holds ex sheet head
sharp_certificate_holds ex sheet head lists claims valid its =
    unrefuted_holds ex sheet valid.most_voices None (tails_hold ex valid sheet None tt) head its.sound
    (none_refutes_from (sharp_tree ex sheet head lists) Begins (Refutes ex sheet head)
    (sharp_excludes ex valid sheet lists (sharp_floors ex sheet lists valid its.fair) head its.sound) [] claims its.certified
    empty_begins)
