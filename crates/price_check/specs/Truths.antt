-- What is told of claims by a tail serves certificates of the third form too.
use Rattle.std.specs.Prelude.{◌≡◌, ◌↔◌, Bool, false, IsTrue, List, if◌then◌else◌, is_none}
use Rattle.std.specs.Option.{option_map_or}
use Rattle.cert_law.specs.declared.judged.Judged.{Judged}
use Rattle.cert_law.specs.Cases.{Matter}
use Rattle.cert_law.specs.Prefixes.{IsJudged}
use Rattle.cert_law.specs.Truths.{IsFirstClaim, TellsTruth}
use Rattle.cert_law.specs.Writer.{is_no_better, is_setting_of, least_break}
use Rattle.cert_text.specs.declared.answers.CertHead.{CertHead}
use Rattle.cert_text.specs.declared.claim.Claim.{Claim}
use Rattle.cert_text.specs.declared.claim.Claim.TheVariants.{Open, Broken, NoChain, Floor, TheScore}
use Rattle.fux_grid.specs.declared.cell.Cell.{Cell}
use Rattle.fux_grid.specs.declared.exercise.Exercise.{Exercise}
use Rattle.penalty_sheet.specs.declared.sheet.Sheet.{Sheet}
use Rattle.price_check.specs.Certificates.{IsSharpTrueOf}
use Rattle.price_check.specs.PriceLists.{PriceList, sharp_floor, sharp_tail}

-- what tells whether a claim is true by the tail that lists give a prefix tells whether it is true by
-- the lists
abbrev pub TailsTellTruth : Type 0
TailsTellTruth = (t : Matter) (lists : List PriceList) (judged : Judged) (claim : Claim) (result : Bool) (p : List (List Cell))
    → IsJudged t p judged → TellsTruth t judged (sharp_tail t.exercise t.sheet lists p) claim result
    → IsTrue result ↔ IsSharpTrueOf t.exercise t.sheet t.head lists p claim

-- the first claim that is true of a prefix, by some lists: as that of the other forms, where the
-- floor is by the lists
abbrev pub sharp_unbroken : Exercise → Sheet → CertHead → List PriceList → List (List Cell) → Claim
sharp_unbroken ex sheet head lists p =
    if is_none (sharp_floor ex sheet lists p) then NoChain
    else (if option_map_or (is_no_better head p) (sharp_floor ex sheet lists p) false then Floor else Open)

abbrev pub sharp_first_claim : Exercise → Sheet → CertHead → List PriceList → List (List Cell) → Claim
sharp_first_claim ex sheet head lists p =
    if is_setting_of head p then TheScore
    else option_map_or Broken (least_break ex p) (sharp_unbroken ex sheet head lists p)

-- what is the first claim by the tail that lists give a prefix is the first one by the lists
abbrev pub TailsTellFirst : Type 0
TailsTellFirst = (t : Matter) (lists : List PriceList) (judged : Judged) (claim : Claim) (p : List (List Cell))
    → IsJudged t p judged → IsFirstClaim t judged (sharp_tail t.exercise t.sheet lists p) claim
    → claim ≡ sharp_first_claim t.exercise t.sheet t.head lists p
