-- Certificates of the third form: a head, lists of prices, and claims, those of the prefixes in
-- preorder from the empty one; each price and each claim is true.
use Rattle.std.specs.Prelude.{◌≡◌, ◌≤◌, ℕ, ◌+◌, true, List, [], ◌∷◌, ◌++◌, Option, None, IsSomeAnd, option_map, slice_index}
use Rattle.std.specs.List.{AllByRecursion}
use Rattle.cert_text.specs.declared.answers.CertHead.{CertHead}
use Rattle.cert_text.specs.declared.claim.Claim.{Claim}
use Rattle.cert_text.specs.declared.claim.Claim.TheVariants.{Open, Broken, NoChain, Floor, TheScore}
use Rattle.cert_tree.specs.Trees.{IsCertifiedFrom, Tree}
use Rattle.cert_law.specs.Certificates.{Holds, IsHeadSound, is_open}
use Rattle.cert_law.specs.Claims.{IsNoBetter, IsTrueOf, longer_prefixes}
use Rattle.fux_grid.specs.declared.cell.Cell.{Cell}
use Rattle.fux_grid.specs.declared.exercise.Exercise.{Exercise}
use Rattle.fux_grid.specs.Exercises.{IsValid}
use Rattle.fux_judge.specs.Lawful.{IsLawful}
use Rattle.fux_judge.specs.Penalties.{penalty_of}
use Rattle.penalty_sheet.specs.declared.sheet.Sheet.{Sheet}
use Rattle.priced_floors.specs.declared.charges.Charges.{Charges}
use Rattle.priced_floors.specs.Charges.{AreFairCharges, any_summit, prices_of}
use Rattle.price_check.specs.PriceLists.{PriceList, list_sum, sharp_floor, sharp_tail, spent_of}

-- a claim is true of a prefix by some lists: `x` where one of them has no sum, `f` where the floor
-- by them is no better than the head's setting; the others are those of the other forms
abbrev pub IsSharpTrueOf : Exercise → Sheet → CertHead → List PriceList → List (List Cell) → Claim → Type 0
IsSharpTrueOf ex sheet head lists p Open = IsTrueOf ex sheet head None p Open
IsSharpTrueOf ex sheet head lists p (Broken rule) = IsTrueOf ex sheet head None p (Broken rule)
IsSharpTrueOf ex sheet head lists p NoChain = sharp_floor ex sheet lists p ≡ None
IsSharpTrueOf ex sheet head lists p Floor = IsSomeAnd (sharp_floor ex sheet lists p) (IsNoBetter head p)
IsSharpTrueOf ex sheet head lists p TheScore = IsTrueOf ex sheet head None p TheScore

-- the prefixes, with the claims of them, by some lists
abbrev pub sharp_tree : Exercise → Sheet → CertHead → List PriceList → Tree (List (List Cell)) Claim
sharp_tree ex sheet head lists =
    record { IsTrueOf = IsSharpTrueOf ex sheet head lists; is_open = is_open; longer = longer_prefixes ex }

-- no note is charged, and no case is told apart
pub record ChargesNothing (charges : Charges) : Type 0 where
  pub strikes : (case v place : ℕ) → slice_index (prices_of charges case v).strikes place ≡ 0
  pub cases : charges.summits.items ≡ any_summit ∷ []

-- what a list charges is due, and a plain one charges nothing
pub record IsFairList (sheet : Sheet) (list : PriceList) : Type 0 where
  pub fair : AreFairCharges list.charges sheet
  pub nothing : list.plain ≡ true → ChargesNothing list.charges

-- a valid certificate of the third form
pub record IsSharpCertificate (ex : Exercise) (sheet : Sheet) (head : CertHead) (lists : List PriceList)
    (claims : List Claim) : Type 0
  where
    pub sound : IsHeadSound ex sheet head
    pub fair : AllByRecursion (IsFairList sheet) lists
    pub certified : IsCertifiedFrom (sharp_tree ex sheet head lists) [] claims

-- ---- laws

-- no lawful setting that goes on from a prefix costs less than the sum, and where there is none no
-- lawful setting goes on
abbrev pub IsFloorOf : Exercise → Sheet → (List (List Cell) → Option ℕ) → Type 0
IsFloorOf ex sheet sum =
    (p rest : List (List Cell)) → IsLawful ex (p ++ rest)
    → IsSomeAnd (sum p) (λ floor. floor ≤ penalty_of ex sheet (p ++ rest))

-- a list whose charges are due has such sums, and lists of that kind have such floors
abbrev pub ListsGiveFloors : Type 0
ListsGiveFloors = (ex : Exercise) (sheet : Sheet) (list : PriceList) → IsValid ex → IsFairList sheet list
    → IsFloorOf ex sheet (list_sum ex sheet list)

abbrev pub SharpFloorsHold : Type 0
SharpFloorsHold = (ex : Exercise) (sheet : Sheet) (lists : List PriceList) → IsValid ex
    → AllByRecursion (IsFairList sheet) lists → IsFloorOf ex sheet (sharp_floor ex sheet lists)

-- what is spent of a prefix is with its tail its floor, where it has one
abbrev pub TailsGiveFloors : Type 0
TailsGiveFloors = (ex : Exercise) (sheet : Sheet) (lists : List PriceList) (p : List (List Cell))
    → option_map (λ tail. spent_of ex sheet p + tail) (sharp_tail ex sheet lists p) ≡ sharp_floor ex sheet lists p

-- what the head of a valid certificate says holds
abbrev pub SharpCertificatesHold : Type 0
SharpCertificatesHold = (ex : Exercise) (sheet : Sheet) (head : CertHead) (lists : List PriceList) (claims : List Claim)
    → IsValid ex → IsSharpCertificate ex sheet head lists claims → Holds ex sheet head
