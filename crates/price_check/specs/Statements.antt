-- Claims by the lists that lines state, and when one of these keeps too much for a web.
use Rattle.std.specs.Prelude.{◌≡◌, ℕ, List, Some, slice_get}
use Rattle.cert_text.specs.declared.answers.CertHead.{CertHead}
use Rattle.cert_text.specs.declared.claim.Claim.{Claim}
use Rattle.cert_tree.specs.Trees.{Tree}
use Rattle.cert_law.specs.Certificates.{is_open}
use Rattle.cert_law.specs.Claims.{longer_prefixes}
use Rattle.fux_grid.specs.declared.cell.Cell.{Cell}
use Rattle.fux_grid.specs.declared.exercise.Exercise.{Exercise}
use Rattle.open_ends.specs.Choices.{keeps_of}
use Rattle.open_ends.specs.declared.keeps.Keeps.{Keeps}
use Rattle.penalty_sheet.specs.declared.sheet.Sheet.{Sheet}
use Rattle.price_check.specs.Woven.{IsLargeWeb}
use Rattle.price_check.specs.Certificates.{IsSharpTrueOf}
use Rattle.price_check.specs.PriceLists.{PriceList}
use Rattle.price_check.specs.Stated.{AreStated, StatedList, lists_of}
use Rattle.price_check.specs.PriceLines.{Line}

-- a claim is true of a prefix by the lists that lines state
pub record IsStatedTrueOf (ex : Exercise) (sheet : Sheet) (head : CertHead) (lines : List Line) (p : List (List Cell))
    (claim : Claim) : Type 0 where
  pub lists : List PriceList
  pub stated : AreStated sheet lines lists
  pub holds : IsSharpTrueOf ex sheet head lists p claim

-- the prefixes, with the claims of them, by the lists that lines state
abbrev pub stated_tree : Exercise → Sheet → CertHead → List Line → Tree (List (List Cell)) Claim
stated_tree ex sheet head lines =
    record { IsTrueOf = IsStatedTrueOf ex sheet head lines; is_open = is_open; longer = longer_prefixes ex }

-- what a list that is stated keeps
abbrev pub kept_by : StatedList → Keeps
kept_by stated = keeps_of stated.turns stated.runs

-- one of the lists that lines state keeps too much for a web
pub record HasLargeStated (ex : Exercise) (sheet : Sheet) (lines : List Line) : Type 0 where
  pub place : ℕ
  pub stated : StatedList
  pub there : slice_get (lists_of lines) place ≡ Some stated
  pub large : IsLargeWeb ex sheet (kept_by stated)
