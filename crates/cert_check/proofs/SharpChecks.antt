-- What a checker by lists of prices stands on: true claims exclude what refutes, where prices are due
-- (`lists_exclude`), and where nothing refutes, the head holds (`sharp_holds`).
use Rattle.std.proofs.Common.{List, [], ◌∷◌, None}
use Rattle.std.specs.List.{AllByRecursion}
use Rattle.cert_check.specs.Settings.{Asked, IsSound, Lists, Opening}
use Rattle.cert_file.specs.Checking.{Checking}
use Rattle.cert_file.proofs.CheckingLemmas.{seen_at}
use Rattle.cert_law.specs.Cases.{IsCase}
use Rattle.cert_law.specs.Certificates.{Begins, Holds, Refutes}
use Rattle.cert_law.specs.Rests.{HasSmallWeights}
use Rattle.cert_law.proofs.TailFacts.{tails_hold}
use Rattle.cert_law.proofs.Valid.{unrefuted_holds}
use Rattle.cert_tree.specs.Judgings.{Standing}
use Rattle.cert_tree.specs.Trees.{Excludes}
use Rattle.fux_grid.specs.declared.cell.Cell.{Cell}
use Rattle.penalty_sheet.specs.declared.sheet.Sheet.{Sheet}
use Rattle.price_check.specs.Sharps.{ExcludesRefuting, RefutesExcluded, Sharp}
use Rattle.price_check.specs.Certificates.{IsFairList, sharp_tree}
use Rattle.price_check.specs.PriceLists.{PriceList}
use Rattle.price_check.proofs.Excluded.{sharp_excludes}
use Rattle.price_check.proofs.ListSums.{sharp_floors}
use Rattle.price_check.specs.Owned.{AreKeys, IsFit}
use Rattle.price_check.specs.Stated.{AreDue, AreStated}
use Rattle.price_check.proofs.Fit.{lists_fit}

-- lists that fit their purpose charge what is due
fair_each : (sheet : Sheet) (lists : List PriceList) → AllByRecursion (IsFit sheet) lists
    → AllByRecursion (IsFairList sheet) lists
fair_each sheet [] all = tt
fair_each sheet (list ∷ lists) all = (all.0.fair, fair_each sheet lists all.1)

module _ (s : Sharp) (case : IsCase s.case) where
  module _ (small : HasSmallWeights s.case.sheet) (keys : AllByRecursion AreKeys s.lines)
      (due : AreDue s.case.sheet s.lines) where
    by_lists : (lists : List PriceList) → AreStated s.case.sheet s.lines lists
        → Excludes (sharp_tree s.case.exercise s.case.sheet s.case.head lists) Begins
        (Refutes s.case.exercise s.case.sheet s.case.head)
    by_lists lists stated =
        let fair = fair_each s.case.sheet lists (lists_fit s.case.sheet s.lines lists small keys due stated) in
        sharp_excludes s.case.exercise case.valid s.case.sheet lists
        (sharp_floors s.case.exercise s.case.sheet lists case.valid fair) s.case.head case.sound

    pub lists_exclude : ExcludesRefuting s
    lists_exclude = record {
      open_goes_on = λ p claim t e holds refutes begins.
          (by_lists holds.lists holds.stated).open_goes_on p claim t e holds.holds refutes begins;
      closed_ends = λ p claim t e holds refutes begins.
          (by_lists holds.lists holds.stated).closed_ends p claim t e holds.holds refutes begins;
    }

  -- where nothing refutes, the head holds
  pub sharp_holds : ExcludesRefuting s → ((t : List (List Cell)) → RefutesExcluded s t → ⊥)
      → Holds s.case.exercise s.case.sheet s.case.head
  sharp_holds excluded none =
      unrefuted_holds s.case.exercise s.case.sheet case.valid.most_voices None
      (tails_hold s.case.exercise case.valid s.case.sheet None tt) s.case.head case.sound
      (λ t refutes. none t record { excluded = excluded; refutes = refutes })

-- what is asked, and what stands in front of the claims
abbrev pub sharp_asked : Sharp → Asked
sharp_asked s = record { exercise = s.case.exercise; sheet = s.case.sheet }

abbrev pub sharp_opening : Sharp → Opening
sharp_opening s = record { head = s.case.head; stated = Lists s.lines }

-- it is sound
pub sharp_sound : (s : Sharp) → IsCase s.case → AreDue s.case.sheet s.lines
    → IsSound s.case.exercise s.case.sheet (sharp_opening s)
sharp_sound s case due = record { head = case.sound; stated = due }

abbrev pub sharp_seen : Sharp → Standing (List (List Cell)) → Checking Asked Opening (List (List Cell))
sharp_seen s = seen_at (sharp_asked s) (sharp_opening s)
