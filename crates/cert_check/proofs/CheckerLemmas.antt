-- What a checker of certificates on settings answers and keeps: a claim that is taken (`taken_by`)
-- or refused (`refused_as`), and what is shown and certified where claims end (`head_holds`,
-- `certified_by`, `none_certified_by`).
use Rattle.std.proofs.Common.{◌≡◌, List, [], None, subst}
use Rattle.std.specs.Prelude.{IfSome}
use Rattle.cert_text.specs.declared.claim.Claim.{Claim}
use Rattle.cert_tree.specs.Judgings.{IsFedCertified, IsFedNone, Refuses as TreeRefuses, Standing, Takes as TreeTakes, standing_of}
use Rattle.cert_tree.specs.Trees.{OwesRefuting}
use Rattle.cert_tree.specs.declared.judging.Judging.{Judging}
use Rattle.cert_tree.specs.declared.judging.Refusal.{Refusal}
use Rattle.cert_file.specs.Checking.{Checking, IsFedCertificate, Refuses, Takes, refused_by}
use Rattle.cert_file.specs.Checking as checking
use Rattle.cert_file.proofs.CheckingLemmas.{certificate_seen, none_certified, refused_seen, seen_at, taken_seen}
use Rattle.cert_law.specs.Cases.{IsCase}
use Rattle.cert_law.specs.Certificates.{Begins, Holds, Refutes}
use Rattle.cert_law.specs.Entries.{AreTrueEntries}
use Rattle.cert_law.specs.Known.{Tailed, tree_in, ways_of}
use Rattle.cert_law.specs.WayLaws.{ExcludesRefuting, RefutesExcluded}
use Rattle.cert_law.specs.declared.known.PrefixKnown.{PrefixKnown}
use Rattle.cert_law.proofs.TailFacts.{tails_hold}
use Rattle.cert_law.proofs.Valid.{excludes_refuting, unrefuted_holds}
use Rattle.cert_check.specs.Settings.{Asked, IsSound, Numbers, Opening, setting_subject}
use Rattle.fux_grid.specs.declared.cell.Cell.{Cell}

-- true claims exclude what refutes a sound head, by tails that hold
pub are_excluded : (t : Tailed) → IsCase t.case → IfSome t.stated (AreTrueEntries t.case.exercise t.case.sheet)
    → ExcludesRefuting t
are_excluded t case entries =
    excludes_refuting t.case.exercise t.case.sheet case.valid.most_voices t.stated
    (tails_hold t.case.exercise case.valid t.case.sheet t.stated entries) t.case.head case.sound

pub owes_all : (t : Tailed) (owed : List (List (List Cell))) → ExcludesRefuting t
    → OwesRefuting Begins (RefutesExcluded t) owed
    → OwesRefuting Begins (Refutes t.case.exercise t.case.sheet t.case.head) owed
owes_all t owed excluded owes s refutes = owes s record { excluded = excluded; refutes = refutes }

-- where nothing refutes, the head holds
pub head_holds : (t : Tailed) → IsCase t.case → IfSome t.stated (AreTrueEntries t.case.exercise t.case.sheet)
    → ((s : List (List Cell)) → RefutesExcluded t s → ⊥) → Holds t.case.exercise t.case.sheet t.case.head
head_holds t case entries none =
    unrefuted_holds t.case.exercise t.case.sheet case.valid.most_voices t.stated
    (tails_hold t.case.exercise case.valid t.case.sheet t.stated entries) t.case.head case.sound
    (λ s refutes. none s record { excluded = are_excluded t case entries; refutes = refutes })

-- what is asked, and what stands in front of the claims
abbrev pub asked_of : Tailed → Asked
asked_of t = record { exercise = t.case.exercise; sheet = t.case.sheet }

abbrev pub opening_of : Tailed → Opening
opening_of t = record { head = t.case.head; stated = Numbers t.stated }

-- it is sound
pub opening_sound : (t : Tailed) → IsCase t.case → IfSome t.stated (AreTrueEntries t.case.exercise t.case.sheet)
    → IsSound t.case.exercise t.case.sheet (opening_of t)
opening_sound t case entries = record { head = case.sound; stated = entries }

module _ (tailed : Tailed) where
  abbrev asked : Asked
  asked = asked_of tailed

  abbrev opening : Opening
  opening = opening_of tailed

  abbrev pub seen : Standing (List (List Cell)) → Checking Asked Opening (List (List Cell))
  seen = seen_at asked opening

  -- where a checker's judge takes or refuses a claim, by the tree of a case that is this one
  pub taken_by : (x : Tailed) → x ≡ tailed → (old new : Judging PrefixKnown) (claim : Claim)
      (now : Checking Asked Opening (List (List Cell)))
      → seen (standing_of (ways_of tailed.case.exercise) old) ≡ now
      → (old.refusal ≡ None → TreeTakes (tree_in x) (standing_of (ways_of x.case.exercise) old) claim
      (standing_of (ways_of x.case.exercise) new))
      → now.refusal ≡ None
      → Takes (setting_subject now.asked) now claim (seen (standing_of (ways_of tailed.case.exercise) new))
  taken_by x is old new claim now same taken =
      taken_seen setting_subject asked opening (standing_of (ways_of tailed.case.exercise) old)
      (standing_of (ways_of tailed.case.exercise) new) claim now same
      (λ clear. subst (λ (y : Tailed). TreeTakes (tree_in y) (standing_of (ways_of y.case.exercise) old) claim
      (standing_of (ways_of y.case.exercise) new)) is (taken clear))

  pub refused_as : (x : Tailed) → x ≡ tailed → (old new : Judging PrefixKnown) (claim : Claim) (refusal : Refusal)
      (now : Checking Asked Opening (List (List Cell)))
      → seen (standing_of (ways_of tailed.case.exercise) old) ≡ now
      → (old.refusal ≡ None → TreeRefuses (tree_in x) (standing_of (ways_of x.case.exercise) old) claim refusal
      (standing_of (ways_of x.case.exercise) new))
      → now.refusal ≡ None
      → Refuses (setting_subject now.asked) now claim (refused_by refusal)
      (seen (standing_of (ways_of tailed.case.exercise) new))
  refused_as x is old new claim refusal now same refused =
      refused_seen setting_subject asked opening (standing_of (ways_of tailed.case.exercise) old)
      (standing_of (ways_of tailed.case.exercise) new) claim refusal now same
      (λ clear. subst (λ (y : Tailed). TreeRefuses (tree_in y) (standing_of (ways_of y.case.exercise) old) claim refusal
      (standing_of (ways_of y.case.exercise) new)) is (refused clear))

  -- where claims end by the tree of such a case
  pub certified_by : (x : Tailed) → x ≡ tailed → (judging : Judging PrefixKnown)
      (now : Checking Asked Opening (List (List Cell))) → seen (standing_of (ways_of tailed.case.exercise) judging) ≡ now
      → IsSound tailed.case.exercise tailed.case.sheet opening
      → IsFedCertified (tree_in x) [] (standing_of (ways_of x.case.exercise) judging)
      → IsFedCertificate (setting_subject now.asked) now
  certified_by x is judging now same sound fed =
      certificate_seen setting_subject asked opening now (standing_of (ways_of tailed.case.exercise) judging) same sound
      (subst (λ (y : Tailed). IsFedCertified (tree_in y) [] (standing_of (ways_of y.case.exercise) judging)) is fed)

  pub none_certified_by : (x : Tailed) → x ≡ tailed → (judging : Judging PrefixKnown)
      (now : Checking Asked Opening (List (List Cell))) → seen (standing_of (ways_of tailed.case.exercise) judging) ≡ now
      → IsFedNone (tree_in x) [] (standing_of (ways_of x.case.exercise) judging)
      → checking.IsFedNone (setting_subject now.asked) now
  none_certified_by x is judging now same fed =
      none_certified setting_subject asked opening now (standing_of (ways_of tailed.case.exercise) judging) same
      (subst (λ (y : Tailed). IsFedNone (tree_in y) [] (standing_of (ways_of y.case.exercise) judging)) is fed)
