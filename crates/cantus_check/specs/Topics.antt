-- Cantus certificates as a subject: a head stands in front of claims, which are of lists of
-- pitches.
use Rattle.std.specs.Prelude.{◌≡◌, ℕ, List, [], Some, None, ⊤}
use Rattle.std.specs.Io.{StartsWith}
use Rattle.cert_file.specs.declared.verdict.Verdict.{Verdict}
use Rattle.cert_file.specs.declared.verdict.Verdict.TheVariants as verdict
use Rattle.cert_text.specs.declared.answers.Accepted.{Accepted}
use Rattle.cert_text.specs.declared.answers.Accepted.TheVariants as accepted
use Rattle.cert_text.specs.declared.answers.CertFault.TheVariants.{CertHead as WrongHead}
use Rattle.cert_text.specs.declared.answers.Why.TheVariants.{Head}
use Rattle.cert_text.specs.Pieces.{GoesTo}
use Rattle.cert_tree.specs.Judgings.{IsKept}
use Rattle.cert_tree.specs.declared.judging.Judging.{Judging}
use Rattle.fux_pitch.specs.declared.pitch.Pitch.{Pitch}
use Rattle.cantus_space.specs.declared.plan.CantusPlan.{CantusPlan}
use Rattle.cantus_check.specs.Certificates.{Begins, Holds, IsHeadSound, Refutes, tree_of}
use Rattle.cantus_check.specs.Claims.{Said}
use Rattle.cantus_check.specs.Known.{IsJudged, ways_of}
use Rattle.cantus_check.specs.declared.known.CantusKnown.{CantusKnown}
use Rattle.cantus_check.specs.Heads.{IsHeadText}
use Rattle.cantus_check.specs.declared.checker.CantusOpen.{CantusOpen}
use Rattle.cantus_check.specs.declared.checker.CantusOpen.TheVariants as opening
use Rattle.cert_file.specs.Subjects.{Subject}

-- what an accepted head shows
abbrev pub accepted_of : Said → Accepted
accepted_of None = accepted.Nothing
accepted_of (Some best) = accepted.Best best.0

-- the head stands at the front, and isn't sound
pub record IsUnsound (plan : CantusPlan) (number : ℕ) (bytes : List ℕ) : Type 0 where
  pub numbered : number ≡ 0
  pub said : Said
  pub front : List ℕ
  pub begins : StartsWith bytes front
  pub heads : IsHeadText said front
  pub unsound : IsHeadSound plan said → ⊥

-- what a verdict says of bytes whose front is refused: no head stands there, or the head isn't
-- sound
abbrev pub Refuses : CantusPlan → Verdict → List ℕ → Type 0
Refuses plan (verdict.Text (WrongHead at)) bytes = GoesTo IsHeadText bytes at
Refuses plan (verdict.Text fault) bytes = ⊥
Refuses plan (verdict.Claim refused) bytes = (refused.why ≡ Head) × IsUnsound plan refused.number bytes
Refuses plan (verdict.Accepted answer) bytes = ⊥

-- what a cantus certificate is about
abbrev pub cantus_subject : CantusPlan → Subject Said (List Pitch)
cantus_subject plan = record {
  IsHead = IsHeadText;
  IsSound = IsHeadSound plan;
  Refuses = Refuses plan;
  tree = tree_of plan;
  root = [];
  accepted = accepted_of;
  Holds = Holds plan;
}

-- what each checker keeps: its head is sound, and as long as no claim was refused, each cantus that
-- refutes the head is begun by a list that is owed
pub record IsChecking (plan : CantusPlan) (said : Said) (judging : Judging CantusKnown) : Type 0 where
  pub sound : IsHeadSound plan said
  pub kept : IsKept (tree_of plan said) (IsJudged plan said) (ways_of plan) Begins (Refutes plan said) judging

-- a checker isn't opened: the head isn't sound, and is refused as claim 0; or memory is wanting
abbrev pub TellsWhy : CantusPlan → Said → CantusOpen → Type 0
TellsWhy plan said (opening.Refused refused) =
    (IsHeadSound plan said → ⊥) × (refused ≡ record { number = 0; why = Head })
TellsWhy plan said opening.Memory = ⊤
