-- How a certificate's file is judged, and how much is read of it (`IsJudged`): whatever stands at
-- its front (`IsFileJudged`), or where this stands there (`AreClaimsJudged`).
use Rattle.std.specs.Prelude.{◌≡◌, ◌≢◌, ℕ, ◌+◌, ◌≤◌, List, Result, IfErr, IfOk}
use Rattle.cert_check.specs.Answers.{Answers}
use Rattle.cert_check.specs.Settings.{Asked, Opening, setting_subject}
use Rattle.cert_check.specs.declared.checking.CheckFault.{CheckFault}
use Rattle.cert_check.specs.declared.checking.CheckFault.TheVariants.{Unreadable}
use Rattle.cert_file.specs.Nearness.{IsReadNear, ReadsNear}
use Rattle.cert_file.specs.Readings.{Files}
use Rattle.cert_file.specs.declared.verdict.Verdict.{Verdict}
use Rattle.fux_port.specs.Counts.{Rose}

-- what a shelf tells: its files, how many calls failed, and how many bytes it gave
pub record Shelved : Type 0 where
  pub files : Files
  pub faults : ℕ
  pub given : ℕ

abbrev pub shelved : Files → ℕ → ℕ → Shelved
shelved files faults given = record { files = files; faults = faults; given = given }

-- the answer for the file of a name, by a shelf that told `old` and tells `new`: the shelf isn't
-- blamed if it promised the reads, no more is read than a certificate may have and a byte, and no
-- more than is near what a verdict tells
pub record IsJudged (asked : Asked) (Near : ℕ → ℕ → Verdict → Type 0) (name : List ℕ) (promised : Type 0) (old new : Shelved)
    (result : Result Verdict CheckFault) : Type 0 where
  pub answers : Answers asked.exercise asked.sheet old.files name (Rose old.faults new.faults) result
  pub served : promised → IfErr result (λ fault. fault ≢ Unreadable)
  pub little : new.given ≤ old.given + 1073741825
  pub near : IfOk result (Near old.given new.given)
  pub files : new.files ≡ old.files
  pub faults : old.faults ≤ new.faults

-- whatever stands at its front
abbrev pub IsFileJudged : Asked → List ℕ → Type 0 → Shelved → Shelved → Result Verdict CheckFault → Type 0
IsFileJudged asked name promised old new result =
    IsJudged asked (IsReadNear (setting_subject asked) old.files name) name promised old new result

-- where this stands there
abbrev pub AreClaimsJudged : Asked → Opening → List ℕ → Type 0 → Shelved → Shelved → Result Verdict CheckFault → Type 0
AreClaimsJudged asked opening name promised old new result =
    IsJudged asked (ReadsNear (setting_subject asked) opening old.files name) name promised old new result
