-- How a file is judged where nothing more is read (`unread`, `unread_fault`), most often since
-- memory is wanting (`unread_memory`), where no more was read than a reader may (`few_read`); behind
-- a front (`behind_front`); and counted from before, with what was read since (`judged_since`).
use Rattle.std.proofs.Common.{◌≡◌, ◌≢◌, ℕ, ◌+◌, ◌≤◌, inl, inr, List, Result, Err, refl, sym, ap, subst, ◌∙◌, arith}
use Rattle.std.specs.Prelude.{IfErr}
use Rattle.std.specs.Result.{IsErrAnd}
use Rattle.std.proofs.lemmas.Result.{IfOk-weaker, err_from_is_err_and}
use Rattle.cert_check.specs.Answers.{Answers}
use Rattle.cert_check.specs.Judged.{AreClaimsJudged, IsFileJudged, IsJudged, Shelved, shelved}
use Rattle.cert_check.specs.Settings.{Asked, Opening, setting_subject}
use Rattle.cert_check.specs.declared.checking.CheckFault.{CheckFault}
use Rattle.cert_check.specs.declared.checking.CheckFault.TheVariants.{Memory, Unreadable}
use Rattle.cert_check.proofs.AnswerLemmas.{answers_moved}
use Rattle.cert_file.proofs.NearLemmas.{each_verdict, read_moved}
use Rattle.cert_file.specs.Nearness.{IsReadNear, ReadsNear}
use Rattle.cert_file.specs.Readings.{Reading, longest_piece}
use Rattle.cert_file.specs.declared.verdict.Verdict.{Verdict}
use Rattle.fux_port.specs.Counts.{Rose}
use Rattle.fux_port.proofs.Rises.{rose_later}

-- what a reader keeps of its offset holds of the reading that contracts see
pub few_read : (kept reader : Reading) → kept ≡ reader → kept.offset ≤ 1073741824 → reader.offset ≤ 1073741825
few_read kept reader same limit = omega (arith, limit, ap (λ (r : Reading). r.offset) same)

module _ (asked : Asked) (name : List ℕ) (promised : Type 0) where
  -- nothing more is read than a piece, and no read is blamed
  pub unread : (told : Shelved) (offset : ℕ) (result : Result Verdict CheckFault) → offset ≤ longest_piece
      → Answers asked.exercise asked.sheet told.files name (Rose told.faults told.faults) result
      → IfErr result (λ fault. fault ≢ Unreadable)
      → IsFileJudged asked name promised told (shelved told.files told.faults (told.given + offset)) result
  unread told offset result limit answers served = record {
    answers = answers;
    served = λ all. served;
    little = omega (arith, limit);
    near = each_verdict _ result (λ it. inl (omega (arith, limit)));
    files = refl;
    faults = omega arith;
  }

  module _ (Near : ℕ → ℕ → Verdict → Type 0) (told : Shelved) (offset : ℕ) (few : offset ≤ 1073741825) where
    -- there is no verdict, and no read is blamed
    pub unread_fault : (fault : CheckFault)
        → Answers asked.exercise asked.sheet told.files name (Rose told.faults told.faults) (Err fault)
        → fault ≢ Unreadable
        → IsJudged asked Near name promised told (shelved told.files told.faults (told.given + offset)) (Err fault)
    unread_fault fault answers served = record {
      answers = answers;
      served = λ all. served;
      little = omega (arith, few);
      near = tt;
      files = refl;
      faults = omega arith;
    }

    pub unread_memory : (result : Result Verdict CheckFault) → IsErrAnd result (λ fault. fault ≡ Memory)
        → IsJudged asked Near name promised told (shelved told.files told.faults (told.given + offset)) result
    unread_memory result wants =
        let it = err_from_is_err_and result wants in
        subst
        (λ (r : Result Verdict CheckFault).
        IsJudged asked Near name promised told (shelved told.files told.faults (told.given + offset)) r)
        (sym (it.1 ∙ ap Err it.2)) (unread_fault Memory tt (λ e. cc))

  -- what is near behind a front is near
  pub behind_front : (opening : Opening) (old new : Shelved) (result : Result Verdict CheckFault)
      → AreClaimsJudged asked opening name promised old new result → IsFileJudged asked name promised old new result
  behind_front opening old new result judged = record {
    answers = judged.answers;
    served = judged.served;
    little = judged.little;
    near = IfOk-weaker result (ReadsNear (setting_subject asked) opening old.files name old.given new.given)
        (IsReadNear (setting_subject asked) old.files name old.given new.given)
        (λ it near. inr (opening, near)) judged.near;
    files = judged.files;
    faults = judged.faults;
  }

  -- what was promised at first was promised still, and what was read since is counted
  pub judged_since : (first old new : Shelved) (past : ℕ) (later : Type 0) (result : Result Verdict CheckFault)
      → old.files ≡ first.files → first.faults ≤ old.faults
      → ((read : ℕ) → new.given ≤ old.given + read → past ≤ first.given + read) → (promised → later)
      → IsFileJudged asked name later old new result
      → IsFileJudged asked name promised first (shelved new.files new.faults past) result
  judged_since first old new past later result same before since keeps judged = record {
    answers = answers_moved asked.exercise asked.sheet old.files name (Rose old.faults new.faults) first.files
        (Rose first.faults new.faults) result same (rose_later first.faults old.faults new.faults before)
        judged.answers;
    served = λ all. judged.served (keeps all);
    little = since 1073741825 judged.little;
    near = IfOk-weaker result (IsReadNear (setting_subject asked) old.files name old.given new.given)
        (IsReadNear (setting_subject asked) first.files name first.given past)
        (λ it near. read_moved (setting_subject asked) old.files name first.files first.given old.given new.given past it same
        since near) judged.near;
    files = judged.files ∙ same;
    faults = omega (arith, before, judged.faults);
  }
