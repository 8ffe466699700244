-- What `checkcantus` tells of a certificate's file (`checked`), over the sheet in use (`of_sheet`,
-- `of_no_sheet`).
use Rattle.std.proofs.Common.{◌≡◌, ℕ, List, Result, Ok, Err, inl, inr, refl, ap, subst, sym, ◌∙◌}
use Rattle.cantus_check.specs.Answers.{IsVerdictOn}
use Rattle.cantus_check.specs.Topics.{cantus_subject}
use Rattle.cantus_check.proofs.RefusedLemmas.{cantus_once}
use Rattle.cert_file.specs.Judgments as cert
use Rattle.cert_file.proofs.OneVerdict.{one_verdict}
use Rattle.cantus_check.specs.Claims.{Said}
use Rattle.cantus_space.specs.declared.prices.CantusPrices.{CantusPrices}
use Rattle.cantus_space.specs.declared.prices.PricedSheet.{PricedSheet}
use Rattle.cantus_space.specs.declared.plan.CantusPlan.{CantusPlan}
use Rattle.cantus_check.proofs.HeadRows.{heads-alone}
use Rattle.cert_file.specs.declared.verdict.Verdict.{Verdict as CertVerdict}
use Rattle.cert_file.specs.declared.verdict.Verdict.TheVariants.{Accepted, Claim, Text}
use Rattle.cert_file.proofs.TextLemmas.{such_of}
use Rattle.penalty_sheet.specs.declared.sheet.Sheet.{Sheet}
use Rattle.command_words.specs.declared.command.Wanted.{Wanted}
use Rattle.works.specs.declared.work.Output.{Output}
use Rattle.works.specs.declared.work.Stop.{Stop}
use Rattle.works.specs.declared.work.Stop.TheVariants.{Refused, Memory}
use Rattle.works.specs.declared.work.Unmade.{Unmade}
use Rattle.works.specs.declared.work.Unmade.TheVariants.{Stopped, Unreadable}
use Rattle.works.specs.declared.work.Verdict.TheVariants.{Favorable, Unfavorable}
use Rattle.works.specs.CantusChecked.{ChecksCantusBy, ChecksPlan, IsAccepted, IsCantusChecked, IsOnlyVerdict, JudgesCantus}
use Rattle.works.specs.Checked.{AnswersWithin, told}
use Rattle.works.specs.Invented.{plan_of}
use Rattle.works.specs.Sheets.{ReadsPriced, prices_in_use, sheet_said}
use Rattle.works.specs.Works.{Files, IsReadySheet}

module _ (plan : CantusPlan) (files : Files) (name : List ℕ) (output : Output) where
  -- what is favorable accepts a valid certificate
  only_valid : (it : CertVerdict) → JudgesCantus plan files name it → output ≡ told it → output.verdict ≡ Favorable
      → IsAccepted plan files name output
  only_valid (Accepted answer) found e good = elim found.such [
    | inl never ↦ absurd never
    | inr behind ↦ record {
      said = behind.head;
      valid = record { bytes = found.bytes; had = found.had; such = behind.finds.1 };
      told = e ∙ ap (λ a. told (Accepted a)) behind.finds.0;
      holds = behind.shown answer refl;
    }
  ]
  only_valid (Claim refused) found e good =
      let no : Unfavorable ≡ Favorable = sym (ap (λ (o : Output). o.verdict) e) ∙ good in cc
  only_valid (Text fault) found e good =
      let no : Unfavorable ≡ Favorable = sym (ap (λ (o : Output). o.verdict) e) ∙ good in cc

  -- it is the only one
  only_verdict : (it : CertVerdict) → JudgesCantus plan files name it → IsOnlyVerdict plan files name it
  only_verdict it judges bytes other has found =
      one_verdict (cantus_subject plan) heads-alone bytes (cantus_once plan bytes) other it found
      (such_of files name bytes has (IsVerdictOn plan it) judges)

  pub checked : (it : CertVerdict) → JudgesCantus plan files name it
      → ((said : Said) → cert.AcceptsValid (cantus_subject plan) said files name it) → output ≡ told it
      → IsCantusChecked plan files name output
  checked it judges accepts e = record {
    said = it;
    judges = judges;
    only = only_verdict it judges;
    told = e;
    exact = record {
      only = only_valid it judges e;
      each = λ bytes said has is. e ∙ ap told (accepts said bytes has is);
    };
  }

module _ (wanted : Wanted) (files : Files) (certificate : List ℕ) (unread : Type 0) (sheets : List (List ℕ)) where
  of_plan : (sheet : Sheet) (answer : Result Output Unmade) → sheet_said sheets ≡ Ok sheet
      → AnswersWithin (ChecksPlan (plan_of wanted sheet (prices_in_use sheets)) files certificate) unread answer
      → AnswersWithin (ChecksCantusBy wanted files certificate sheets) (IsReadySheet sheets × unread) answer
  of_plan sheet (Ok output) said made = inl record { sheet = sheet; said = said; made = made }
  of_plan sheet (Err (Stopped (Refused refusal))) said made = absurd made
  of_plan sheet (Err (Stopped Memory)) said made = tt
  of_plan sheet (Err Unreadable) said made = (record { sheet = sheet; said = said }, made)

  pub of_sheet : (priced : PricedSheet) (answer : Result Output Unmade) → ReadsPriced sheets (Ok priced)
      → AnswersWithin (ChecksPlan (plan_of wanted priced.sheet priced.prices) files certificate) unread answer
      → AnswersWithin (ChecksCantusBy wanted files certificate sheets) (IsReadySheet sheets × unread) answer
  of_sheet priced answer read made =
      of_plan priced.sheet answer read.0
      (subst (λ (prices : CantusPrices).
      AnswersWithin (ChecksPlan (plan_of wanted priced.sheet prices) files certificate) unread answer) (sym read.1) made)

  -- and where the sheet is refused, so is the whole
  pub of_no_sheet : (stop : Stop) (answer : Result Output Unmade) → ReadsPriced sheets (Err stop)
      → answer ≡ Err (Stopped stop)
      → AnswersWithin (ChecksCantusBy wanted files certificate sheets) (IsReadySheet sheets × unread) answer
  of_no_sheet (Refused refusal) answer cause e = rw e (inr record { refusal = refusal; is = refl; cause = cause })
  of_no_sheet Memory answer cause e = rw e tt
