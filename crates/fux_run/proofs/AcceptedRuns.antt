-- A run of `check` accepts what a run of `certify` wrote (`accepted_run`), and so it is with a
-- cantus (`accepted_cantus_run`).
use Rattle.std.proofs.Common.{◌≡◌, ◌≢◌, ℕ, List, [], ◌∷◌, Ok, Err, inl, inr, ap, subst, ◌∙◌}
use Rattle.cert_text.specs.declared.answers.Form.{Form}
use Rattle.command_words.specs.declared.command.Wanted.{Wanted}
use Rattle.fux_port.specs.Files.{HasFile}
use Rattle.works.specs.declared.work.Verdict.{Verdict}
use Rattle.works.specs.declared.work.Verdict.TheVariants.{Favorable, Unfavorable, Spent}
use Rattle.works.specs.CantusCertified.{MakesCantusCertificate}
use Rattle.works.specs.CantusChecked.{ChecksCantusBy}
use Rattle.works.specs.TaskFiles.{as_list}
use Rattle.works.specs.Texts.{Work}
use Rattle.works.specs.Works.{CertifiesText, ChecksText, Files}
use Rattle.works.proofs.AcceptedLemmas.{certified_cantus_is_accepted, certified_is_accepted}
use Rattle.works.proofs.WorkLemmas.{only_bytes}
use Rattle.fux_run.specs.Laws.{CertifiedCantusRunIsAccepted, CertifiedRunIsAccepted, HasStatus, IsFound, IsWhole}
use Rattle.fux_run.specs.Runs.{work_status}
use Rattle.fux_run.specs.Statuses.{code_of, verdict_status}

-- a run that wrote a certificate didn't spend its budget
unspent : (code : ℕ) (verdict : Verdict) → code ≡ code_of (verdict_status verdict) → IsFound code → verdict ≢ Spent
unspent code Favorable is found = λ same. cc same
unspent code Unfavorable is found = λ same. cc same
unspent code Spent is (inl zero_is) = cc (is, zero_is)
unspent code Spent is (inr one_is) = cc (is, one_is)

-- and refused nothing
unrefused : (code : ℕ) → code ≡ 3 → IsFound code → ⊥
unrefused code is (inl zero_is) = cc (is, zero_is)
unrefused code is (inr one_is) = cc (is, one_is)

accepted_text : (budget : ℕ) (form : Form) (sheets : List (List ℕ)) (text : List ℕ) (later : Files) (certificate bytes : List ℕ)
    (code next : ℕ) (work checked : Work) → CertifiesText budget form sheets text work → IsWhole code bytes work
    → IsFound code → HasFile later certificate bytes → ChecksText later certificate sheets text checked
    → HasStatus next checked → next ≡ 0
accepted_text budget form sheets text later certificate bytes code next (Err refusal) checked made whole found has its ends =
    absurd (unrefused code whole.0 found)
accepted_text budget form sheets text later certificate bytes code next (Ok output) checked made whole found has its ends =
    let accepted = certified_is_accepted budget form sheets text output later certificate checked made
    (unspent code output.verdict whole.0 found) (subst (HasFile later certificate) whole.1 has) its in
    ends ∙ ap (λ w. code_of (work_status w)) accepted.accepted

pub accepted_run : CertifiedRunIsAccepted
accepted_run name certificate sheet budget form files later [] bytes code next had have has ran found checked = absurd had
accepted_run name certificate sheet budget form files later (text ∷ sheets) bytes code next had have has ran found checked =
    let first = only_bytes files (name ∷ as_list sheet) (text ∷ sheets) ran.bytes had ran.had in
    let second = only_bytes later (name ∷ as_list sheet) (text ∷ sheets) checked.bytes have checked.had in
    accepted_text budget form sheets text later certificate bytes code next ran.work checked.work (rw first at ran.made)
    ran.holds found has (rw second at checked.made) checked.holds

accepted_sheets : (wanted : Wanted) (budget : ℕ) (sheets : List (List ℕ)) (later : Files) (certificate bytes : List ℕ)
    (code next : ℕ) (work checked : Work) → MakesCantusCertificate wanted budget sheets work → IsWhole code bytes work
    → IsFound code → HasFile later certificate bytes → ChecksCantusBy wanted later certificate sheets checked
    → HasStatus next checked → next ≡ 0
accepted_sheets wanted budget sheets later certificate bytes code next (Err refusal) checked made whole found has its ends =
    absurd (unrefused code whole.0 found)
accepted_sheets wanted budget sheets later certificate bytes code next (Ok output) checked made whole found has its ends =
    ends
    ∙ ap (λ w. code_of (work_status w))
    (certified_cantus_is_accepted wanted budget sheets output later certificate checked made
    (unspent code output.verdict whole.0 found) (subst (HasFile later certificate) whole.1 has) its).accepted

pub accepted_cantus_run : CertifiedCantusRunIsAccepted
accepted_cantus_run wanted certificate sheet budget files later texts bytes code next had have has ran found checked =
    let first = only_bytes files (as_list sheet) texts ran.bytes had ran.had in
    let second = only_bytes later (as_list sheet) texts checked.bytes have checked.had in
    accepted_sheets wanted budget texts later certificate bytes code next ran.work checked.work (rw first at ran.made)
    ran.holds found has (rw second at checked.made) checked.holds
