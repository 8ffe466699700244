-- `check` accepts what `certify` writes (`certified_is_accepted`), and `checkcantus` what
-- `certcantus` writes (`certified_cantus_is_accepted`).
use Rattle.std.proofs.Common.{◌≡◌, ◌≢◌, ℕ, ◌⊎◌, List, None, Some, Result, Ok, Err, inl, inr, refl, ap, subst, ◌∙◌, length, take}
use Rattle.std.proofs.Math.Seq.{take-append_seam}
use Rattle.std.specs.List.{flat_map}
use Rattle.cantus_check.specs.Topics as cantus
use Rattle.cantus_check.specs.Claims.{Said}
use Rattle.cantus_space.specs.declared.plan.CantusPlan.{CantusPlan}
use Rattle.cert_check.proofs.LargeTexts.{small_stays}
use Rattle.cert_check.specs.Settings.{HasLargeLists}
use Rattle.cert_file.proofs.TextLemmas.{such_of}
use Rattle.cert_file.specs.Readings.{MayBe}
use Rattle.cert_file.specs.Subjects as subjects
use Rattle.cert_file.specs.declared.verdict.Verdict.TheVariants.{Accepted}
use Rattle.class_marker.specs.Markings.{IsTheText}
use Rattle.cert_text.specs.declared.answers.CertHead.{CertHead}
use Rattle.cert_text.specs.declared.answers.CertHead.TheVariants.{Best, Nothing}
use Rattle.cert_text.specs.declared.answers.Form.{Form}
use Rattle.cert_text.specs.Lines.{claim_line}
use Rattle.fux_grid.specs.declared.exercise.Exercise.{Exercise}
use Rattle.fux_grid.specs.Exercises.{IsValid}
use Rattle.fux_port.specs.Files.{HasFile}
use Rattle.penalty_sheet.specs.declared.fault.SheetFault.{SheetFault}
use Rattle.penalty_sheet.specs.declared.sheet.Sheet.{Sheet}
use Rattle.works.specs.declared.refusal.Refusal.{Refusal}
use Rattle.works.specs.declared.refusal.Refusal.TheVariants as refusal
use Rattle.works.specs.declared.work.Output.{Output}
use Rattle.works.specs.declared.work.Verdict.{Verdict}
use Rattle.works.specs.declared.work.Verdict.TheVariants.{Favorable, Unfavorable, Spent}
use Rattle.works.specs.Accepted.{Accepts, CertifiedCantusIsAccepted, CertifiedIsAccepted, IsAcceptedFor}
use Rattle.works.specs.CantusCertified as certified
use Rattle.works.specs.CantusCertified.{ShowsCantus}
use Rattle.works.specs.CantusChecked.{ChecksPlan}
use Rattle.works.specs.Certified.{Certifies, IsAcceptable, IsCertificateOf, IsTextOfForm, Shows}
use Rattle.works.specs.Checked.{Checks, RefusesChecking, told}
use Rattle.works.specs.Invented.{plan_of}
use Rattle.works.specs.Searched.{IsNarrow, RefusesWidth}
use Rattle.works.specs.Sheets.{OnSheet, prices_in_use, sheet_said}
use Rattle.works.specs.Texts.{OnText, Work}
use Rattle.works.specs.Works.{Files}
use Rattle.works.proofs.AgreeLemmas.{not_wide, sheet_of, text_of, width_of}
use Rattle.fux_text.proofs.ReadTexts.{texts-faultless}
use Rattle.fux_text.specs.Texts.{IsTextOf}

-- ---- one sheet and one exercise

-- an output is of no refusal
no_refusal : (output : Output) (said : Refusal) → Ok output ≡ Err said → ⊥
no_refusal output said is = cc is

one_sheet : (said : Result Sheet SheetFault) (a b : Sheet) → said ≡ Ok a → said ≡ Ok b → a ≡ b
one_sheet said a b h k = cc (h, k)

no_fault : (said : Result Sheet SheetFault) (a : Sheet) (f : SheetFault) → said ≡ Ok a → said ≡ Err f → ⊥
no_fault said a f h k = cc (h, k)

-- ---- settings

-- a head that an output is written for
record WrittenFor (ex : Exercise) (sheet : Sheet) (form : Form) (bytes : List ℕ) : Type 0 where
  pub head : CertHead
  pub certificate : IsCertificateOf ex sheet form head bytes
  pub acceptable : IsAcceptable ex sheet form head bytes

head_of : (budget : ℕ) (form : Form) (sheet : Sheet) (ex : Exercise) (verdict : Verdict) (bytes : List ℕ)
    → Shows ex sheet budget form verdict bytes → verdict ≢ Spent → WrittenFor ex sheet form bytes
head_of budget form sheet ex Favorable bytes shows unspent = record {
  head = Best shows.penalty shows.score;
  certificate = shows.certificate;
  acceptable = shows.acceptable;
}
head_of budget form sheet ex Unfavorable bytes shows unspent =
    record { head = Nothing; certificate = shows.certificate; acceptable = shows.acceptable }
head_of budget form sheet ex Spent bytes shows unspent = absurd (unspent refl)

-- a text is of a valid exercise
text_valid : (bytes : List ℕ) (ex : Exercise) → IsTextOf bytes ex → IsValid ex
unfolding IsTextOf
text_valid bytes ex is = is.valid

-- a refusal of a certificate is one of its exercise, or of a graph
width_or_graph : (files : Files) (name : List ℕ) (sheet : Sheet) (ex : Exercise) (said : Refusal)
    → RefusesChecking files name sheet ex said → RefusesWidth ex said ⊎ MayBe files name (HasLargeLists ex sheet)
width_or_graph files name sheet ex refusal.LargeGraph h = inr h.1
width_or_graph files name sheet ex (refusal.TooWide place count) h = inl h
width_or_graph files name sheet ex (refusal.Text kind line column) h = inl h
width_or_graph files name sheet ex refusal.NoSetting h = inl h
width_or_graph files name sheet ex (refusal.Lesson kind line column) h = inl h
width_or_graph files name sheet ex (refusal.With voice) h = inl h
width_or_graph files name sheet ex (refusal.List line) h = inl h
width_or_graph files name sheet ex (refusal.Canon line) h = inl h
width_or_graph files name sheet ex refusal.LongCertificate h = inl h
width_or_graph files name sheet ex (refusal.Sheet fault) h = inl h
width_or_graph files name sheet ex (refusal.Midi fault) h = inl h
width_or_graph files name sheet ex (refusal.Join fault) h = inl h

module _ (ex : Exercise) (sheet : Sheet) (files : Files) (name bytes : List ℕ) (head : CertHead) (valid : IsValid ex)
    (has : HasFile files name bytes) where
  -- no graph is too large of a certificate whose lists are small
  no_graph : (form : Form) → IsTextOfForm ex sheet form head bytes → MayBe files name (HasLargeLists ex sheet) → ⊥
  no_graph form is large =
      let text = is.text.is.text in
      small_stays ex valid bytes sheet is.text.stated head text.front text.heads
      (ap (take (length text.front)) text.is ∙ take-append_seam text.front (flat_map claim_line is.text.is.claims)) is.small
      (such_of files name bytes has (HasLargeLists ex sheet) large)

  accepts : (form : Form) (checked : Work) → IsNarrow ex → IsTextOfForm ex sheet form head bytes
      → Checks files name sheet ex checked → Accepts head checked
  accepts form (Ok output) narrow is its = ap Ok (its.exact.each bytes head has is.text)
  accepts form (Err said) narrow is its =
      elim (width_or_graph files name sheet ex said its) [
        | inl width ↦ let wide = width_of ex said width in absurd (not_wide ex wide.0 wide.1 narrow wide.3)
        | inr large ↦ absurd (no_graph form is large)
      ]

module _ (budget : ℕ) (form : Form) (sheets : List (List ℕ)) (text : List ℕ) (written : Output) (files : Files)
    (name : List ℕ) (checked : Work) (unspent : written.verdict ≢ Spent) (has : HasFile files name written.bytes) where
  over_exercise : (sheet : Sheet) (ex : Exercise) → IsTheText text ex → sheet_said sheets ≡ Ok sheet
      → Certifies budget form sheet ex (Ok written) → Checks files name sheet ex checked
      → IsAcceptedFor form sheets text written checked
  over_exercise sheet ex is said made its =
      let own = head_of budget form sheet ex written.verdict written.bytes made.shows unspent in
      record {
        exercise = ex;
        is = is;
        sheet = sheet;
        said = said;
        head = own.head;
        certificate = own.certificate;
        accepted =
            accepts ex sheet files name written.bytes own.head (text_valid text ex is.text) has form checked made.narrow
            (own.acceptable (made.fits unspent)) its;
      }

  over_sheets : (ex : Exercise) → IsTheText text ex
      → OnSheet (λ sheet. Certifies budget form sheet ex) sheets (Ok written)
      → OnSheet (λ sheet. Checks files name sheet ex) sheets checked → IsAcceptedFor form sheets text written checked
  over_sheets ex is (inl made) (inl its) =
      let same = one_sheet (sheet_said sheets) its.sheet made.sheet its.said made.said in
      over_exercise made.sheet ex is made.said made.made
      (subst (λ (s : Sheet). Checks files name s ex checked) same its.made)
  over_sheets ex is (inl made) (inr its) =
      let fault = sheet_of sheets its.refusal its.cause in
      absurd (no_fault (sheet_said sheets) made.sheet fault.0 made.said fault.2)
  over_sheets ex is (inr made) its = absurd (no_refusal written made.refusal made.is)

  over_texts : OnText (λ ex. OnSheet (λ sheet. Certifies budget form sheet ex) sheets) text (Ok written)
      → OnText (λ ex. OnSheet (λ sheet. Checks files name sheet ex) sheets) text checked
      → IsAcceptedFor form sheets text written checked
  over_texts (inl made) (inl its) =
      let same : its.exercise ≡ made.exercise = its.text.only made.exercise made.text.text in
      over_sheets made.exercise made.text made.made
      (subst (λ (ex : Exercise). OnSheet (λ sheet. Checks files name sheet ex) sheets checked) same its.made)
  over_texts (inl made) (inr its) =
      let fault = text_of text its.refusal its.cause in
      absurd (texts-faultless text made.exercise fault.0 fault.1 fault.2 made.text.text fault.4)
  over_texts (inr made) its = absurd (no_refusal written made.refusal made.is)

pub certified_is_accepted : CertifiedIsAccepted
certified_is_accepted budget form sheets text written files name checked made unspent has its =
    over_texts budget form sheets text written files name checked unspent has made its

-- ---- a cantus

record CantusWrittenFor (plan : CantusPlan) (bytes : List ℕ) : Type 0 where
  pub head : Said
  pub certificate : certified.IsCertificateOf plan head bytes
  pub acceptable : certified.IsAcceptable plan head bytes

cantus_head_of : (plan : CantusPlan) (budget : ℕ) (verdict : Verdict) (bytes : List ℕ)
    → ShowsCantus plan budget verdict bytes → verdict ≢ Spent → CantusWrittenFor plan bytes
cantus_head_of plan budget Favorable bytes shows unspent = record {
  head = Some (shows.penalty, shows.cantus);
  certificate = shows.certificate;
  acceptable = shows.acceptable;
}
cantus_head_of plan budget Unfavorable bytes shows unspent =
    record { head = None; certificate = shows.certificate; acceptable = shows.acceptable }
cantus_head_of plan budget Spent bytes shows unspent = absurd (unspent refl)

accepts_cantus : (plan : CantusPlan) (files : Files) (name bytes : List ℕ) (head : Said) (checked : Work)
    → HasFile files name bytes → subjects.IsCertificateText (cantus.cantus_subject plan) head bytes
    → ChecksPlan plan files name checked → checked ≡ Ok (told (Accepted (cantus.accepted_of head)))
accepts_cantus plan files name bytes head (Ok output) has text its = ap Ok (its.exact.each bytes head has text)
accepts_cantus plan files name bytes head (Err said) has text its = absurd its

pub certified_cantus_is_accepted : CertifiedCantusIsAccepted
certified_cantus_is_accepted wanted budget sheets written files name checked (inl made) unspent has (inl its) =
    let plan = plan_of wanted made.sheet (prices_in_use sheets) in
    let same = one_sheet (sheet_said sheets) its.sheet made.sheet its.said made.said in
    let own = cantus_head_of plan budget written.verdict written.bytes made.made.shows unspent in
    record {
      sheet = made.sheet;
      said = made.said;
      head = own.head;
      certificate = own.certificate;
      accepted =
          accepts_cantus plan files name written.bytes own.head checked has (own.acceptable (made.made.fits unspent))
          (subst (λ (s : Sheet). ChecksPlan (plan_of wanted s (prices_in_use sheets)) files name checked) same its.made);
    }
certified_cantus_is_accepted wanted budget sheets written files name checked (inl made) unspent has (inr its) =
    let fault = sheet_of sheets its.refusal its.cause in
    absurd (no_fault (sheet_said sheets) made.sheet fault.0 made.said fault.2)
certified_cantus_is_accepted wanted budget sheets written files name checked (inr made) unspent has its =
    absurd (no_refusal written made.refusal made.is)
