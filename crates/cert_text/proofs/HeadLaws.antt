-- A head with a penalty stands at the front of bytes just where its text as it is written stands
-- there (`best-heads_written`). Each text of a head is that of a head (`texts-of_heads`), and where
-- each text is answered, a head that stands at the front is the answer (`answers-one`).
use Rattle.std.proofs.Common.{◌≡◌, ℕ, ◌≤◌, ◌<◌, ◌^◌, List, length, take, Some, None, Result, Ok, Err, refl, sym, ap, subst, ◌∙◌}
use Rattle.std.specs.Prelude.{IfOk}
use Rattle.fux_grid.specs.declared.exercise.Exercise.{Exercise}
use Rattle.fux_grid.specs.Exercises.{IsValid}
use Rattle.fux_grid.specs.Grid.{Grid}
use Rattle.fux_text.specs.ReadBack.{sing_lines}
use Rattle.fux_text.specs.Texts.{AreSingLinesOf}
use Rattle.cert_text.specs.declared.answers.CertFault.{CertFault}
use Rattle.cert_text.specs.declared.answers.CertHead.{CertHead}
use Rattle.cert_text.specs.declared.answers.CertHead.TheVariants.{Best, Nothing}
use Rattle.cert_text.specs.declared.answers.Form.{Form}
use Rattle.cert_text.specs.declared.answers.Form.TheVariants.{First, Second, Third}
use Rattle.cert_text.specs.HeadRows.{IsUpTo}
use Rattle.cert_text.specs.HeadTexts.{AnswersTexts, Heads, UnlessMemory, penalty_of}
use Rattle.cert_text.specs.SingItems.{AreWrittenOf, best_text}
use Rattle.cert_text.specs.WrittenLines.{BestHeadsAreWritten, BestTextsAreWritten, IsBestOf, TextsAreOfHeads}
use Rattle.cert_text.proofs.HeadBacks.{heads_are_one, lines_are_of_one, same_lines}
use Rattle.cert_text.proofs.SungScores.{written-lines_read}

-- ---- what is written of a head

pub best-texts_written : BestTextsAreWritten
best-texts_written ex form text penalty valid = (
  λ is.
      let written = is.canonical in (
        is.below,
        written.0,
        record { setting = written.1.setting; written = is.text ∙ ap (best_text form penalty) written.1.written },
      ),
  λ written. record {
    below = written.0;
    lines = sing_lines ex written.1.columns;
    canonical = (written.1, record { setting = written.2.setting; written = refl });
    text = written.2.written;
  },
)

module _ (ex : Exercise) (form : Form) (bytes : List ℕ) (penalty : ℕ) (score : Grid) (n : ℕ) (valid : IsValid ex) where
  -- the setting of a head is the one that its lines are written of
  best-from : Heads ex form bytes (Best penalty score) n → IsBestOf ex form penalty score (take n bytes)
  best-from heads =
      let is = heads.text in
      let lines = heads.setting.0 in
      let written = is.canonical in
      let same : is.lines ≡ lines = same_lines form penalty is.lines lines (sym is.text ∙ heads.setting.1) in
      let own : AreSingLinesOf ex is.lines score = subst (λ xs. AreSingLinesOf ex xs score) (sym same) heads.setting.2 in
      let one : written.0 ≡ score =
      lines_are_of_one ex is.lines written.0 score valid (written-lines_read ex is.lines written.0 valid written.1) own in
      subst (λ g. IsBestOf ex form penalty g (take n bytes)) one
      (record { setting = written.1.setting; written = is.text ∙ ap (best_text form penalty) written.1.written })

  best-to : n ≤ length bytes → penalty < 2 ^ 64 → IsBestOf ex form penalty score (take n bytes)
      → Heads ex form bytes (Best penalty score) n
  best-to within below is =
      let lines = sing_lines ex score.columns in
      let written : AreWrittenOf ex score lines = record { setting = is.setting; written = refl } in
      record {
        within = within;
        text = record {
          below = below;
          lines = lines;
          canonical = (score, written);
          text = is.written;
        };
        setting = (lines, is.written, written-lines_read ex lines score valid written);
      }

pub best-heads_written : BestHeadsAreWritten
best-heads_written ex form bytes penalty score n valid = (
  λ heads. (heads.within, heads.text.below, best-from ex form bytes penalty score n valid heads),
  λ is. best-to ex form bytes penalty score n valid is.0 is.1 is.2,
)

-- ---- heads of texts, and answers

pub texts-of_heads : TextsAreOfHeads
texts-of_heads ex form bytes n None valid within is =
    (Nothing, refl, record { within = within; text = is; setting = tt })
texts-of_heads ex form bytes n (Some penalty) valid within is =
    let lines = is.canonical in (
      Best penalty lines.0,
      refl,
      record {
        within = within;
        text = is;
        setting = (is.lines, is.text, written-lines_read ex is.lines lines.0 valid lines.1);
      },
    )

pub unless-map : {A : Type 0} (result : Result A CertFault) (P Q : A → Type 0) → ((x : A) → P x → Q x)
    → UnlessMemory result P → UnlessMemory result Q
unless-map (Ok x) P Q so p = so x p
unless-map (Err fault) P Q so p = p

pub if_ok : {A E : Type 0} (result : Result A E) (P Q : A → Type 0) → ((x : A) → P x → Q x) → IfOk result P → IfOk result Q
if_ok (Ok x) P Q so p = so x p
if_ok (Err fault) P Q so p = tt

pub answers-one : (ex : Exercise) (last : Form) (bytes : List ℕ) (result : Result (Form × CertHead × ℕ) CertFault)
    (form : Form) (head : CertHead) (n : ℕ) → IsValid ex → IsUpTo last form
    → IfOk result (λ found. IsUpTo last found.0 × Heads ex found.0 bytes found.1 found.2) → AnswersTexts ex last bytes result
    → Heads ex form bytes head n → UnlessMemory result (λ found. found ≡ (form, head, n))
answers-one ex last bytes (Ok (found, own, used)) form head n valid among ok texts heads =
    let one = heads_are_one ex bytes found form own head used n valid ok.1 heads in
    ap (λ f. (f, own, used)) one.0 ∙ ap (λ h. (form, h, used)) one.1 ∙ ap (λ k. (form, head, k)) one.2
answers-one ex last bytes (Err fault) form head n valid among ok texts heads =
    texts form among n (penalty_of head) heads.within heads.text

-- where forms up to the first are read, the form is the first
pub is_first : (form : Form) → IsUpTo First form → form ≡ First
is_first First among = refl
is_first Second among = absurd among
is_first Third among = absurd among
