-- A certificate is the text of its head and the lines that come at the beginning (`whole_text`), so
-- its length is what both have together (`whole_within`, `whole_too_long`).
use Rattle.std.proofs.Common.{◌≡◌, ◌⊎◌, inl, inr, ℕ, ◌+◌, ◌<◌, ◌≤◌, Bool, true, false, List, ◌++◌, IsTrue, length, ap, sym, ◌∙◌, arith, length-append, true≢false}
use Rattle.std.specs.Prelude.{◌↔◌}
use Rattle.std.proofs.lemmas.Bool.{cases_lt}
use Rattle.cert_law.specs.Cases.{Matter}
use Rattle.cert_law.specs.Writer.{head_text, written_certificate}
use Rattle.cert_text.specs.declared.answers.Form.{Form}
use Rattle.cert_writer.specs.declared.lines.Lines.{Lines}
use Rattle.cert_writer.specs.Stages.{Begins, lines_left}

module _ (t : Matter) (form : Form) (text : List ℕ) (lines : Lines) (begins : Begins t form lines)
    (is : text ≡ head_text t.exercise form t.head) where
  pub whole_text : text ++ lines_left t lines ≡ written_certificate t.exercise t.sheet form t.head
  whole_text = ap (λ bs. bs ++ lines_left t lines) is ∙ ap (λ bs. head_text t.exercise form t.head ++ bs) begins.text

  whole_length : length text + length (lines_left t lines) ≡ length (written_certificate t.exercise t.sheet form t.head)
  whole_length = sym (length-append text (lines_left t lines)) ∙ ap length whole_text

  pub whole_within : (size : ℕ) (b : Bool) → size ≡ length text
      → IsTrue b ↔ (size + length (lines_left t lines) ≤ 1073741824) → b ≡ true
      → length (written_certificate t.exercise t.sheet form t.head) ≤ 1073741824
  whole_within size b n fits h =
      let total : size + length (lines_left t lines) ≤ 1073741824 = fits.0 h in
      omega (arith, whole_length, n, total)

  pub whole_too_long : (size : ℕ) (b : Bool) → size ≡ length text
      → IsTrue b ↔ (size + length (lines_left t lines) ≤ 1073741824) → b ≡ false
      → 1073741824 < length (written_certificate t.exercise t.sheet form t.head)
  whole_too_long size b n fits h = at (cases_lt 1073741824 (size + length (lines_left t lines)))
    where
      at : (1073741824 < size + length (lines_left t lines)) ⊎ (size + length (lines_left t lines) ≤ 1073741824)
          → 1073741824 < length (written_certificate t.exercise t.sheet form t.head)
      at (inl more) = omega (arith, whole_length, n, more)
      at (inr few) = absurd (true≢false (sym (fits.1 few) ∙ h))
