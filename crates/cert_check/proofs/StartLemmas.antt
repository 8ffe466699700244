-- How the reading of a file starts: behind its head (`started`), or where a head stops
-- (`head_stops`). A head that a front is stands at the front of all bytes (`at_front`).
use Rattle.std.proofs.Common.{◌≡◌, ℕ, ◌⊎◌, inl, inr, ◌++◌, Err, List, length, take, drop, sym, ap, subst, ◌∙◌, arith, length-drop}
use Rattle.std.proofs.lemmas.List.{length-take-le, take-append-drop, take_all}
use Rattle.fux_grid.specs.declared.exercise.Exercise.{Exercise}
use Rattle.cert_text.specs.declared.answers.CertFault.{CertFault}
use Rattle.cert_text.specs.declared.answers.CertFault.TheVariants.{CertHead, Memory}
use Rattle.cert_text.specs.declared.answers.CertHead.{CertHead as Head}
use Rattle.cert_text.specs.declared.answers.Form.{Form}
use Rattle.cert_text.specs.declared.answers.Form.TheVariants.{Third}
use Rattle.cert_text.specs.HeadTexts.{HasLines, Heads, TextStops, penalty_of}
use Rattle.cert_text.specs.SingItems.{IsHeadText}
use Rattle.cert_text.proofs.HeadBacks.{heads_before, stops_whole}
use Rattle.fux_grid.specs.Exercises.{IsValid}
use Rattle.cert_file.specs.declared.fault.ReadFault.TheVariants.{Text}
use Rattle.cert_file.specs.Readings.{Begins, Files, MayBe, Piece, longest_piece}
use Rattle.cert_check.specs.Starts.{IsStarted, Starts}
use Rattle.cert_file.proofs.FileLemmas.{first_begins}

module _ (ex : Exercise) (files : Files) (name bytes : List ℕ)
    (known : MayBe files name (λ all. bytes ≡ take longest_piece all)) where
  -- a head is shorter than a piece, so one that stops in the first piece stops so in the whole file
  pub head_stops : IsValid ex → (rose : Type 0) (fault : CertFault)
      → (fault ≡ Memory) ⊎ ((at : ℕ) × (fault ≡ CertHead at) × TextStops ex Third bytes at)
      → Starts ex files name rose (Err (Text fault))
  head_stops valid rose fault cause = elim cause [
    | inl e ↦ subst (λ it. Starts ex files name rose (Err (Text it))) (sym e) tt
    | inr stops ↦ subst (λ it. Starts ex files name rose (Err (Text it))) (sym stops.1) (record {
      bytes = known.bytes;
      had = known.had;
      such = stops_whole ex valid known.bytes Third longest_piece stops.0 (omega arith)
          (subst (λ xs. TextStops ex Third xs stops.0) known.such stops.2);
    })
  ]

  pub started : (form : Form) (head : Head) (used : ℕ) (piece : Piece) → Heads ex form bytes head used
      → piece.offset ≡ length bytes → piece.ahead ≡ drop used bytes
      → IsStarted ex files name form head piece
  started form head used piece heads far is =
      let size = length-take-le used bytes heads.within in
      let same : take (length (take used bytes)) (take used bytes)
      ≡ take used bytes = take_all (length (take used bytes)) (take used bytes) (omega arith) in
      record {
        front = take used bytes;
        heads = record {
          within = omega arith;
          text = subst (λ xs. IsHeadText ex form xs (penalty_of head)) (sym same) heads.text;
          setting = subst (λ xs. HasLines ex form xs head) (sym same) heads.setting;
        };
        at = record {
          begins = subst (λ xs. MayBe files name (Begins xs))
              (sym (take-append-drop used bytes) ∙ ap (λ xs. take used bytes ++ xs) (sym is))
              (first_begins files name bytes longest_piece known);
          offset = omega (arith, far, size, heads.within, ap length is, length-drop used bytes);
        };
        first = record {
          bytes = known.bytes;
          had = known.had;
          such = sym known.such ∙ sym (take-append-drop used bytes) ∙ ap (λ xs. take used bytes ++ xs) (sym is);
        };
      }

-- a head that a front is stands at the front of all bytes
pub at_front : (ex : Exercise) (form : Form) (head : Head) (bytes front rest : List ℕ) → bytes ≡ front ++ rest
    → Heads ex form front head (length front) → Heads ex form bytes head (length front)
at_front ex form head bytes front rest e heads =
    subst (λ xs. Heads ex form xs head (length front)) (sym e) (heads_before ex form front rest head heads)
