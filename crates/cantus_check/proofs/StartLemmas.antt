-- How the reading of a file starts: behind its head (`started`), or where a head stops
-- (`head_stops`).
use Rattle.std.proofs.Common.{◌≡◌, ℕ, ◌+◌, ◌⊎◌, inl, inr, ◌++◌, Err, List, length, take, drop, refl, sym, ap, subst, ◌∙◌, arith, length-drop}
use Rattle.std.proofs.lemmas.List.{length-take-le, take-append-drop}
use Rattle.cert_file.specs.Readings.{Begins, Files, MayBe, longest_piece, reading_from}
use Rattle.cert_file.specs.declared.fault.ReadFault.TheVariants.{Text}
use Rattle.cert_file.proofs.FileLemmas.{first_begins}
use Rattle.cert_file.proofs.PieceLemmas.{nothing_begins}
use Rattle.cert_text.specs.declared.answers.CertFault.{CertFault}
use Rattle.cert_text.specs.declared.answers.CertFault.TheVariants.{CertHead, Memory}
use Rattle.cert_text.specs.Pieces.{GoesTo, Stands}
use Rattle.cantus_check.specs.Heads.{IsHeadText, Said}
use Rattle.cert_text.proofs.Fronts.{goes_to-whole}
use Rattle.cantus_check.proofs.HeadRows.{heads_are_short}
use Rattle.cantus_check.specs.Starts.{Starts}
use Rattle.cert_file.specs.Subjects.{IsOpened}

module _ (files : Files) (name bytes : List ℕ) (known : MayBe files name (λ all. bytes ≡ take longest_piece all)) where
  -- a head is shorter than a piece, so one that stops in the first piece stops so in the whole file
  pub head_stops : (rose : Type 0) (fault : CertFault)
      → (fault ≡ Memory) ⊎ ((at : ℕ) × (fault ≡ CertHead at) × GoesTo IsHeadText bytes at)
      → Starts files name rose (Err (Text fault))
  head_stops rose fault cause = elim cause [
    | inl e ↦ subst (λ it. Starts files name rose (Err (Text it))) (sym e) tt
    | inr stops ↦ subst (λ it. Starts files name rose (Err (Text it))) (sym stops.1) (record {
      bytes = known.bytes;
      had = known.had;
      such = goes_to-whole IsHeadText longest_piece heads_are_short known.bytes stops.0
          (subst (λ xs. GoesTo IsHeadText xs stops.0) known.such stops.2);
    })
  ]

  pub started : (said : Said) (used offset : ℕ) (ahead : List ℕ) → Stands IsHeadText bytes said used
      → offset ≡ length bytes → ahead ≡ drop used bytes
      → IsOpened IsHeadText files name said (reading_from used ahead offset)
  started said used offset ahead stands far is =
      let size = length-take-le used bytes stands.within in
      record {
        front = take used bytes;
        heads = stands.text;
        at = record {
          begins = subst (λ xs. MayBe files name (Begins xs))
              (sym (take-append-drop used bytes) ∙ ap (λ xs. take used bytes ++ xs) (sym is))
              (first_begins files name bytes longest_piece known);
          next = omega (arith, size);
          clear = refl;
          line = nothing_begins;
          unended = tt;
          offset = omega (arith, far, size, stands.within, ap length is, length-drop used bytes);
        };
      }
