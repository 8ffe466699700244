-- Of lines some were kept and the others are still to come (`kept_more`, `kept_end`).
use Rattle.std.proofs.Common.{◌≡◌, ℕ, List, [], ◌++◌, ap, sym, ◌∙◌, append_assoc}
use Rattle.std.proofs.lemmas.List.{append-nil}
use Rattle.cert_file.specs.Kept.{KeepsAll}
use Rattle.cert_file.specs.declared.kept.KeptLines.{KeptLines}

-- of all lines these are still to come, and where all before them are kept, nothing is lost
pub record KeepsBefore (kept : KeptLines) (later lines : List ℕ) : Type 0 where
  pub done : List ℕ
  pub keeps : KeepsAll kept done
  pub whole : done ++ later ≡ lines

pub kept_more : (old new : KeptLines) (line later next lines : List ℕ)
    → ((before : List ℕ) → KeepsAll old before → KeepsAll new (before ++ line))
    → later ≡ line ++ next → KeepsBefore old later lines → KeepsBefore new next lines
kept_more old new line later next lines keeps e kept = record {
  done = kept.done ++ line;
  keeps = keeps kept.done kept.keeps;
  whole = append_assoc kept.done line next ∙ ap (λ bs. kept.done ++ bs) (sym e) ∙ kept.whole;
}

pub kept_end : (kept : KeptLines) (later lines : List ℕ) → later ≡ [] → KeepsBefore kept later lines
    → KeepsAll kept lines
kept_end kept later lines e keeps = λ all.
    keeps.keeps all ∙ sym (append-nil keeps.done) ∙ ap (λ bs. keeps.done ++ bs) (sym e) ∙ keeps.whole
