-- Lines of one name are read one behind the other, up to a line of another name (`many-own`).
use Rattle.std.proofs.Common.{◌≡◌, ℕ, suc, true, false, List, [], ◌∷◌, ◌++◌, Ok, sym, ap, ◌∙◌, append_assoc}
use Rattle.std.specs.Prelude.{⊤}
use Rattle.std.proofs.lemmas.Bool.{and_right}
use Rattle.std.proofs.lemmas.List.{append-nil}
use Rattle.text_lines.specs.Reading.{begins}
use Rattle.text_lines.specs.Tables.{Many, goes_on, line_in, many_in}
use Rattle.text_lines.specs.Words.{LineWords}
use Rattle.fux_text.specs.declared.fault.TextKind.{TextKind}
use Rattle.fux_text.proofs.Layouts.{left, lines_at, with_line}

-- lines of these words are read as these, wherever they stand
abbrev pub AreRead : {V : Type 0} → Many TextKind V → ℕ → List V → List V → List (List (List ℕ)) → Type 0
AreRead m after before [] [] = ⊤
AreRead m after before [] (words ∷ lines) = ⊥
AreRead m after before (x ∷ xs) [] = ⊥
AreRead m after before (x ∷ xs) (words ∷ lines) =
    ((l : LineWords) (others : List LineWords) → goes_on m before (with_line after l words others) ≡ true)
    × ((l : LineWords) (others : List LineWords)
    → line_in m.other m.other m.name (m.row before) (with_line after l words others) ≡ Ok (x, left after others))
    × AreRead m after (before ++ x ∷ []) xs lines

pub many-own : {V : Type 0} (m : Many TextKind V) (after : ℕ) (before xs : List V) (lines : List (List (List ℕ)))
    (lay : ℕ → LineWords) (more : List (List (List ℕ))) → AreRead m after before xs lines
    → ((other : ℕ → LineWords) → begins m.name (left after (lines_at other more)) ≡ false)
    → (behind : ℕ → LineWords)
    × (many_in m before after (lines_at lay (lines ++ more)) ≡ Ok (before ++ xs, left after (lines_at behind more)))
unfolding many_in
many-own m after before [] [] lay [] are other =
    (lay, ap (λ found. Ok (found, left after [])) (sym (append-nil before)))
many-own m after before [] [] lay (ws ∷ more) are other = (
  lay,
  rw (and_right (m.goes before) (begins m.name (left after (lines_at lay (ws ∷ more)))) (other lay))
      (ap (λ found. Ok (found, left after (lines_at lay (ws ∷ more)))) (sym (append-nil before))),
)
many-own m after before [] (words ∷ lines) lay more are other = absurd are
many-own m after before (x ∷ xs) [] lay more are other = absurd are
many-own m after before (x ∷ xs) (words ∷ lines) lay more are other =
    let rest = many-own m after (before ++ x ∷ []) xs lines (λ k. lay (suc k)) more are.2 other in
    let others = lines_at (λ k. lay (suc k)) (lines ++ more) in (
      rest.0,
      rw (are.0 (lay 0) others, are.1 (lay 0) others)
          (rest.1 ∙ ap (λ found. Ok (found, left after (lines_at rest.0 more))) (append_assoc before (x ∷ []) xs)),
    )
