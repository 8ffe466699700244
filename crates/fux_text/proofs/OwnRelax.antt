-- The relax lines of a valid exercise are read back (`relaxes-own`).
use Rattle.std.proofs.Common.{◌≡◌, ℕ, suc, ◌+◌, ◌≤◌, true, false, List, [], ◌∷◌, ◌++◌, length, length-append, map, Ok, refl, arith}
use Rattle.std.specs.Prelude.{All, codes, nat_lt}
use Rattle.std.proofs.lemmas.Bool.{and_from, lt-ltb}
use Rattle.fux_grid.specs.declared.exercise.Exercise.{Exercise}
use Rattle.fux_grid.specs.declared.exercise.Relax.{Relax}
use Rattle.fux_grid.specs.Exercises.{IsRelax}
use Rattle.fux_text.specs.declared.fault.TextKind.TheVariants as kinds
use Rattle.text_lines.specs.Reading.{begins, done, headed, literal, next}
use Rattle.text_lines.specs.Rows.{row_in}
use Rattle.text_lines.specs.Tables.{Table, line_in, table_in}
use Rattle.text_lines.specs.Words.{LineWords}
use Rattle.fux_text.specs.Lines.{relax_words}
use Rattle.fux_text.specs.Relaxing.{relax_lines_of, relax_row}
use Rattle.fux_text.specs.Limits.{most_relax}
use Rattle.fux_text.proofs.NumberWords.{within-own}
use Rattle.fux_text.proofs.Layouts.{left, lines_at, with_line}
use Rattle.fux_text.proofs.OwnLines.{AreRead, many-own}
use Rattle.fux_text.proofs.OwnRanges.{IsSmall}
use Rattle.fux_text.proofs.OwnWords.{rule-own, set-own}

relax_line-own : (ex : Exercise) (r : Relax) (after : ℕ) (l : LineWords) (others : List LineWords) → 1 ≤ ex.voices
    → IsSmall ex → IsRelax ex r
    → line_in kinds.Head kinds.Head (codes "relax") (relax_row ex) (with_line after l (relax_words r) others)
    ≡ Ok (r, left after others)
unfolding line_in row_in headed literal next done
relax_line-own ex r after l others some small fits =
    rw (
      rule-own r.rule fits.least_rule fits.most_rule,
      set-own ex.voices r.voices some small.voices fits.voices,
      within-own 1 ex.bars r.from (omega (arith, fits.within, small.bars)) fits.within.0 (omega (arith, fits.within)),
      within-own r.from ex.bars r.to (omega (arith, fits.within, small.bars)) fits.within.1 fits.within.2,
      within-own 0 10000 r.price (omega (arith, fits.price)) (omega arith) fits.price,
    ) refl

begins_relax : (r : Relax) (after : ℕ) (l : LineWords) (others : List LineWords)
    → begins (codes "relax") (with_line after l (relax_words r) others) ≡ true
unfolding begins
begins_relax r after l others = refl

-- relax lines are read, as long as there are few
relaxes-read : (ex : Exercise) (after : ℕ) (rs before : List Relax) → 1 ≤ ex.voices → IsSmall ex → All (IsRelax ex) rs
    → length before + length rs ≤ most_relax → AreRead (relax_lines_of ex) after before rs (map relax_words rs)
relaxes-read ex after [] before some small fit few = tt
relaxes-read ex after (r ∷ rs) before some small fit few = (
  (λ l others.
      and_from (nat_lt (length before) most_relax) (begins (codes "relax") (with_line after l (relax_words r) others))
      (lt-ltb (length before) most_relax (omega (arith, few))) (begins_relax r after l others)),
  (λ l others. relax_line-own ex r after l others some small (fit 0 r (omega arith))),
  relaxes-read ex after rs (before ++ r ∷ []) some small (λ k d lt. fit (suc k) d (omega arith))
      (omega (arith, few, length-append before (r ∷ []))),
)

pub relaxes-own : (ex : Exercise) (rs : List Relax) (after : ℕ) (lay : ℕ → LineWords) (more : List (List (List ℕ)))
    → 1 ≤ ex.voices → IsSmall ex
    → All (IsRelax ex) rs → length rs ≤ most_relax
    → ((other : ℕ → LineWords) → begins (codes "relax") (left after (lines_at other more)) ≡ false)
    → (behind : ℕ → LineWords) ×
    (table_in (Table.many (relax_lines_of ex)) (left after (lines_at lay (map relax_words rs ++ more)))
    ≡ Ok (rs, left after (lines_at behind more)))
unfolding table_in
relaxes-own ex rs after lay more some small fit few other =
    many-own (relax_lines_of ex) after [] rs (map relax_words rs) lay more
    (relaxes-read ex after rs [] some small fit (omega (arith, few))) other
