-- After each prefix of a lawful setting its next column settles what it costs with the one before
-- it, and what the kept tolls cost there (`settles`).
use Rattle.std.specs.Prelude.{◌≡◌, ◌≤◌, ◌<◌, ℕ, suc, ◌+◌, ◌*◌, false, [], ◌∷◌, ◌++◌, List, IsSomeAnd, length, reverse, slice_index_or, refl}
use Rattle.std.proofs.Common.{ap, append_assoc, sym, ◌∙◌, subst, arith}
use Rattle.std.proofs.lemmas.List.{length-append, reverse-append, reverse-reverse, take-append-le, take_all, get_or-append-add}
use Rattle.fux_grid.specs.declared.cell.Cell.{Cell}
use Rattle.fux_grid.specs.declared.exercise.Exercise.{Exercise}
use Rattle.fux_grid.specs.Columns.{Columns}
use Rattle.fux_grid.proofs.OrderlyLemmas.{orderly-fewer}
use Rattle.fux_grid.specs.Exercises.{columns_in}
use Rattle.rule_law.specs.Prefixes.{GoesOn, IsPrefix}
use Rattle.penalty_sheet.specs.declared.sheet.Sheet.{Sheet}
use Rattle.penalty_sheet.specs.Weights.{weight_of}
use Rattle.fux_judge.specs.Lawful.{IsLawful}
use Rattle.fux_judge.specs.Links.{last_column, link_of}
use Rattle.fux_judge.specs.Rules.{cost_at}
use Rattle.fux_judge.specs.Penalties.{breaks_by_column, has_strict_break, newly_paid, settles_break}
use Rattle.fux_judge.proofs.Alive.{alive_if_unbroken, alive_orderly, prefix_before}
use Rattle.fux_judge.proofs.Ends.{none_below}
use Rattle.open_ends.proofs.RunsPaid.{link_and_runs_are_paid}
use Rattle.open_ends.specs.Runs.{run_toll}

-- the first columns of a prefix
prefix_first : (ex : Exercise) (p h : Columns) → IsPrefix ex (p ++ reverse h) → IsPrefix ex p
prefix_first ex p [] whole = let P : Columns → Type 0 = λ q. IsPrefix ex q in subst P (no_more p) whole
  where
    no_more : (q : Columns) → q ++ [] ≡ q
    no_more [] = refl
    no_more (c ∷ q) = ap (λ cols. c ∷ cols) (no_more q)
prefix_first ex p (col ∷ h) whole =
    let P : Columns → Type 0 = λ q. IsPrefix ex q in
    prefix_first ex p h (prefix_before ex (p ++ reverse h) col
    (subst P (ap (λ t. p ++ t) (reverse-append (col ∷ []) h) ∙ sym (append_assoc p (reverse h) (col ∷ []))) whole))

module _ (ex : Exercise) (few : ex.voices ≤ 4) (p : Columns) (col : List Cell) (more : Columns)
    (lawful : IsLawful ex (p ++ col ∷ more)) where
  abbrev s : Columns
  s = p ++ col ∷ more

  alive : has_strict_break ex s ≡ false
  alive = alive_if_unbroken ex few s lawful.setting lawful.unbroken

  -- the column settles no strict break
  unbroken : settles_break ex p col ≡ false
  unbroken =
      let size : length s ≡ length p + suc (length more) = length-append p (col ∷ more) in
      sym (ap (λ q. settles_break ex q (slice_index_or s (length p) []))
      (take-append-le (length p) p (col ∷ more) (omega arith) ∙ take_all (length p) p (omega arith))
      ∙ ap (settles_break ex p) newest)
      ∙ none_below (breaks_by_column ex s) (length s) alive (length p) (omega (arith, size))
    where
      newest : slice_index_or s (length p) [] ≡ col
      newest = ap (λ n. slice_index_or s n []) (plus_none (length p)) ∙ get_or-append-add p (col ∷ more) 0 []
        where
          plus_none : (n : ℕ) → n ≡ n + 0
          plus_none n = omega arith

  goes_on : GoesOn ex p (col ∷ [])
  goes_on =
      let P : Columns → Type 0 = λ q. IsPrefix ex q in
      let behind : s ≡ (p ++ col ∷ []) ++ reverse (reverse more) =
      sym (append_assoc p (col ∷ []) more) ∙ ap (λ t. (p ++ col ∷ []) ++ t) (sym (reverse-reverse more)) in
      record {
        orderly = orderly-fewer ex p (col ∷ more) (alive_orderly ex few s alive);
        longer = prefix_first ex (p ++ col ∷ []) (reverse more) (subst P behind lawful.setting.prefix);
      }

  -- and so it leads on within the exercise
  pub here : length p < columns_in ex
  here = omega (arith, goes_on.longer.few, length-append p (col ∷ []))

  pub settles : ex.cantus_voice < ex.voices → (sheet : Sheet) → IsSomeAnd (link_of ex sheet (length p) (last_column p) col)
      (λ own. own + cost_at run_toll ex (p ++ col ∷ []) (length p) * weight_of sheet run_toll ≤ newly_paid ex sheet p col)
  settles there sheet = link_and_runs_are_paid ex sheet p col there goes_on unbroken
