-- What a quiet column settles: no strict break but of late rules (`still_breaks`), and of charges
-- Q16 and the prices of late rules alone (`still_pays`).
use Rattle.std.proofs.Common.{◌≡◌, ◌<◌, ◌+◌, ◌||◌, ℕ, true, None, List, [], ◌∷◌, length, ap, sym, ◌∙◌, arith}
use Rattle.std.specs.List.{list_any, sum_by}
use Rattle.fux_grid.specs.declared.cell.Cell.{Cell}
use Rattle.fux_grid.specs.declared.exercise.Exercise.{Exercise}
use Rattle.rule_law.specs.Prefixes.{GoesOn}
use Rattle.rule_law.specs.Quiet.{is_quiet}
use Rattle.penalty_sheet.specs.declared.sheet.Sheet.{Sheet}
use Rattle.fux_judge.specs.Links.{column_tolls}
use Rattle.fux_judge.specs.Penalties.{newly_broken, newly_paid}
use Rattle.fux_judge.specs.Rules.{late_rules, rules_at_once, rules_read}
use Rattle.fux_judge.specs.Steps.{breaks_late, prices_late, toll_late}
use Rattle.fux_judge.proofs.OwnTolls.{own_apart}
use Rattle.fux_judge.proofs.QuietLemmas.{all_numbers, none_charged, none_priced, none_strict}
use Rattle.fux_judge.proofs.QuietLinks.{tolls_none}
use Rattle.fux_judge.proofs.QuietTolls.{pattern_alone}
use Rattle.fux_judge.proofs.StepLemmas.{breaks_by_parts}
use Rattle.fux_judge.proofs.StepPlaces.{newly_paid-parts}

module _ (ex : Exercise) (p : List (List Cell)) (col : List Cell) (on : GoesOn ex p (col ∷ []))
    (quiet : is_quiet (length p) col ≡ true) where
  pub still_breaks : list_any (newly_broken ex p col) rules_read ≡ list_any (breaks_late ex p col) late_rules
  still_breaks =
      breaks_by_parts ex p col on
      ∙ ap (λ b. b || list_any (breaks_late ex p col) late_rules)
      (none_strict ex p col quiet rules_at_once all_numbers)

  pub still_pays : ex.cantus_voice < ex.voices → (sheet : Sheet) (tolls later : ℕ)
      → tolls ≡ toll_late ex sheet p col 16 → later ≡ sum_by (prices_late ex p col) late_rules
      → tolls + later ≡ newly_paid ex sheet p col
  still_pays there sheet tolls later t f =
      together _ _ _ _ _ _ _ _ t f (pattern_alone ex there sheet p col on quiet) (own_apart ex sheet p col on)
      (none_charged ex p col quiet sheet) (tolls_none ex (length p) None col quiet sheet column_tolls)
      (none_priced ex p col quiet rules_at_once all_numbers)
      ∙ sym (newly_paid-parts ex p col sheet on)
    where
      together : (soon late x own y price k pattern : ℕ) → tolls ≡ pattern → later ≡ k → pattern ≡ y
          → soon + late ≡ x + own + y → x ≡ 0 → own ≡ 0 → price ≡ 0 → tolls + later ≡ soon + late + (price + k)
      together soon late x own y price k pattern t f same sum none free priceless = omega arith
