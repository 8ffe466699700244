-- A voice that leaves its last shape settles a strict break in each column with its cell
-- (`leaves_in_all`).
use Rattle.std.proofs.Common.{◌≡◌, ℕ, ◌+◌, ◌^◌, ◌<◌, ◌==◌, true, List, [], ◌∷◌, ◌++◌, length, refl, ap, ◌∙◌, arith}
use Rattle.std.specs.List.{list_any}
use Rattle.std.proofs.lemmas.Bool.{and_from}
use Rattle.std.proofs.lemmas.List.{length-append}
use Rattle.fux_grid.specs.declared.cell.Cell.{Cell}
use Rattle.fux_grid.specs.declared.exercise.Exercise.{Exercise}
use Rattle.rule_law.specs.Forms as forms
use Rattle.rule_law.specs.Growth.{any_below}
use Rattle.rule_law.specs.Rulebooks.{RuleRow, newly_breaks}
use Rattle.rhythm_cadence.specs.Book.{shape_rule}
use Rattle.rhythm_cadence.specs.Parts.{newest_start}
use Rattle.rhythm_cadence.proofs.PartLemmas.{each_of_four}
use Rattle.fux_judge.specs.Rules.{all_sets, rule_at, rules_read}
use Rattle.fux_judge.specs.Penalties.{is_strict_at, newly_broken, newly_broken_at}
use Rattle.fux_judge.proofs.LateLemmas.{any_below-found}
use Rattle.fux_judge.proofs.PruningLemmas.{some_of}

pub shape_row_is : rule_at 3 ≡ shape_rule
unfolding rule_at
shape_row_is = refl

shape_is_read : list_any (λ other. 3 == other) rules_read ≡ true
unfolding rules_read
shape_is_read = refl

alone_is_there : (v : ℕ) → v < 4 → list_any (λ other. 2 ^ v == other) all_sets ≡ true
unfolding forms.all_sets
alone_is_there = each_of_four (λ v. list_any (λ other. 2 ^ v == other) all_sets ≡ true) refl refl refl refl

pub leaves_in_all : (ex : Exercise) (p : List (List Cell)) (col : List Cell) (v : ℕ) → v < 4
    → newly_breaks shape_rule ex (2 ^ v) p col (newest_start (p ++ col ∷ [])) ≡ true
    → list_any (newly_broken ex p col) rules_read ≡ true
leaves_in_all ex p col v four h =
    let start = newest_start (p ++ col ∷ []) in
    let placed : start < length p + 1 = omega (arith, length-append p (col ∷ [])) in
    let here : newly_broken_at 3 ex (2 ^ v) p col start ≡ true =
    and_from (newly_breaks (rule_at 3) ex (2 ^ v) p col start) (is_strict_at 3 ex (2 ^ v) start)
    (ap (λ (it : RuleRow). newly_breaks it ex (2 ^ v) p col start) shape_row_is ∙ h) refl in
    some_of (newly_broken ex p col) 3 rules_read shape_is_read
    (some_of (λ voices. any_below (newly_broken_at 3 ex voices p col) (length p + 1)) (2 ^ v) all_sets
    (alone_is_there v four)
    (any_below-found (newly_broken_at 3 ex (2 ^ v) p col) start (length p + 1) placed here))
