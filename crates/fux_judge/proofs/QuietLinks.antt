-- Where neither a bar nor a note begins, no rule of neighbors is broken and no toll of neighbors
-- costs anything: a column costs nothing by itself (`column_quiet`), nor with the one before it
-- (`pair_quiet`).
use Rattle.std.proofs.Common.{◌≡◌, ℕ, ◌+◌, ◌*◌, ◌==◌, ◌&&◌, Bool, true, false, if◌then◌else◌}
use Rattle.std.proofs.Common.{List, [], Option, Some, None, refl, ap, sym, ◌∙◌, arith}
use Rattle.std.specs.Prelude.{not, nat_le, nat_lt}
use Rattle.std.specs.Int.{from_bool}
use Rattle.std.specs.List.{list_any, sum_by}
use Rattle.std.proofs.lemmas.Bool.{and_right}
use Rattle.fux_grid.specs.declared.cell.Cell.{Cell}
use Rattle.fux_grid.specs.declared.cell.Cell.TheVariants.{Rest, Hold, Start}
use Rattle.fux_grid.specs.declared.exercise.Exercise.{Exercise}
use Rattle.fux_grid.specs.Cells.{cell_in}
use Rattle.fux_grid.specs.Columns.{newest_column}
use Rattle.rule_law.specs.Bars.{begins_bar, begins_inner_bar}
use Rattle.rule_law.specs.Growth.{sum_by-none}
use Rattle.rule_law.specs.Nearby.{previous_pitches}
use Rattle.rule_law.specs.Pairs.{one_starts, sound_perfect}
use Rattle.rule_law.specs.Places.{Row}
use Rattle.rule_law.specs.Quiet.{is_quiet, quiet_alike, quiet_cell, quiet_inner, quiet_pair, quiet_slot}
use Rattle.rule_law.specs.Quiet.{count_free-none, count_pairs-none, either_none, on_pair-none}
use Rattle.rule_law.specs.Rulebooks.{RuleRow, TollRow, no_rule, no_toll}
use Rattle.rule_law.specs.Terms.{sounds, starts}
use Rattle.motion_rules.specs.Book as motion_book
use Rattle.motion_rules.specs.InnerVoices.{inner_moves}
use Rattle.motion_rules.proofs.Quiet as motion_quiet
use Rattle.motion_rules.specs.Rows.{are_outer}
use Rattle.dissonance_rules.specs.Book as dissonance_book
use Rattle.rhythm_cadence.specs.Book as rhythm_book
use Rattle.rhythm_cadence.proofs.Quiet.{none_missing}
use Rattle.doubling_rules.specs.Rows.{are_far_apart, breaks_in_column, cost_of_column, count_thirds}
use Rattle.doubling_rules.specs.Rows.{is_before_last_bar, sounds_leading, straying_notes, strays}
use Rattle.penalty_sheet.specs.declared.sheet.Sheet.{Sheet}
use Rattle.penalty_sheet.specs.Weights.{weight_of}
use Rattle.fux_judge.specs.Crates.{RuleCrate, Melody, Motion, Dissonance, Rhythm, Doubling, crate_with, crate_with_toll, rule_by, toll_by}
use Rattle.fux_judge.proofs.Facts.{rule_keeps, toll_keeps}
use Rattle.fux_judge.specs.Links.{behind_of, breaks_between, breaks_strictly, column_of, column_rules, column_tolls}
use Rattle.fux_judge.specs.Links.{cost_between, is_of_neighbors, is_rule_between, is_toll_between}
use Rattle.fux_judge.specs.Links.{pair_of, pair_rules, pair_tolls}
use Rattle.fux_judge.specs.Penalties.{is_strict_at}
use Rattle.fux_judge.specs.Rules.{all_sets, breaks, costs, rule_at, toll_at}
use Rattle.fux_judge.proofs.CrateLemmas.{rule_of_crate, toll_of_crate}
use Rattle.fux_judge.proofs.LinkLemmas.{column_whole, pair_whole, soon_dissonance, soon_motion, soon_rhythm}
use Rattle.fux_judge.proofs.LinkLemmas.{doubling_row, doubling_toll, inner_toll_row, ligature_toll_row, motion_toll}
use Rattle.fux_judge.proofs.LinkLemmas.{other_rhythm_toll}
use Rattle.fux_judge.proofs.QuietLemmas.{none_passes}

module _ (ex : Exercise) (i : ℕ) (before : Option (List Cell)) (next : List Cell) (quiet : is_quiet i next ≡ true) where
  abbrev read : {R : Type 0} → Row R → R
  read row = row i (behind_of before) next []

  -- no rule of neighbors is broken
  module _ (rule : ℕ) (between : is_rule_between rule ≡ true) (voices : ℕ) where
    by_law : (it : RuleRow) → rule_at rule ≡ it → it.late ≡ false → read (breaks rule ex voices) ≡ false
    by_law it e soon =
        (rule_keeps rule).quiet (ap (λ (r : RuleRow). r.late) e ∙ soon) ex voices i (behind_of before) next quiet

    undoubled : breaks_in_column ex voices i next ≡ false
    undoubled =
        on_pair-none ex _ voices
        (λ v w.
        and_right (is_before_last_bar ex i && sounds_leading ex next v && sounds_leading ex next w)
        (one_starts next v w)
        (quiet_pair i next quiet v w))

    unbroken : read (breaks rule ex voices) ≡ false
    unbroken = at (crate_with rule) refl
      where
        at : (crate : Option RuleCrate) → crate_with rule ≡ crate → read (breaks rule ex voices) ≡ false
        at None its = by_law no_rule (rule_of_crate rule None its) refl
        at (Some Melody) its = by_law (rule_by (Some Melody) rule) (rule_of_crate rule (Some Melody) its) refl
        at (Some Motion) its = by_law (motion_book.at_once_row rule) (soon_motion rule between its) refl
        at (Some Dissonance) its = by_law (dissonance_book.at_once_row rule) (soon_dissonance rule between its) refl
        at (Some Rhythm) its = by_law (rhythm_book.at_once_row rule) (soon_rhythm rule between its) refl
        at (Some Doubling) its =
            ap (λ (r : Row Bool). read r) (doubling_row rule between ex voices its) ∙ undoubled

  none_between : (rule voices : ℕ) → breaks_between ex i before next rule voices ≡ false
  none_between rule voices = at (is_of_neighbors (rule_at rule).kind) refl
    where
      at : (b : Bool) → is_of_neighbors (rule_at rule).kind ≡ b → (b && read (breaks rule ex voices)) ≡ false
      at true between = unbroken rule between voices
      at false other = refl

  pub rules_none : (rules : List ℕ) → list_any (breaks_strictly ex i before next) rules ≡ false
  rules_none rules =
      none_passes (breaks_strictly ex i before next) rules
      (λ rule.
      none_passes (λ voices. breaks_between ex i before next rule voices && is_strict_at rule ex voices i) all_sets
      (λ voices. ap (λ b. b && is_strict_at rule ex voices i) (none_between rule voices)))

  -- and no toll of neighbors costs anything
  in_range : (v : ℕ) (c : Cell) → starts c ≡ false → strays ex v i c ≡ false
  in_range v Rest h = refl
  in_range v (Hold p) h = refl
  in_range v (Start p) h = cc

  none_stray : straying_notes ex i next ≡ 0
  unfolding straying_notes
  none_stray =
      count_free-none ex _
      (λ v.
      and_right (nat_lt v ex.voices) (strays ex v i (cell_in next v))
      (in_range v (cell_in next v) (quiet_cell i next quiet v)))

  no_doubling : (toll : ℕ) → cost_of_column toll ex i next ≡ 0
  no_doubling toll =
      either_none (toll == 3) _ _ 0
      (ap (λ b. from_bool (b && sounds (cell_in next 0) && (count_thirds next == 0)))
      (and_right (nat_le 3 ex.voices) (begins_inner_bar ex i) (quiet_inner ex i next quiet)))
      (either_none (toll == 4) _ _ 0
      (ap
      (λ b.
      if b
      then from_bool (are_far_apart 11 next 0 1) + from_bool (are_far_apart 7 next 1 2) + from_bool
      (are_far_apart 7 next 2 3)
      else 0)
      (quiet_slot i next quiet))
      (either_none (toll == 5) _ _ 0
      (ap (λ b. from_bool (b && nat_le 2 (count_thirds next)))
      (and_right (nat_le 3 ex.voices) (begins_bar i) (quiet_slot i next quiet)))
      none_stray))

  no_inner_moves : inner_moves ex (newest_column (behind_of before)) next ≡ 0
  no_inner_moves =
      either_none (nat_le 3 ex.voices) _ _ 0
      (count_pairs-none _
      (λ v w.
      and_right (not (are_outer ex v w)) _
      (ap (λ b. b && sound_perfect next v w) (quiet_alike i (newest_column (behind_of before)) next quiet v w)))) refl

  module _ (toll : ℕ) (between : is_toll_between toll ≡ true) where
    toll_by_law : (it : TollRow) → toll_at toll ≡ it → it.late ≡ false → read (costs toll ex) ≡ 0
    toll_by_law it e soon =
        (toll_keeps toll).quiet (ap (λ (t : TollRow). t.late) e ∙ soon) ex i (behind_of before) next quiet

    of_motion : crate_with_toll toll ≡ Some Motion → (b : Bool) → (toll == 12) ≡ b → read (costs toll ex) ≡ 0
    of_motion its true e = ap (λ (r : Row ℕ). read r) (inner_toll_row toll between ex its e) ∙ no_inner_moves
    of_motion its false e =
        ap (λ (r : Row ℕ). read r) (motion_toll toll between ex its e)
        ∙ motion_quiet.quiet_tolls ex i next quiet toll (newest_column (behind_of before))
        (previous_pitches (behind_of before))

    of_rhythm : crate_with_toll toll ≡ Some Rhythm → (b : Bool) → (toll == 15) ≡ b → read (costs toll ex) ≡ 0
    of_rhythm its true e = ap (λ (r : Row ℕ). read r) (ligature_toll_row toll between ex its e)
        ∙ none_missing ex i next (quiet_inner ex i next quiet)
    of_rhythm its false e = ap (λ (r : Row ℕ). read r) (other_rhythm_toll toll between ex its e)

    pub free : read (costs toll ex) ≡ 0
    free = at (crate_with_toll toll) refl
      where
        at : (crate : Option RuleCrate) → crate_with_toll toll ≡ crate → read (costs toll ex) ≡ 0
        at None its = toll_by_law no_toll (toll_of_crate toll None its) refl
        at (Some Melody) its = toll_by_law (toll_by (Some Melody) toll) (toll_of_crate toll (Some Melody) its) refl
        at (Some Motion) its = of_motion its (toll == 12) refl
        at (Some Dissonance) its =
            toll_by_law (toll_by (Some Dissonance) toll) (toll_of_crate toll (Some Dissonance) its) refl
        at (Some Rhythm) its = of_rhythm its (toll == 15) refl
        at (Some Doubling) its =
            ap (λ (r : Row ℕ). read r) (doubling_toll toll between ex its) ∙ no_doubling toll

  free_between : (toll : ℕ) → cost_between ex i before next toll ≡ 0
  free_between toll = at (is_of_neighbors (toll_at toll).kind) refl
    where
      at : (b : Bool) → is_of_neighbors (toll_at toll).kind ≡ b → (if b then read (costs toll ex) else 0) ≡ 0
      at true between = free toll between
      at false other = refl

  pub tolls_none : (sheet : Sheet) (tolls : List ℕ)
      → sum_by (λ toll. cost_between ex i before next toll * weight_of sheet toll) tolls ≡ 0
  tolls_none sheet tolls =
      sum_by-none (λ toll. cost_between ex i before next toll * weight_of sheet toll) tolls
      (λ toll. ap (λ n. n * weight_of sheet toll) (free_between toll) ∙ nothing (weight_of sheet toll))
    where
      nothing : (w : ℕ) → 0 * w ≡ 0
      nothing w = omega arith

pub column_quiet : (ex : Exercise) (i : ℕ) (next : List Cell) → is_quiet i next ≡ true → (sheet : Sheet)
    → Some 0 ≡ column_of ex sheet i next
column_quiet ex i next quiet sheet =
    ap Some (sym (tolls_none ex i None next quiet sheet column_tolls))
    ∙ column_whole ex i None next sheet (sym (rules_none ex i None next quiet column_rules))

pub pair_quiet : (ex : Exercise) (i : ℕ) (before : Option (List Cell)) (next : List Cell) → is_quiet i next ≡ true
    → (sheet : Sheet)
    → Some 0 ≡ pair_of ex sheet i before next
pair_quiet ex i before next quiet sheet =
    ap Some (sym (tolls_none ex i before next quiet sheet pair_tolls))
    ∙ pair_whole ex i before next sheet (sym (rules_none ex i before next quiet pair_rules))
