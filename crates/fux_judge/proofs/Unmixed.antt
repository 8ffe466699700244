-- S27 and S28 are of mixed exercises: a column settles no break of them in another one
-- (`unmixed_unbroken`).
use Rattle.std.proofs.Common.{◌≡◌, ℕ, ◌+◌, ◌==◌, ◌&&◌, ◌||◌, Bool, true, false, List, [], ◌∷◌, ◌++◌, None, length, refl, ap, ◌∙◌}
use Rattle.std.specs.Prelude.{is_some}
use Rattle.std.proofs.lemmas.Bool.{eqb-true}
use Rattle.fux_grid.specs.declared.cell.Cell.{Cell}
use Rattle.fux_grid.specs.declared.exercise.Exercise.{Exercise}
use Rattle.fux_grid.specs.Exercises.{is_mixed}
use Rattle.rule_law.specs.Growth.{any_below, newly}
use Rattle.rule_law.specs.Quiet.{on_pair-none}
use Rattle.rule_law.specs.Voices.{is_free}
use Rattle.rule_law.specs.Ways.{holds_some_way}
use Rattle.dissonance_rules.specs.Clashes.{clash_row, clash_rule}
use Rattle.dissonance_rules.specs.Mixed.{clash_unexcused, is_disturbed}
use Rattle.fux_judge.specs.Penalties.{is_strict_at, newly_broken, newly_broken_at}
use Rattle.fux_judge.specs.Rules.{all_sets, breaks, is_broken, is_settled, rule_at}
use Rattle.fux_judge.proofs.Ends.{from_none_below}
use Rattle.fux_judge.proofs.QuietLemmas.{none_passes}

-- the rules of mixed exercises
abbrev pub is_of_mixed : ℕ → Bool
is_of_mixed rule = (rule == 27) || (rule == 28)

fails_first : (a b c : Bool) → a ≡ false → (a && b && c) ≡ false
fails_first true b c h = cc
fails_first false b c h = refl

fails_each_way : (a b f g : Bool) → f ≡ false → g ≡ false → ((a && f) || (b && g)) ≡ false
fails_each_way true true f g h k = rw (h, k) refl
fails_each_way true false f g h k = rw h refl
fails_each_way false true f g h k = k
fails_each_way false false f g h k = refl

fails_between : (a b c : Bool) → b ≡ false → (a && b && c) ≡ false
fails_between true true c h = cc
fails_between true false c h = refl
fails_between false b c h = refl

module _ (ex : Exercise) (unmixed : ex.mixed ≡ None) where
  of_one : is_mixed ex ≡ false
  of_one = ap is_some unmixed

  module _ (voices i : ℕ) (behind : List (List Cell)) (now : List Cell) (ahead : List (List Cell)) where
    excused : (v w : ℕ) → clash_unexcused ex i behind now ahead v w ≡ false
    excused v w = fails_first (is_mixed ex) _ _ of_one

    undisturbed : (v w : ℕ) → is_disturbed ex i now ahead v w ≡ false
    undisturbed v w = fails_first (is_mixed ex) _ _ of_one

    none_unexcused : clash_row 27 ex voices i behind now ahead ≡ false
    none_unexcused = on_pair-none ex (clash_unexcused ex i behind now ahead) voices excused

    none_disturbed : clash_row 28 ex voices i behind now ahead ≡ false
    none_disturbed =
        on_pair-none ex (holds_some_way ex (clash_rule 28 ex i behind now ahead)) voices
        (λ v w. fails_each_way (is_free ex v) (is_free ex w) (is_disturbed ex i now ahead v w)
        (is_disturbed ex i now ahead w v) (undisturbed v w) (undisturbed w v))

    unbroken : (rule : ℕ) → is_of_mixed rule ≡ true → breaks rule ex voices i behind now ahead ≡ false
    unfolding rule_at
    unbroken rule h = at (rule == 27) (rule == 28) refl refl h
      where
        at : (a b : Bool) → (rule == 27) ≡ a → (rule == 28) ≡ b → (a || b) ≡ true
            → breaks rule ex voices i behind now ahead ≡ false
        at true b e f h = ap (λ r. breaks r ex voices i behind now ahead) (eqb-true rule 27 e) ∙ none_unexcused
        at false true e f h = ap (λ r. breaks r ex voices i behind now ahead) (eqb-true rule 28 f) ∙ none_disturbed
        at false false e f h = cc

  pub unmixed_unbroken : (p : List (List Cell)) (col : List Cell) (rule : ℕ) → is_of_mixed rule ≡ true
      → newly_broken ex p col rule ≡ false
  unmixed_unbroken p col rule h =
      none_passes (λ voices. any_below (newly_broken_at rule ex voices p col) (length p + 1)) all_sets
      (λ voices. from_none_below (newly_broken_at rule ex voices p col) (length p + 1)
      (λ i k. fails_between (newly (is_settled rule ex voices) p col i) (is_broken rule ex voices (p ++ col ∷ []) i)
      (is_strict_at rule ex voices i) (unbroken voices i _ _ _ rule h)))
