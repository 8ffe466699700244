-- What a column breaks by what it sounds it breaks after every prefix, or after none; and a column
-- that breaks such a rule is dead after each.
use Rattle.std.proofs.Common.{◌≡◌, ℕ, ◌==◌, ◌&&◌, ◌||◌, Bool, true, false, List, [], ◌∷◌, ◌++◌, length, reverse, subst, refl, ap, sym, ◌∙◌}
use Rattle.std.specs.Prelude.{None}
use Rattle.std.specs.List.{AllByRecursion, list_all, list_any}
use Rattle.std.proofs.lemmas.Bool.{eqb-true}
use Rattle.fux_grid.specs.declared.cell.Cell.{Cell}
use Rattle.fux_grid.specs.declared.exercise.Exercise.{Exercise}
use Rattle.rule_law.specs.Growth.{list_any-same}
use Rattle.rule_law.specs.Law.{reading-at_end}
use Rattle.fux_judge.specs.Always.{IsAlwaysDead, sounding_rules}
use Rattle.fux_judge.specs.Links.{breaks_between, breaks_strictly, is_of_neighbors}
use Rattle.fux_judge.specs.Rules.{all_sets, breaks, is_broken, is_late, rule_at, rules_read}
use Rattle.fux_judge.specs.Penalties.{is_strict_at, newly_broken}
use Rattle.fux_judge.proofs.LinkLemmas.{any_within}
use Rattle.fux_judge.proofs.StepPlaces.{newly_broken-at_once}

-- what holds of each item of a list holds of one that is an item
each_of : (P : ℕ → Type 0) (xs : List ℕ) → AllByRecursion P xs → (x : ℕ) → list_any (λ y. x == y) xs ≡ true → P x
each_of P [] all x h = cc
each_of P (y ∷ ys) all x h = at (x == y) refl h (each_of P ys all.1 x)
  where
    at : (t : Bool) → (x == y) ≡ t → (t || list_any (λ z. x == z) ys) ≡ true
        → (list_any (λ z. x == z) ys ≡ true → P x) → P x
    at true e k later = subst P (sym (eqb-true x y e)) all.0
    at false e k later = later k

module _ (ex : Exercise) (p : List (List Cell)) (col : List Cell) where
  abbrev pub breaks_here : ℕ → Bool
  breaks_here rule =
      list_any (λ v. is_broken rule ex v (p ++ col ∷ []) (length p) && is_strict_at rule ex v (length p)) all_sets

  -- a rule that reads nothing before the column
  read_alone : (rule : ℕ) → is_of_neighbors (rule_at rule).kind ≡ true
      → ((behind : List (List Cell)) (v : ℕ) → breaks rule ex v (length p) behind col []
      ≡ breaks rule ex v (length p) [] col [])
      → list_any (λ v. is_broken rule ex v (p ++ col ∷ []) (length p) && is_strict_at rule ex v (length p)) all_sets
      ≡ breaks_strictly ex (length p) None col rule
  read_alone rule kind reads =
      list_any-same (λ v. is_broken rule ex v (p ++ col ∷ []) (length p) && is_strict_at rule ex v (length p))
      (λ v. breaks_between ex (length p) None col rule v && is_strict_at rule ex v (length p)) all_sets
      (λ v. ap (λ b. b && is_strict_at rule ex v (length p))
      (reading-at_end (breaks rule ex v) p col ∙ reads (reverse p) v
      ∙ ap (λ b. b && breaks rule ex v (length p) [] col []) (sym kind)))

  -- so is each of those of what is sounded
  pub sounds_alone : (rule : ℕ) → list_any (λ y. rule == y) sounding_rules ≡ true
      → breaks_here rule ≡ breaks_strictly ex (length p) None col rule
  unfolding rule_at
  sounds_alone =
      each_of (λ rule. breaks_here rule ≡ breaks_strictly ex (length p) None col rule) sounding_rules (
        read_alone 10 refl (λ behind v. refl),
        (
          read_alone 11 refl (λ behind v. refl),
          (
            read_alone 13 refl (λ behind v. refl),
            (
              read_alone 14 refl (λ behind v. refl),
              (read_alone 24 refl (λ behind v. refl), tt),
            ),
          ),
        ),
      )

-- tests that agree on the rules of sounds
same_of_sounds : (f g : ℕ → Bool) → f 10 ≡ g 10 → f 11 ≡ g 11 → f 13 ≡ g 13 → f 14 ≡ g 14 → f 24 ≡ g 24
    → list_any f sounding_rules ≡ list_any g sounding_rules
same_of_sounds f g a b c d e = rw (a, b, c, d, e) refl

sounds_soon : (rule : ℕ) → list_any (λ y. rule == y) sounding_rules ≡ true → is_late rule ≡ false
unfolding rule_at
sounds_soon = each_of (λ rule. is_late rule ≡ false) sounding_rules (refl, (refl, (refl, (refl, (refl, tt)))))

all_read : list_all (λ x. list_any (λ y. y == x) rules_read) sounding_rules ≡ true
unfolding rules_read
all_read = refl

-- so a strict break of one is settled by the column after each prefix of its length
pub sounding_dead : (ex : Exercise) (i : ℕ) (col : List Cell)
    → list_any (breaks_strictly ex i None col) sounding_rules ≡ true → IsAlwaysDead ex i col
sounding_dead ex i col broken p long =
    let same : (rule : ℕ) → list_any (λ y. rule == y) sounding_rules ≡ true
    → newly_broken ex p col rule ≡ breaks_strictly ex (length p) None col rule =
    λ rule h. newly_broken-at_once ex p col rule (sounds_soon rule h) ∙ sounds_alone ex p col rule h in
    any_within (newly_broken ex p col) sounding_rules rules_read all_read
    (same_of_sounds (newly_broken ex p col) (breaks_strictly ex (length p) None col)
    (same 10 refl) (same 11 refl) (same 13 refl) (same 14 refl) (same 24 refl)
    ∙ ap (λ n. list_any (breaks_strictly ex n None col) sounding_rules) long ∙ broken)
