-- The readings of the rules and tolls are local.
use Rattle.std.specs.Prelude.{◌≡◌, ℕ, Bool, ◌&&◌, nat_lt, List, ◌++◌, Option, Some, None, refl}
use Rattle.std.proofs.Common.{ap}
use Rattle.fux_grid.specs.declared.cell.Cell.{Cell}
use Rattle.fux_grid.specs.declared.exercise.Exercise.{Exercise}
use Rattle.rule_law.specs.Law.{at_once_settles, local_from_row}
use Rattle.rule_law.specs.Places.{IsLocal, SettlesAtEnd, reading_of, settled_by}
use Rattle.rule_law.specs.Voices.{holds_of_pair, on_pair, pair_of}
use Rattle.dissonance_rules.proofs.ClashLaws.{IsAtOnce, ahead_settles_at_end, by_rule, disturbance_is_local, passing_is_local, passing_settles_at_end, resolution_is_local}
use Rattle.dissonance_rules.specs.Clashes.{clash_enough, clash_row, pair_rule}
use Rattle.dissonance_rules.proofs.MixedLaws.{excuse_is_local}
use Rattle.dissonance_rules.specs.Rows.{broken_in, cost_enough, cost_in, enough_after}

-- S11 and S14
pub at_once_is_local : (rule : ℕ) (ex : Exercise) (voices : ℕ)
    → IsLocal ex (reading_of (broken_in rule ex voices)) (settled_by (enough_after rule ex voices))
at_once_is_local rule ex voices =
    local_from_row ex (broken_in rule ex voices) (enough_after rule ex voices) (λ i behind now ahead t h. refl)

-- the others; S19 and S21 read no columns ahead
pair-same : (ex : Exercise) (voices : ℕ) (f g : ℕ → ℕ → Bool) → ((v w : ℕ) → f v w ≡ g v w)
    → on_pair ex f voices ≡ on_pair ex g voices
pair-same ex voices f g same = at (pair_of voices)
  where
    at : (pair : Option (ℕ × ℕ)) → holds_of_pair ex f pair ≡ holds_of_pair ex g pair
    at None = refl
    at (Some pair) = ap (λ b. nat_lt pair.1 ex.voices && b) (same pair.0 pair.1)

pub clash_is_local : (rule : ℕ) (ex : Exercise) (voices : ℕ)
    → IsLocal ex (reading_of (clash_row rule ex voices)) (settled_by (clash_enough rule ex voices))
clash_is_local rule ex voices =
    by_rule (λ r. IsLocal ex (reading_of (clash_row r ex voices)) (settled_by (clash_enough r ex voices)))
    (passing_is_local ex voices) (excuse_is_local ex voices) (resolution_is_local ex voices)
    (disturbance_is_local ex voices) others rule
  where
    blind : (r : ℕ) → IsAtOnce r
        → (i : ℕ) (behind : List (List Cell)) (now : List Cell) (ahead t : List (List Cell)) (v w : ℕ)
        → pair_rule r ex i behind now (ahead ++ t) v w ≡ pair_rule r ex i behind now ahead v w
    blind r at_once i behind now ahead t v w =
        rw (at_once.no_excuse, at_once.no_passing, at_once.no_resolution, at_once.no_disturbance) refl

    others : (r : ℕ) → IsAtOnce r
        → IsLocal ex (reading_of (clash_row r ex voices)) (settled_by (clash_enough r ex voices))
    others r at_once =
        local_from_row ex (clash_row r ex voices) (clash_enough r ex voices) (λ i behind now ahead t h.
        pair-same ex voices (pair_rule r ex i behind now (ahead ++ t)) (pair_rule r ex i behind now ahead)
        (blind r at_once i behind now ahead t))

pub clash_settles_at_end : (rule : ℕ) (ex : Exercise) (voices : ℕ)
    → SettlesAtEnd ex (settled_by (clash_enough rule ex voices))
clash_settles_at_end rule ex voices =
    by_rule (λ r. SettlesAtEnd ex (settled_by (clash_enough r ex voices)))
    (passing_settles_at_end ex voices) (passing_settles_at_end ex voices) (ahead_settles_at_end 4 ex)
    (ahead_settles_at_end 3 ex)
    (λ r at_once. rw (at_once.no_passing, at_once.no_excuse, at_once.no_resolution, at_once.no_disturbance)
    (at_once_settles ex)) rule

pub cost_is_local : (toll : ℕ) (ex : Exercise)
    → IsLocal ex (reading_of (cost_in toll ex)) (settled_by (cost_enough toll ex))
cost_is_local toll ex = local_from_row ex (cost_in toll ex) (cost_enough toll ex) (λ i behind now ahead t h. refl)

pub cost_settles_at_end : (toll : ℕ) (ex : Exercise) → SettlesAtEnd ex (settled_by (cost_enough toll ex))
cost_settles_at_end toll ex = at_once_settles ex
