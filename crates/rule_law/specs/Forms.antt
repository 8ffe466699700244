-- The sets of voices that a rule speaks of, and where in a setting it may stand.
use Rattle.std.specs.Prelude.{◌≡◌, ℕ, ◌==◌, Bool, true, false, ◌&&◌, List, [], ◌∷◌, if◌then◌else◌, refl}
use Rattle.std.specs.List.{list_any, sum_by}
use Rattle.std.proofs.Common.{arith}
use Rattle.std.proofs.lemmas.Bool.{eqb-true}
use Rattle.fux_grid.specs.declared.exercise.Exercise.{Exercise}
use Rattle.fux_grid.specs.Exercises.{bar_of}
use Rattle.rule_law.specs.declared.table.Form.{Form}
use Rattle.rule_law.specs.declared.table.Form.TheVariants.{OneVoice, TwoVoices, AllVoices}
use Rattle.rule_law.specs.declared.table.Stands.{Stands}
use Rattle.rule_law.specs.declared.table.Stands.TheVariants.{Anywhere, AtBars, AtTheEnd}
use Rattle.rule_law.specs.Bars.{begins_bar}
use Rattle.rule_law.specs.Voices.{voice_sets, pair_sets, on_voice, on_pair}

-- every set of voices, of four at most, by its bits
unfoldable pub all_sets : List ℕ
all_sets = 1 ∷ 2 ∷ 3 ∷ 4 ∷ 5 ∷ 6 ∷ 7 ∷ 8 ∷ 9 ∷ 10 ∷ 11 ∷ 12 ∷ 13 ∷ 14 ∷ 15 ∷ []

-- the sets of one voice of so many voices
abbrev pub voice_sets_of : ℕ → List ℕ
voice_sets_of voices =
    if voices == 2 then 1 ∷ 2 ∷ []
    else (if voices == 3 then 1 ∷ 2 ∷ 4 ∷ [] else voice_sets)

-- the sets of two voices
abbrev pub pair_sets_of : ℕ → List ℕ
pair_sets_of voices =
    if voices == 2 then 3 ∷ []
    else (if voices == 3 then 3 ∷ 5 ∷ 6 ∷ [] else pair_sets)

-- the set of all voices
abbrev pub all_sets_of : ℕ → List ℕ
all_sets_of voices = if voices == 2 then 3 ∷ [] else (if voices == 3 then 7 ∷ [] else 15 ∷ [])

-- that set, of two, three or four voices
abbrev pub set_of_all : ℕ → ℕ
set_of_all voices = if voices == 2 then 3 else (if voices == 3 then 7 else 15)

-- the sets of a form
abbrev pub sets_of : Form → ℕ → List ℕ
sets_of OneVoice = voice_sets_of
sets_of TwoVoices = pair_sets_of
sets_of AllVoices = all_sets_of

-- the column is one where the rule may stand
abbrev pub may_stand : Stands → Exercise → ℕ → Bool
may_stand Anywhere ex i = true
may_stand AtBars ex i = begins_bar i
may_stand AtTheEnd ex i = begins_bar i && (bar_of i == ex.bars)

-- of all sets of voices, a test passes for these alone
pub record IsOf (sets : List ℕ) (test : ℕ → Bool) : Type 0 where
  pub any : (also : ℕ → Bool) → list_any (λ voices. test voices && also voices) all_sets
      ≡ list_any (λ voices. test voices && also voices) sets
  pub sum : (price : ℕ → ℕ) → sum_by (λ voices. if test voices then price voices else 0) all_sets
      ≡ sum_by (λ voices. if test voices then price voices else 0) sets

pub voice_form : (ex : Exercise) (test : ℕ → Bool) → IsOf (voice_sets_of ex.voices) (on_voice ex test)
unfolding all_sets
voice_form ex test = at (ex.voices == 2) (ex.voices == 3) refl refl
  where
    at : (b c : Bool) → (ex.voices == 2) ≡ b → (ex.voices == 3) ≡ c → IsOf (voice_sets_of ex.voices) (on_voice ex test)
    at true c e f = record {
      any = λ also. rw (eqb-true ex.voices 2 e) refl;
      sum = λ price. rw (eqb-true ex.voices 2 e) (omega arith);
    }
    at false true e f = record {
      any = λ also. rw (eqb-true ex.voices 3 f) refl;
      sum = λ price. rw (eqb-true ex.voices 3 f) (omega arith);
    }
    at false false e f = record { any = λ also. rw (e, f) refl; sum = λ price. rw (e, f) (omega arith) }

pub pair_form : (ex : Exercise) (test : ℕ → ℕ → Bool) → IsOf (pair_sets_of ex.voices) (on_pair ex test)
unfolding all_sets
pair_form ex test = at (ex.voices == 2) (ex.voices == 3) refl refl
  where
    at : (b c : Bool) → (ex.voices == 2) ≡ b → (ex.voices == 3) ≡ c → IsOf (pair_sets_of ex.voices) (on_pair ex test)
    at true c e f = record {
      any = λ also. rw (eqb-true ex.voices 2 e) refl;
      sum = λ price. rw (eqb-true ex.voices 2 e) (omega arith);
    }
    at false true e f = record {
      any = λ also. rw (eqb-true ex.voices 3 f) refl;
      sum = λ price. rw (eqb-true ex.voices 3 f) (omega arith);
    }
    at false false e f = record { any = λ also. rw (e, f) refl; sum = λ price. rw (e, f) (omega arith) }

pub all_form : (ex : Exercise) (test : Bool)
    → IsOf (all_sets_of ex.voices) (λ voices. (voices == set_of_all ex.voices) && test)
unfolding all_sets
all_form ex test = at (ex.voices == 2) (ex.voices == 3) refl refl
  where
    at : (b c : Bool) → (ex.voices == 2) ≡ b → (ex.voices == 3) ≡ c
        → IsOf (all_sets_of ex.voices) (λ voices. (voices == set_of_all ex.voices) && test)
    at true c e f = rw e (record { any = λ also. refl; sum = λ price. omega arith })
    at false true e f = rw (e, f) (record { any = λ also. refl; sum = λ price. omega arith })
    at false false e f = rw (e, f) (record { any = λ also. refl; sum = λ price. omega arith })
