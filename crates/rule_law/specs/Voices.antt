-- Sets of voices and of rules, as bits.
use Rattle.std.specs.Prelude.{ℕ, ◌==◌, ◌/◌, ◌%◌, ◌^◌, Bool, true, false, not, ◌&&◌, nat_lt, count_by, List, [], ◌∷◌, Option, Some, None, if◌then◌else◌}
use Rattle.fux_grid.specs.declared.exercise.Exercise.{Exercise}

-- the one voice of a set of bits
abbrev pub voice_of : ℕ → Option ℕ
voice_of bits = if bits == 1 then Some 0 else
    (if bits == 2 then Some 1 else (if bits == 4 then Some 2 else (if bits == 8 then Some 3 else None)))

-- the two voices of a set of bits, the lower first
abbrev pub pair_of : ℕ → Option (ℕ × ℕ)
pair_of bits = if bits == 3 then Some (0, 1)
    else (if bits == 5 then Some (0, 2) else
    (if bits == 9 then Some (0, 3) else (if bits == 6 then Some (1, 2)
    else (if bits == 10 then Some (1, 3) else (if bits == 12 then Some (2, 3) else None)))))

-- the voices of a set are all among the first ones
abbrev pub voice_is_below : ℕ → Option ℕ → Bool
voice_is_below n None = true
voice_is_below n (Some v) = nat_lt v n

abbrev pub pair_is_below : ℕ → Option (ℕ × ℕ) → Bool
pair_is_below n None = true
pair_is_below n (Some pair) = nat_lt pair.0 n && nat_lt pair.1 n

abbrev pub is_below : ℕ → ℕ → Bool
is_below n voices = voice_is_below n (voice_of voices) && pair_is_below n (pair_of voices)

-- the sets of one voice and of two, of four voices at most
abbrev pub voice_sets : List ℕ
voice_sets = 1 ∷ 2 ∷ 4 ∷ 8 ∷ []

abbrev pub pair_sets : List ℕ
pair_sets = 3 ∷ 5 ∷ 6 ∷ 9 ∷ 10 ∷ 12 ∷ []

-- the pairs of four voices, the lower voice first
unfoldable pub voice_pairs : List (ℕ × ℕ)
voice_pairs = (0, 1) ∷ (0, 2) ∷ (0, 3) ∷ (1, 2) ∷ (1, 3) ∷ (2, 3) ∷ []

-- the voice isn't the cantus
abbrev pub is_free : Exercise → ℕ → Bool
is_free ex v = not (v == ex.cantus_voice)

-- the test holds of the one voice of a set, and the exercise has that voice
abbrev pub holds_of_voice : Exercise → (ℕ → Bool) → Option ℕ → Bool
holds_of_voice ex test None = false
holds_of_voice ex test (Some v) = nat_lt v ex.voices && test v

abbrev pub on_voice : Exercise → (ℕ → Bool) → ℕ → Bool
on_voice ex test voices = holds_of_voice ex test (voice_of voices)

-- the same of a free voice
abbrev pub on_free_voice : Exercise → (ℕ → Bool) → ℕ → Bool
on_free_voice ex test = on_voice ex (λ v. is_free ex v && test v)

-- the test holds of the two voices of a set, the lower first, and the exercise has both
abbrev pub holds_of_pair : Exercise → (ℕ → ℕ → Bool) → Option (ℕ × ℕ) → Bool
holds_of_pair ex test None = false
holds_of_pair ex test (Some pair) = nat_lt pair.1 ex.voices && test pair.0 pair.1

abbrev pub on_pair : Exercise → (ℕ → ℕ → Bool) → ℕ → Bool
on_pair ex test voices = holds_of_pair ex test (pair_of voices)

-- the bit of a rule is set
abbrev pub has_rule : ℕ → ℕ → Bool
has_rule bits rule = (bits / 2 ^ rule) % 2 == 1

-- how many free voices pass the test, of four at most
abbrev pub count_free : Exercise → (ℕ → Bool) → ℕ
count_free ex test = count_by (λ v. is_free ex v && test v) (0 ∷ 1 ∷ 2 ∷ 3 ∷ [])
