-- What names and numbers are called is read as what they are.
use Rattle.std.proofs.Common.{◌≡◌, ℕ, zero, suc, ◌-◌, ◌<◌, ◌≤◌, ◌^◌, Bool, true, false, ◌++◌, get_or, Option, Some, None, refl, ap, subst, ◌∙◌, arith}
use Rattle.std.specs.Prelude.{◌==◌, IfSome, codes}
use Rattle.std.specs.Fmt.{decimal, digits}
use Rattle.std.specs.List.{list_all, range_with_len}
use Rattle.std.proofs.lemmas.List.FromFn.{get_or-range_with_len, length-range_with_len}
use Rattle.std.proofs.lemmas.List.Sums.{AllPass-from_list_all}
use Rattle.fux_grid.specs.declared.exercise.VoiceSet.{VoiceSet}
use Rattle.fux_pitch.specs.Modes.{mode_name}
use Rattle.fux_pitch.specs.declared.mode.Mode.{Mode}
use Rattle.fux_pitch.specs.declared.mode.Mode.TheVariants.{Dorian, Phrygian, Lydian, Mixolydian, Aeolian, Ionian}
use Rattle.fux_pitch.specs.declared.pitch.Pitch.{Pitch}
use Rattle.fux_pitch.specs.Names.{name_of}
use Rattle.fux_pitch.proofs.NameLemmas.{name_of-injective}
use Rattle.fux_text.specs.Lines.{voices_word}
use Rattle.fux_text.specs.Names.{mode_named, pitch_named, pitches}
use Rattle.fux_text.specs.Relaxing.{rule_named, voices_named}
use Rattle.fux_text.proofs.Named.{all_pitches, named-own}
use Rattle.fux_text.proofs.NumberWords.{within-own}

pub mode-own : (m : Mode) → mode_named (mode_name m) ≡ Some m
unfolding mode_named
mode-own Dorian = refl
mode-own Phrygian = refl
mode-own Lydian = refl
mode-own Mixolydian = refl
mode-own Aeolian = refl
mode-own Ionian = refl

pub pitch-own : (p : Pitch) → pitch_named (name_of p) ≡ Some p
unfolding pitch_named
pitch-own p = named-own name_of pitches p (all_pitches p) (λ q e. name_of-injective q p e)

pub rule-own : (rule : ℕ) → 4 ≤ rule → rule ≤ 26 → rule_named (codes "S" ++ decimal rule) ≡ Some rule
rule-own rule low high = within-own 4 26 rule (omega arith) low high

-- what is read is the set of these bits
abbrev is_own : ℕ → Option (Option VoiceSet) → Bool
is_own b None = false
is_own b (Some None) = false
is_own b (Some (Some set)) = set.bits == b

abbrev reads_own : ℕ → ℕ → Bool
reads_own voices b = is_own b (voices_named voices (voices_word (Some (record { bits = b }))))

own-is : (b : ℕ) (o : Option (Option VoiceSet)) → is_own b o ≡ true → o ≡ Some (Some (record { bits = b }))
own-is b None e = absurd (grind (arith, e))
own-is b (Some None) e = absurd (grind (arith, e))
own-is b (Some (Some set)) e =
    let same : set.bits ≡ b = grind (arith, e) in
    ap (λ n. Some (Some (record { bits = n }))) same

abbrev AllOwn : ℕ → Type 0
AllOwn voices = list_all (reads_own voices) (range_with_len 1 (2 ^ voices - 1)) ≡ true

one-own : AllOwn 1
unfolding voices_named digits
one-own = refl

two-own : AllOwn 2
unfolding voices_named digits
two-own = refl

three-own : AllOwn 3
unfolding voices_named digits
three-own = refl

four-own : AllOwn 4
unfolding voices_named digits
four-own = refl

each-own : (voices b : ℕ) → AllOwn voices → 1 ≤ b → b < 2 ^ voices
    → voices_named voices (voices_word (Some (record { bits = b }))) ≡ Some (Some (record { bits = b }))
each-own voices b all low high =
    let count = 2 ^ voices - 1 in
    let at : get_or (range_with_len 1 count) (b - 1) 0 ≡ b = get_or-range_with_len 1 count (b - 1) 0 (omega arith)
    ∙ omega arith in
    own-is b _ (subst (λ n. reads_own voices n ≡ true) at
    (AllPass-from_list_all (reads_own voices) (range_with_len 1 count) all (b - 1) 0
    (omega (arith, length-range_with_len 1 count))))

all-own : (voices : ℕ) → 1 ≤ voices → voices ≤ 4 → AllOwn voices
all-own zero low high = absurd (omega arith)
all-own (suc zero) low high = one-own
all-own (suc (suc zero)) low high = two-own
all-own (suc (suc (suc zero))) low high = three-own
all-own (suc (suc (suc (suc zero)))) low high = four-own
all-own (suc (suc (suc (suc (suc n))))) low high = absurd (omega arith)

pub set-own : (voices : ℕ) (o : Option VoiceSet) → 1 ≤ voices → voices ≤ 4
    → IfSome o (λ set. (1 ≤ set.bits) × (set.bits < 2 ^ voices)) → voices_named voices (voices_word o) ≡ Some o
unfolding voices_named
set-own voices None low high fits = refl
set-own voices (Some set) low high fits = each-own voices set.bits (all-own voices low high) fits.0 fits.1
