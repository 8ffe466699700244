-- An exercise of the drill's form is the drill, and valid (`is_drill`).
use Rattle.std.proofs.Common.{◌≡◌, ℕ, ◌≤ℤ◌, List, [], ◌∷◌, length, map, None, pos, refl, sym, ap, ◌∙◌, subst, arith, rules}
use Rattle.std.proofs.lemmas.List.{length-map}
use Rattle.std.proofs.lemmas.List.Elements.{All-nil, All-cons}
use Rattle.fux_pitch.specs.declared.mode.Mode.TheVariants.{Dorian}
use Rattle.fux_pitch.specs.declared.pitch.Pitch.{Pitch}
use Rattle.fux_pitch.specs.Key.{key_at}
use Rattle.fux_pitch.specs.Pitch.{alter_of, degree_of, key_of}
use Rattle.fux_grid.specs.declared.exercise.Exercise.{Exercise}
use Rattle.fux_grid.specs.declared.exercise.RangeLine.{RangeLine}
use Rattle.fux_grid.specs.Exercises.{BeginsWithWhole, IsFree, IsRangeLine, IsValid, range_lines}
use Rattle.drill_exercise.specs.Drill.{AreNaturals, IsDrill, IsNatural, drill_degrees}
use Rattle.drill_exercise.proofs.WalkLemmas.{length-drill_degrees}

-- the range line
abbrev pub drill_line : Pitch → Pitch → RangeLine
drill_line low high = record { voice = 1; low = low; high = high; bars = None }

-- the exercise with a cantus firmus
abbrev pub drill_of : List Pitch → Pitch → Pitch → Exercise
drill_of cantus low high = record {
  mode = Dorian;
  voices = 2;
  bars = 24;
  species = 1;
  species_voice = 1;
  mixed = None;
  cantus_voice = 0;
  cantus = cantus;
  ranges = drill_line low high ∷ [];
  relax = [];
  given = [];
  setting = None;
}

-- the range goes up
rises : (low high : Pitch) → IsNatural 31 low → IsNatural 38 high → key_of low ≤ℤ key_of high
rises low high l h =
    let bottom : key_of low ≡ key_at 31 (pos 0) = ap (λ d. key_at d (alter_of low)) l.degree_is
    ∙ ap (key_at 31) l.alter_is in
    let top : key_of high ≡ key_at 38 (pos 0) = ap (λ d. key_at d (alter_of high)) h.degree_is
    ∙ ap (key_at 38) h.alter_is in
    let up : key_at 31 (pos 0) ≤ℤ key_at 38 (pos 0) = search rules in
    subst (λ k. k ≤ℤ key_of high) (sym bottom) (subst (λ k. key_at 31 (pos 0) ≤ℤ k) (sym top) up)

range_fits : (cantus : List Pitch) (low high : Pitch) → IsNatural 31 low → IsNatural 38 high
    → IsRangeLine (drill_of cantus low high) (drill_line low high)
range_fits cantus low high l h = record {
  free = record { there = omega arith; no_cantus = λ e. omega arith };
  rises = rises low high l h;
  within = tt;
}

-- the free voice has its range
has_range : (cantus : List Pitch) (low high : Pitch) (v : ℕ) → IsFree (drill_of cantus low high) v
    → BeginsWithWhole (range_lines (drill_of cantus low high) v)
has_range cantus low high v free =
    let one : 1 ≡ v = omega (arith, free.there, free.no_cantus) in
    let P : ℕ → Type 0 = λ w. BeginsWithWhole (range_lines (drill_of cantus low high) w) in
    subst P one (refl, All-nil _)

valid : (n : ℕ) (cantus : List Pitch) (low high : Pitch) → map degree_of cantus ≡ drill_degrees n
    → IsNatural 31 low → IsNatural 38 high
    → IsValid (drill_of cantus low high)
valid n cantus low high degrees l h = record {
  fewest_voices = omega arith;
  most_voices = omega arith;
  fewest_bars = omega arith;
  most_bars = omega arith;
  least_species = omega arith;
  most_species = omega arith;
  species_there = omega arith;
  cantus_there = omega arith;
  differ = λ e. omega arith;
  mixed = tt;
  whole_cantus = sym (length-map cantus degree_of) ∙ ap length degrees ∙ length-drill_degrees n;
  range_lines_fit = All-cons (IsRangeLine (drill_of cantus low high)) (drill_line low high) []
      (range_fits cantus low high l h) (All-nil _);
  each_has_range = has_range cantus low high;
  relax_fit = All-nil _;
  few_relax = omega arith;
  given_fit = All-nil _;
  given_ascend = λ i j d lt within. absurd (omega (arith, within));
  setting = tt;
  setting_fits = tt;
}

pub is_drill : (n : ℕ) (cantus : List Pitch) (low high : Pitch)
    → map degree_of cantus ≡ drill_degrees n → AreNaturals cantus
    → IsNatural 31 low → IsNatural 38 high → IsDrill n (drill_of cantus low high)
is_drill n cantus low high degrees naturals l h = record {
  valid = valid n cantus low high degrees l h;
  mode = refl;
  voices = refl;
  bars = refl;
  species = refl;
  species_voice = refl;
  mixed = refl;
  cantus_voice = refl;
  cantus = degrees;
  naturals = naturals;
  range = (drill_line low high, refl, record { voice = refl; low = l; high = h; bars = refl });
  relax = refl;
  given = refl;
  setting = refl;
}
