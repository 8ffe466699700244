-- The species of the voices, where they are mixed and where not.
use Rattle.std.proofs.Common.{◌≡◌, inl, inr, ℕ, ◌<◌, Bool, true, false, List, Option, Some, None, slice_index_or, ap, sym, ◌∙◌, subst, refl, arith}
use Rattle.std.specs.Prelude.{◌==◌, IfSome, if◌then◌else◌}
use Rattle.std.specs.Option.{option_map_or}
use Rattle.std.proofs.lemmas.Bool.{cases_eq, ne_eqb}
use Rattle.fux_grid.specs.declared.exercise.Exercise.{Exercise}
use Rattle.fux_grid.specs.Exercises.{AreSpecies, IsFree, IsSpecies, IsValid, species_in}

-- the cantus has the first species
pub species-cantus : (ex : Exercise) → IsValid ex → species_in ex ex.cantus_voice ≡ 1
species-cantus ex valid = by ex.mixed valid.mixed
  where
    by : (o : Option (List ℕ)) → IfSome o (AreSpecies ex)
        → option_map_or (λ species. slice_index_or species ex.cantus_voice 1) o
        (if ex.cantus_voice == ex.species_voice then ex.species else 1) ≡ 1
    by None are = rw (ne_eqb ex.cantus_voice ex.species_voice (λ e. valid.differ (sym e))) refl
    by (Some species) are = are.cantus

-- each voice has one of the five
pub species-bounds : (ex : Exercise) (v : ℕ) → IsValid ex → v < ex.voices → IsSpecies (species_in ex v)
species-bounds ex v valid there = elim (cases_eq v ex.cantus_voice) [
  | inl same ↦
      let first : species_in ex v ≡ 1 = ap (species_in ex) same ∙ species-cantus ex valid in
      subst IsSpecies (sym first) (omega arith, omega arith)
  | inr other ↦ by ex.mixed valid.mixed (record { there = there; no_cantus = other })
]
  where
    plain : (b : Bool) → IsSpecies (if b then ex.species else 1)
    plain true = (valid.least_species, valid.most_species)
    plain false = (omega arith, omega arith)

    by : (o : Option (List ℕ)) → IfSome o (AreSpecies ex) → IsFree ex v
        → IsSpecies (option_map_or (λ species. slice_index_or species v 1) o
        (if v == ex.species_voice then ex.species else 1))
    by None are free = plain (v == ex.species_voice)
    by (Some species) are free = are.free v free
