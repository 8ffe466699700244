-- Where voices are named that may be, each free voice has one of the five species, and the cantus
-- the first (`are_species`).
use Rattle.std.proofs.Common.{◌≡◌, inl, ℕ, zero, suc, ◌<◌, ◌≤◌, List, Option, Some, None, length, slice_index_or, refl, sym, ◌∙◌, subst, arith}
use Rattle.std.specs.Prelude.{IfSome, IsSome, unwrap_or}
use Rattle.std.proofs.lemmas.List.{get_or_past}
use Rattle.fux_grid.specs.declared.exercise.Exercise.{Exercise}
use Rattle.fux_grid.specs.Exercises.{AreSpecies, IsSpecies, IsValid, species_in}
use Rattle.fux_grid.proofs.SpeciesLemmas.{species-bounds, species-cantus}
use Rattle.fux_grid.specs.Namings.{AreNamed, named_for}
use Rattle.species_space.specs.Naming.{AreFreelyNamed, IsMisnamed, all_species_with, species_with}

-- beyond the four no voice is named
pub none_beyond : (ex : Exercise) (named : List (Option ℕ)) (v : ℕ) → length named ≤ v → IsMisnamed ex named v → ⊥
none_beyond ex named v far misnamed = cc (subst IsSome (get_or_past named v None far) misnamed.is_named)

module _ (ex : Exercise) (named : List (Option ℕ)) (valid : IsValid ex) where
  one_of_five : (v : ℕ) → AreNamed named → v < ex.voices → IsSpecies (species_with ex named v)
  one_of_five v are there = by (named_for named v) (are.each v)
    where
      by : (o : Option ℕ) → IfSome o (λ species. (2 ≤ species) × (species ≤ 5))
          → IsSpecies (unwrap_or o (species_in ex v))
      by None fits = species-bounds ex v valid there
      by (Some species) fits = (omega (arith, fits.0), fits.1)

  cantus_first : AreFreelyNamed ex named → species_with ex named ex.cantus_voice ≡ 1
  cantus_first free = by (named_for named ex.cantus_voice) refl
    where
      by : (o : Option ℕ) → named_for named ex.cantus_voice ≡ o → unwrap_or o (species_in ex ex.cantus_voice) ≡ 1
      by None e = species-cantus ex valid
      by (Some species) e = absurd (free ex.cantus_voice record {
        is_named = subst IsSome (sym e) refl;
        wrong = inl (λ its. its.no_cantus refl);
      })

  listed : (v : ℕ) → v < 4 → slice_index_or (all_species_with ex named) v 1 ≡ species_with ex named v
  listed zero lt = refl
  listed (suc zero) lt = refl
  listed (suc (suc zero)) lt = refl
  listed (suc (suc (suc zero))) lt = refl
  listed (suc (suc (suc (suc v)))) lt = absurd (omega arith)

  pub are_species : AreNamed named → AreFreelyNamed ex named → AreSpecies ex (all_species_with ex named)
  are_species are free = record {
    free = λ v its. subst IsSpecies (sym (listed v (omega (arith, its.there, valid.most_voices))))
        (one_of_five v are its.there);
    cantus = listed ex.cantus_voice (omega (arith, valid.cantus_there, valid.most_voices)) ∙ cantus_first free;
  }
