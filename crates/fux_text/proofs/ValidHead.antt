-- The lines before the ranges give numbers within their limits, and a pitch for each bar
-- (`head-valid`); the version is one of those that there are (`version-bounds`).
use Rattle.std.proofs.Common.{◌≡◌, ◌≢◌, ℕ, zero, suc, ◌+◌, ◌-◌, ◌<◌, List, [], ◌∷◌, ◌++◌, length, None, length-append, refl, sym, ap, subst, arith}
use Rattle.fux_pitch.specs.declared.pitch.Pitch.{Pitch}
use Rattle.fux_grid.specs.declared.exercise.Exercise.{Exercise}
use Rattle.fux_text.specs.declared.fault.TextKind.{TextKind}
use Rattle.fux_text.specs.declared.fault.TextKind.TheVariants as kinds
use Rattle.text_lines.specs.Lines.{TextLines}
use Rattle.text_lines.specs.Rows.{IsRow}
use Rattle.text_lines.specs.Tables.{IsTable}
use Rattle.text_lines.specs.Words.{LineWords}
use Rattle.fux_text.specs.Head.{cantus_row, head_table, number_row, other_voice, pitches_row, species_row, version_table}
use Rattle.fux_text.specs.Limits.{most_species, most_voices, newest_version}
use Rattle.fux_text.proofs.Bounds.{IsOther, IsWithin, number-bounds, other-bounds}
use Rattle.fux_text.proofs.OnlyWords.{named-stands}

row-bounds : (kind : TextKind) (least most n : ℕ) (at : LineWords) → IsRow (number_row kind least most) at n
    → IsWithin least most n
row-bounds kind least most n at h =
    subst (IsWithin least most) h.3.1 (number-bounds kind least most h.0 at h.1 h.2)

pub version-bounds : (text : TextLines) (version : ℕ) (rest : TextLines) → IsTable version_table text version rest
    → IsWithin 1 newest_version version
version-bounds text version rest l = row-bounds kinds.Word 1 newest_version version l.words l.right

-- a species and its voice
record IsSpecies (voices : ℕ) (x : ℕ × ℕ) : Type 0 where
  pub species : IsWithin 1 most_species x.0
  pub voice : IsWithin 0 (voices - 1) x.1

species-bounds : (voices : ℕ) (at : LineWords) (x : ℕ × ℕ) → IsRow (species_row voices) at x → IsSpecies voices x
species-bounds voices at x (n, behind, s, (_, voice, t, (v, rest, u, end))) =
    subst (IsSpecies voices) end.1
    (record {
      species = number-bounds kinds.Word 1 most_species n at behind s;
      voice = number-bounds kinds.Word 0 (voices - 1) v voice rest u;
    })

-- a voice and so many pitches behind those before
record HasPitches (v n : ℕ) (before : List Pitch) (x : ℕ × List Pitch) : Type 0 where
  pub voice : v ≡ x.0
  pub long : length x.1 ≡ length before + n

pitches-length : (v n : ℕ) (before : List Pitch) (at : LineWords) (x : ℕ × List Pitch)
    → IsRow (pitches_row v n before) at x → HasPitches v n before x
pitches-length v zero before at x h = record {
  voice = ap (λ (y : ℕ × List Pitch). y.0) h.1;
  long = let same : length before ≡ length x.1 = ap (λ (y : ℕ × List Pitch). length y.1) h.1 in omega (arith, same);
}
pitches-length v (suc n) before at x h =
    let rest = pitches-length v n (before ++ h.0 ∷ []) h.1 x h.3 in
    record { voice = rest.voice; long = omega (arith, rest.long, length-append before (h.0 ∷ [])) }

-- a cantus and its voice
record IsCantus (voices species_voice bars : ℕ) (x : ℕ × List Pitch) : Type 0 where
  pub voice : IsOther species_voice voices x.0
  pub whole : length x.1 ≡ bars

cantus-bounds : (voices species_voice bars : ℕ) (at : LineWords) (x : ℕ × List Pitch)
    → IsRow (cantus_row voices species_voice bars) at x → IsCantus voices species_voice bars x
cantus-bounds voices species_voice bars at x h =
    let ps = pitches-length h.0 bars [] h.1 x h.3 in
    record {
      voice = subst (IsOther species_voice voices) ps.voice
          (other-bounds species_voice voices h.2.word.text h.0
          (named-stands kinds.Cantus kinds.Cantus (other_voice species_voice voices) h.0 at h.1 h.2));
      whole = omega (arith, ps.long);
    }

-- an exercise whose species aren't mixed, without ranges and setting, is within the limits
pub record IsHead (ex : Exercise) : Type 0 where
  pub voices : IsWithin 2 most_voices ex.voices
  pub bars : IsWithin 3 24 ex.bars
  pub species : IsWithin 1 most_species ex.species
  pub species_there : ex.species_voice < ex.voices
  pub cantus_there : ex.cantus_voice < ex.voices
  pub differ : ex.species_voice ≢ ex.cantus_voice
  pub whole : length ex.cantus ≡ ex.bars
  pub plain : ex.given ≡ []
  pub unmixed : ex.mixed ≡ None

pub head-valid : (text : TextLines) (ex : Exercise) (rest : TextLines) → IsTable head_table text ex rest → IsHead ex
head-valid text ex rest (mode, b, m, (voices, c, vs, (bars, d, bs, (species, e, sp, (cantus, f, cs, same))))) =
    let some = row-bounds kinds.Word 2 most_voices voices vs.words vs.right in
    let kind = species-bounds voices sp.words species sp.right in
    let tune = cantus-bounds voices species.1 bars cs.words cantus cs.right in
    subst IsHead same.0
    (record {
      voices = some;
      bars = row-bounds kinds.Bars 3 24 bars bs.words bs.right;
      species = kind.species;
      species_there = omega (arith, kind.voice.below, some.above);
      cantus_there = omega (arith, tune.voice.within, some.above);
      differ = λ same. tune.voice.differs (sym same);
      whole = tune.whole;
      plain = refl;
      unmixed = refl;
    })
