-- What is read is a valid exercise (`exercise-valid`).
use Rattle.std.proofs.Common.{◌≡◌, ℕ, List, Option, Some, None, Ok, sym, subst, arith}
use Rattle.std.specs.Prelude.{IfSome}
use Rattle.fux_grid.specs.declared.exercise.Exercise.{Exercise}
use Rattle.fux_grid.specs.declared.exercise.RangeLine.{RangeLine}
use Rattle.fux_grid.specs.declared.exercise.Relax.{Relax}
use Rattle.fux_grid.specs.declared.given.GivenBar.{GivenBar}
use Rattle.fux_grid.specs.Exercises.{AreSpecies, FitsGiven, IsGiven, IsValid}
use Rattle.fux_grid.specs.Grid.{Grid}
use Rattle.text_lines.specs.Lines.{TextLines, lines_in}
use Rattle.text_lines.specs.Tables.{IsTable}
use Rattle.text_lines.proofs.TextLemmas.{text-right}
use Rattle.fux_text.specs.Fitting.{any_cells, line_fits}
use Rattle.fux_text.specs.Reading.{exercise_in, note_format, note_table, setting_alone}
use Rattle.fux_text.specs.Sing.{sung_table}
use Rattle.fux_text.proofs.Alike.{free-alike, given-alike, givens-alike, ranges-alike, relaxes-alike}
use Rattle.fux_text.proofs.Fits.{fits-alike, score-fits}
use Rattle.fux_text.proofs.Givens.{AreGivens, givens-read}
use Rattle.fux_text.proofs.ValidHead.{IsHead, head-valid}
use Rattle.fux_text.proofs.ValidRanges.{AreValidRanges, ranges-valid}
use Rattle.fux_text.proofs.ValidRelax.{AreRelaxes, relaxes-valid}
use Rattle.fux_text.proofs.ValidSetting.{HasFittingLines, setting-fitting, setting-valid, sung-valid}

all-valid : (head : Exercise) (ranges : List RangeLine) (relax : List Relax) (given : List GivenBar)
    (setting : Option Grid) → IsHead head
    → AreValidRanges head ranges → AreRelaxes head relax → AreGivens head given → IfSome setting (IsGiven head)
    → IfSome setting (HasFittingLines (line_fits (record head { given = given })) head)
    → IsValid (record head { ranges = ranges; relax = relax; given = given; setting = setting })
all-valid head ranges relax given setting h r l g s f = record {
  fewest_voices = h.voices.above;
  most_voices = omega (arith, h.voices.below);
  fewest_bars = h.bars.above;
  most_bars = h.bars.below;
  least_species = h.species.above;
  most_species = omega (arith, h.species.below);
  species_there = h.species_there;
  cantus_there = h.cantus_there;
  differ = h.differ;
  mixed = subst (λ (species : Option (List ℕ)). IfSome species (AreSpecies ex)) (sym h.unmixed) tt;
  whole_cantus = h.whole;
  range_lines_fit = ranges-alike head ex ranges r.fit;
  each_has_range = λ v free. r.each v (free-alike ex head v free);
  relax_fit = relaxes-alike head ex relax l.fit;
  few_relax = l.few;
  given_fit = givens-alike head ex given g.fit;
  given_ascend = g.ascend;
  setting = settles setting s;
  setting_fits = fits setting f;
}
  where
    ex : Exercise
    ex = record head { ranges = ranges; relax = relax; given = given; setting = setting }

    gives : Exercise
    gives = record head { given = given }

    fits : (o : Option Grid) → IfSome o (HasFittingLines (line_fits gives) head)
        → IfSome o (λ score. FitsGiven ex score.columns)
    fits None f = tt
    fits (Some score) f =
        fits-alike gives ex score.columns
        (subst (λ (s : Grid). FitsGiven gives s.columns) f.whole
        (score-fits gives f.lines (givens-alike head gives given g.fit) f.fits))

    settles : (o : Option Grid) → IfSome o (IsGiven head) → IfSome o (IsGiven ex)
    settles None g = tt
    settles (Some score) g = given-alike head ex score g

pub exercise-valid : (bytes : List ℕ) (ex : Exercise) → exercise_in bytes ≡ Ok ex → IsValid ex
unfolding exercise_in
exercise-valid bytes ex e =
    let r = text-right (note_format note_table) bytes ex e in
    valid (lines_in bytes) r.rest r.lines
  where
    valid : (text rest : TextLines) → IsTable note_table text ex rest → IsValid ex
    valid text rest
        (version, v, vs, (head, a, h, (ranges, b, rs, (relax, c, ls, (given, d, gs, (setting, e, sg, same)))))) =
        let ok = head-valid v head a h in
        let fit = line_fits (record head { given = given }) in
        subst IsValid same.0
        (all-valid head ranges relax given setting ok (ranges-valid head a ranges b ok.voices.above rs)
        (relaxes-valid head b relax c ls) (givens-read version head c given d ok.voices.above gs).valid
        (setting-valid fit head d setting e ok.cantus_there ok.whole sg) (setting-fitting fit head d setting e sg))

pub alone-valid : (ex : Exercise) (bytes : List ℕ) (score : Grid) → IsValid ex → setting_alone ex bytes ≡ Ok score
    → IsGiven ex score
unfolding setting_alone
alone-valid ex bytes score valid e =
    let r = text-right (note_format (sung_table any_cells ex)) bytes score e in
    sung-valid any_cells ex (lines_in bytes) score r.rest valid.cantus_there valid.whole_cantus r.lines
