-- The lines before the ranges are read back (`version-own`, `head-own`).
use Rattle.std.proofs.Common.{◌≡◌, ◌≢◌, ℕ, ◌+◌, ◌-◌, ◌<◌, ◌≤◌, Bool, true, false, List, [], ◌∷◌, ◌++◌, length, map, Some, None, Ok, refl, sym, ap, subst, ◌∙◌, append_assoc, arith, suc}
use Rattle.std.specs.Prelude.{◌==◌, codes, if◌then◌else◌}
use Rattle.std.specs.Fmt.{decimal}
use Rattle.std.specs.Option.{option_and_then}
use Rattle.std.proofs.lemmas.List.{append-nil}
use Rattle.fux_pitch.specs.Modes.{mode_name}
use Rattle.fux_pitch.specs.declared.mode.Mode.{Mode}
use Rattle.fux_pitch.specs.declared.pitch.Pitch.{Pitch}
use Rattle.fux_pitch.specs.Names.{name_of}
use Rattle.fux_grid.specs.declared.exercise.Exercise.{Exercise}
use Rattle.fux_grid.specs.Exercises.{IsValid}
use Rattle.fux_text.specs.declared.fault.TextKind.{TextKind}
use Rattle.fux_text.specs.declared.fault.TextKind.TheVariants as kinds
use Rattle.text_lines.specs.Reading.{done, headed, literal, next}
use Rattle.text_lines.specs.Rows.{row_in}
use Rattle.text_lines.specs.Tables.{line_in, table_in}
use Rattle.text_lines.specs.Words.{LineWords, PlacedWord}
use Rattle.fux_text.specs.Head.{cantus_row, head_table, mode_row, number_row, other_voice, pitches_row, species_row, unless, version_table}
use Rattle.fux_text.specs.Lines.{cantus_words, head_lines, version_words}
use Rattle.fux_text.specs.Limits.{most_species, most_voices, newest_version}
use Rattle.fux_text.proofs.Named.{same_from}
use Rattle.fux_text.proofs.NumberWords.{within-own}
use Rattle.fux_text.proofs.OwnWords.{mode-own, pitch-own}
use Rattle.fux_text.proofs.Layouts.{at_words, laid, left, lines_at, places_of, with_line}

mode_line-own : (after : ℕ) (l : LineWords) (others : List LineWords) (mode : Mode)
    → line_in kinds.Head kinds.Head (codes "mode") mode_row (with_line after l (codes "mode" ∷ mode_name mode ∷ []) others) ≡ Ok (mode, left after others)
unfolding line_in row_in headed literal next done
mode_line-own after l others mode = rw (mode-own mode) refl

number_line-own : (name : List ℕ) (kind : TextKind) (after : ℕ) (l : LineWords) (others : List LineWords)
    (least most value : ℕ)
    → value ≤ 9999999 → least ≤ value → value ≤ most
    → line_in kinds.Head kinds.Head name (number_row kind least most) (with_line after l (name ∷ decimal value ∷ []) others)
    ≡ Ok (value, left after others)
unfolding line_in row_in headed literal next done
number_line-own name kind after l others least most value few low high =
    rw (same_from name name refl, within-own least most value few low high) refl

species_line-own : (after : ℕ) (l : LineWords) (others : List LineWords) (voices species v : ℕ) → species ≤ 9999999
    → v ≤ 9999999
    → 1 ≤ species → species ≤ most_species → v ≤ voices - 1
    → line_in kinds.Head kinds.Head (codes "species") (species_row voices)
    (with_line after l (codes "species" ∷ decimal species ∷ codes "voice" ∷ decimal v ∷ []) others)
    ≡ Ok ((species, v), left after others)
unfolding line_in row_in headed literal next done
species_line-own after l others voices species v few few_v low high there =
    rw (within-own 1 most_species species few low high, within-own 0 (voices - 1) v few_v (omega arith) there) refl

pub other_voice-own : (other voices v : ℕ) → v ≤ 9999999 → v < voices → v ≢ other
    → other_voice other voices (decimal v) ≡ Some v
other_voice-own other voices v few there differs =
    ap (option_and_then (unless other)) (within-own 0 (voices - 1) v few (omega arith) (omega arith))
    ∙ by (v == other) refl
  where
    by : (b : Bool) → (v == other) ≡ b → (if b then None else Some v) ≡ Some v
    by true e = absurd (differs (grind (arith, e)))
    by false e = refl

pitches-own : (v : ℕ) (ps before : List Pitch) (line past end : ℕ) (place : ℕ → PlacedWord)
    → row_in (pitches_row v (length ps) before) (at_words line past end place (map name_of ps)) ≡ Ok (v, before ++ ps)
unfolding row_in next done
pitches-own v [] before line past end place = ap (λ found. Ok (v, found)) (sym (append-nil before))
pitches-own v (p ∷ ps) before line past end place =
    rw (pitch-own p)
    (pitches-own v ps (before ++ p ∷ []) line ((place 0).column + length (name_of p)) end (λ k. place (suc k))
    ∙ ap (λ found. Ok (v, found)) (append_assoc before (p ∷ []) ps))

cantus_line-own : (after : ℕ) (l : LineWords) (more : List LineWords) (voices species_voice bars v : ℕ)
    (cantus : List Pitch)
    → v ≤ 9999999 → v < voices → v ≢ species_voice → length cantus ≡ bars
    → line_in kinds.Head kinds.Head (codes "cantus") (cantus_row voices species_voice bars)
    (with_line after l (codes "cantus" ∷ decimal v ∷ map name_of cantus) more)
    ≡ Ok ((v, cantus), left after more)
unfolding line_in row_in headed literal next
cantus_line-own after l more voices species_voice bars v cantus few there differs whole =
    let text = with_line after l (codes "cantus" ∷ decimal v ∷ map name_of cantus) more in
    let place = places_of l.words in
    let ps = pitches-own v cantus [] l.line ((place 1).column + length (decimal v)) l.end (λ k. place (suc (suc k))) in
    subst (λ count. line_in kinds.Head kinds.Head (codes "cantus") (cantus_row voices species_voice count) text
    ≡ Ok ((v, cantus), left after more)) whole
    (rw (other_voice-own species_voice voices v few there differs, ps) refl)

-- an exercise without what its other lines say, and with no mixed species
abbrev pub head_of : Exercise → Exercise
head_of ex = record ex { mixed = None; ranges = []; relax = []; given = []; setting = None }

pub version-own : (version after : ℕ) (lay : ℕ → LineWords) (more : List (List (List ℕ))) → 1 ≤ version
    → version ≤ newest_version
    → table_in version_table (left after (lines_at lay (version_words version ∷ more)))
    ≡ Ok (version, left after (lines_at (λ k. lay (suc k)) more))
unfolding table_in
version-own version after lay more least most =
    number_line-own (codes "fux") kinds.Word after (lay 0) (lines_at (λ k. lay (suc k)) more) 1 newest_version version
    (omega (arith, most)) least most

-- the layout behind the lines before the ranges
abbrev pub behind_head : (ℕ → LineWords) → ℕ → LineWords
behind_head lay k = lay (suc (suc (suc (suc (suc k)))))

pub head-own : (ex : Exercise) (after : ℕ) (lay : ℕ → LineWords) (more : List (List (List ℕ))) → IsValid ex
    → table_in head_table (left after (lines_at lay (head_lines ex ++ cantus_words ex ∷ more)))
    ≡ Ok (head_of ex, left after (lines_at (behind_head lay) more))
unfolding table_in
head-own ex after lay more valid =
    let others = lines_at (behind_head lay) more in
    let cantus = laid (lay 4) (cantus_words ex) ∷ others in
    let species = laid (lay 3)
    (codes "species" ∷ decimal ex.species ∷ codes "voice" ∷ decimal ex.species_voice ∷ []) ∷ cantus in
    let bars = laid (lay 2) (codes "bars" ∷ decimal ex.bars ∷ []) ∷ species in
    let voices = laid (lay 1) (codes "voices" ∷ decimal ex.voices ∷ []) ∷ bars in
    rw (
      mode_line-own after (lay 0) voices ex.mode,
      number_line-own (codes "voices") kinds.Word after (lay 1) bars 2 most_voices ex.voices
          (omega (arith, valid.most_voices))
          valid.fewest_voices valid.most_voices,
      number_line-own (codes "bars") kinds.Bars after (lay 2) species 3 24 ex.bars
          (omega (arith, valid.most_bars)) valid.fewest_bars
          valid.most_bars,
      species_line-own after (lay 3) cantus ex.voices ex.species ex.species_voice (omega (arith, valid.most_species))
          (omega (arith, valid.species_there, valid.most_voices)) valid.least_species valid.most_species
          (omega (arith, valid.species_there)),
      cantus_line-own after (lay 4) others ex.voices ex.species_voice ex.bars ex.cantus_voice ex.cantus
          (omega (arith, valid.cantus_there, valid.most_voices)) valid.cantus_there
          (λ same. valid.differ (sym same)) valid.whole_cantus,
    ) refl
