-- The fault of a line that is judged by itself stands in that line.
use Rattle.std.proofs.Common.{◌≡◌, ℕ, Bool, true, false, List, [], ◌∷◌, Option, Some, None, Result, Ok, Err}
use Rattle.std.specs.Prelude.{codes, if◌then◌else◌}
use Rattle.std.specs.Option.{ok_or}
use Rattle.fux_text.specs.declared.fault.TextKind.{TextKind}
use Rattle.fux_text.specs.declared.fault.TextKind.TheVariants as kinds
use Rattle.fux_text.specs.Head.{mode_row, number_row, species_row}
use Rattle.fux_text.specs.Limits.{most_voices, newest_version}
use Rattle.fux_text.specs.Relaxing.{relax_of}
use Rattle.text_lines.specs.Faults.{Fault, ◌>>=◌}
use Rattle.text_lines.specs.Reading.{done, fault_at, fault_past, next, none_left, same_text}
use Rattle.text_lines.specs.Rows.{Row, Run, row_in, run_in, told_at, told_beyond}
use Rattle.text_lines.specs.Words.{LineWords, PlacedWord, first_of}
use Rattle.text_faults.specs.declared.known.Known.{Known}
use Rattle.text_faults.specs.Below.{judged, judged_from, named_judged}
use Rattle.text_faults.specs.Given.{given_behind, given_judged, lone_given}
use Rattle.text_faults.specs.HeadLines.{bars_judged, cantus_behind, cantus_judged, lone_cantus, mode_judged, species_judged, version_judged, voices_judged}
use Rattle.text_faults.specs.Range.{bars_of, has_bars, lone_range, range_judged}
use Rattle.text_faults.specs.Relax.{relax_judged}
use Rattle.text_faults.specs.Sing.{lone_sing, sing_behind, sing_judged}

-- words of this line
abbrev pub AllOf : ℕ → List PlacedWord → Type 0
AllOf n [] = Unit {0}
AllOf n (w ∷ ws) = (w.line ≡ n) × AllOf n ws

-- what is left of this line
pub record IsOfLine (n : ℕ) (at : LineWords) : Type 0 where
  pub line : at.line ≡ n
  pub words : AllOf n at.words

-- what reading gives is right, or wrong in this line
abbrev pub FaultIn : {K R : Type 0} → ℕ → Result R (Fault K) → Type 0
FaultIn n (Ok x) = Unit {0}
FaultIn n (Err f) = f.line ≡ n

-- ---- rows

run_line : {K S R : Type 0} (m : Run K S R) (s : S) (at : LineWords) (n : ℕ) → at.line ≡ n → (ws : List PlacedWord)
    → AllOf n ws → FaultIn n (run_in m s at ws)
unfolding run_in
run_line {K = K} {R = R} m s at n l [] a = by (m.end s)
  where
    by : (r : Result R K) → FaultIn n (told_beyond at r)
    by (Ok x) = tt
    by (Err kind) = l
run_line {K = K} {S = S} m s at n l (w ∷ ws) a = by (m.word s w.text) (λ t. run_line m t at n l ws a.1)
  where
    by : (r : Result S K) → ((t : S) → FaultIn n (run_in m t at ws)) → FaultIn n (told_at w r >>= λ t. run_in m t at ws)
    by (Ok t) later = later t
    by (Err kind) later = a.0

row_line : {K R : Type 0} (row : Row K R) (at : LineWords) (n : ℕ) → IsOfLine n at → FaultIn n (row_in row at)
unfolding row_in next done
row_line (Row.ends extra x) at n o = by at.words o.words
  where
    by : (ws : List PlacedWord) → AllOf n ws → FaultIn n (none_left extra (first_of at ws) >>= λ end. Ok x)
    by [] a = tt
    by (w ∷ ws) a = a.0
row_line {K = K} (Row.place {V = V} p more) at n o = by at.words o.words (λ x rest r. row_line (more x) rest n r)
  where
    Later : Type 0
    Later = (x : V) (rest : LineWords) → IsOfLine n rest → FaultIn n (row_in (more x) rest)

    said : (w : PlacedWord) (rest : LineWords) → w.line ≡ n → IsOfLine n rest → Later → (r : Result V K)
        → FaultIn n (told_at w r >>= λ x. row_in (more x) rest)
    said w rest l r later (Ok x) = later x rest r
    said w rest l r later (Err kind) = l

    by : (ws : List PlacedWord) → AllOf n ws → Later
        → FaultIn n (ok_or (first_of at ws) (fault_past p.missing at)
        >>= λ w. told_at w.0 (p.says w.1 w.0.text) >>= λ x. row_in (more x) w.1)
    by [] a later = o.line
    by (w ∷ ws) a later = said w _ a.0 (record { line = o.line; words = a.1 }) later _
row_line (Row.runs m s) at n o = run_line m s at n o.line at.words o.words

then_line : {K A B : Type 0} (n : ℕ) (r : Result A (Fault K)) (g : A → B) → FaultIn n r → FaultIn n (r >>= λ x. Ok (g x))
then_line n (Ok x) g i = tt
then_line n (Err f) g i = i

-- a row, and what is known behind it
known_line : {R : Type 0} (row : Row TextKind R) (at : LineWords) (n : ℕ) (g : R → Known) → IsOfLine n at
    → FaultIn n (row_in row at >>= λ x. Ok (g x))
known_line row at n g o = then_line n (row_in row at) g (row_line row at n o)

-- ---- lines

module _ (known : Known) (at : LineWords) (n : ℕ) (o : IsOfLine n at) where
  version_line : FaultIn n (version_judged known at)
  unfolding version_judged
  version_line = known_line (number_row kinds.Word 1 newest_version) at n (λ v. known) o

  mode_line : FaultIn n (mode_judged known at)
  unfolding mode_judged
  mode_line = known_line mode_row at n (λ mode. known) o

  voices_line : FaultIn n (voices_judged known at)
  unfolding voices_judged
  voices_line = known_line (number_row kinds.Word 2 most_voices) at n (λ v. record known { voices = v }) o

  bars_line : FaultIn n (bars_judged known at)
  unfolding bars_judged
  bars_line = known_line (number_row kinds.Bars 3 24) at n (λ b. record known { bars = Some b }) o

  species_line : FaultIn n (species_judged known at)
  unfolding species_judged
  species_line = known_line (species_row known.voices) at n (λ species. record known { species_voice = Some species.1 }) o

  cantus_line : FaultIn n (cantus_judged known at)
  unfolding cantus_judged
  cantus_line = by known.bars
    where
      by : (bars : Option ℕ) → FaultIn n (cantus_behind known bars at)
      by None = tt
      by (Some b) = known_line (lone_cantus known b) at n (λ cantus. record known { cantus_voice = Some cantus.0 }) o

  range_line : FaultIn n (range_judged known at)
  unfolding range_judged
  range_line = known_line (lone_range known (bars_of known.bars) (has_bars at)) at n (λ line. known) o

  relax_line : FaultIn n (relax_judged known at)
  unfolding relax_judged
  relax_line = known_line (relax_of known.voices (bars_of known.bars)) at n (λ line. known) o

  given_line : FaultIn n (given_judged known at)
  unfolding given_judged
  given_line = by known.bars
    where
      by : (bars : Option ℕ) → FaultIn n (given_behind known bars at)
      by None = tt
      by (Some b) = known_line (lone_given known b) at n (λ line. known) o

  sing_line : FaultIn n (sing_judged known at)
  unfolding sing_judged
  sing_line = by known.bars
    where
      by : (bars : Option ℕ) → FaultIn n (sing_behind known bars at)
      by None = tt
      by (Some b) = known_line (lone_sing known b) at n (λ cells. known) o

named_line : (known : Known) (word : PlacedWord) (at : LineWords) (n : ℕ) → word.line ≡ n → IsOfLine n at
    → FaultIn n (named_judged known word at)
named_line known word at n l o =
    by (same_text word.text (codes "sing"))
    (same_text word.text (codes "cantus"))
    (same_text word.text (codes "range"))
    (same_text word.text (codes "fux"))
    (same_text word.text (codes "mode"))
    (same_text word.text (codes "voices"))
    (same_text word.text (codes "bars"))
    (same_text word.text (codes "species"))
    (same_text word.text (codes "given"))
    (same_text word.text (codes "relax"))
  where
    by : (b0 b1 b2 b3 b4 b5 b6 b7 b8 b9 : Bool) → FaultIn n (
        if b0 then sing_judged known at
        else if b1 then cantus_judged known at
        else if b2 then range_judged known at
        else if b3 then version_judged known at
        else if b4 then mode_judged known at
        else if b5 then voices_judged known at
        else if b6 then bars_judged known at
        else if b7 then species_judged known at
        else if b8 then given_judged known at
        else if b9 then relax_judged known at
        else Err (fault_at kinds.Head word))
    by true b1 b2 b3 b4 b5 b6 b7 b8 b9 = sing_line known at n o
    by false true b2 b3 b4 b5 b6 b7 b8 b9 = cantus_line known at n o
    by false false true b3 b4 b5 b6 b7 b8 b9 = range_line known at n o
    by false false false true b4 b5 b6 b7 b8 b9 = version_line known at n o
    by false false false false true b5 b6 b7 b8 b9 = mode_line known at n o
    by false false false false false true b6 b7 b8 b9 = voices_line known at n o
    by false false false false false false true b7 b8 b9 = bars_line known at n o
    by false false false false false false false true b8 b9 = species_line known at n o
    by false false false false false false false false true b9 = given_line known at n o
    by false false false false false false false false false true = relax_line known at n o
    by false false false false false false false false false false = l

pub judged_line : (known : Known) (line : LineWords) (n : ℕ) → IsOfLine n line → FaultIn n (judged known line)
unfolding judged
judged_line known line n o = by line.words o.words
  where
    by : (ws : List PlacedWord) → AllOf n ws → FaultIn n (judged_from known (first_of line ws))
    by [] a = tt
    by (w ∷ ws) a = named_line known w _ n a.0 (record { line = o.line; words = a.1 })
