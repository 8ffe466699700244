-- What a new cantus costs is what the book's tolls and gauges cost (`note_costs_are_the_books`,
-- `cantus_penalty_is_the_books`, `cantus_floor_is_the_books`).
use Rattle.std.proofs.Common.{◌≡◌, ℕ, ◌+◌, ◌*◌, ◌<◌, Bool, false, List, [], ◌∷◌, ◌++◌, length, map, take, reverse, refl, ap, ap₂, sym, ◌∙◌, append_assoc, mul_comm, arith}
use Rattle.std.specs.Prelude.{cond, slice_index_or}
use Rattle.std.specs.Int.{from_bool}
use Rattle.std.proofs.lemmas.List.{append-nil, length-append, length-map, length-reverse, map-append, reverse-append, reverse-reverse, take_at}
use Rattle.fux_pitch.specs.declared.pitch.Pitch.{Pitch}
use Rattle.fux_grid.specs.declared.cell.Cell.{Cell}
use Rattle.fux_grid.specs.declared.cell.Cell.TheVariants.{Rest, Start}
use Rattle.fux_grid.specs.declared.cell.Note.{Note}
use Rattle.fux_grid.specs.Cells.{cell_in, notes_from}
use Rattle.fux_grid.specs.Columns.{line}
use Rattle.fux_judge.specs.Gauges.{cells_of_voice, cost_of_line}
use Rattle.fux_judge.specs.Rules.{costs}
use Rattle.melody_rules.specs.Gauges.{beyond_fourth, climax_repeats, is_narrow}
use Rattle.melody_rules.specs.Rows.{last_of, leaves_open, pays_move, pitches}
use Rattle.rule_law.specs.Growth.{sum_below}
use Rattle.rule_law.specs.Nearby.{pitch_at, previous_pitches}
use Rattle.rule_law.specs.Voices.{count_free}
use Rattle.penalty_sheet.specs.declared.sheet.Sheet.{Sheet}
use Rattle.penalty_sheet.specs.Weights.{weight_of, charge}
use Rattle.canon_space.specs.Rules.{columns_of}
use Rattle.cantus_space.specs.declared.plan.CantusPlan.{CantusPlan}
use Rattle.cantus_space.specs.Melody.{charged, ends_cost}
use Rattle.cantus_space.specs.Rules.{gauge_cost, leap_excess, least_gauges, least_melody, note_cost, paid}
use Rattle.works.specs.BookCosts.{costs_in_bar}
use Rattle.works.specs.CantusCosts.{CantusFloorIsTheBooks, CantusPenaltyIsTheBooks, NoteCostsAreTheBooks, alone, bars_of, note_bar, tolls_paid, voice_paid}
use Rattle.works.proofs.BarColumns.{held_columns, reverse-columns}
use Rattle.works.proofs.BookLawLemmas.{moves_none}
use Rattle.works.proofs.CostLawLemmas.{charged_once, leap_in_bar, move_in_bar, row_fifth, row_repeat, row_sixth, row_third}
use Rattle.works.proofs.HeldColumns.{pitches-held, previous-held}

-- ---- the line of one voice

same_pitches : (ps : List Pitch) (h : ℕ) → map (λ (n : Note). n.pitch) (notes_from h (line 0 (bars_of ps))) ≡ ps
same_pitches [] h = refl
same_pitches (p ∷ ps) h = ap (λ qs. p ∷ qs) (same_pitches ps 0)

pitches_alone : (ps : List Pitch) → pitches (line 0 (bars_of ps)) ≡ ps
pitches_alone ps = same_pitches ps 0

reverse-bars : (ps : List Pitch) → reverse (bars_of ps) ≡ bars_of (reverse ps)
reverse-bars [] = refl
reverse-bars (p ∷ ps) =
    reverse-append (note_bar p ∷ []) (bars_of ps) ∙ ap (λ bars. bars ++ note_bar p ∷ []) (reverse-bars ps)
    ∙ sym (map-append note_bar (reverse ps) (p ∷ [])) ∙ ap bars_of (sym (reverse-append (p ∷ []) ps))

at_end : (bars more : List (List Cell)) (bar : List Cell) → slice_index_or (bars ++ bar ∷ more) (length bars) [] ≡ bar
at_end [] more bar = refl
at_end (first ∷ bars) more bar = at_end bars more bar

-- one free voice, where no other passes
alone_count : (plan : CantusPlan) (test : ℕ → Bool) → test 2 ≡ false → test 3 ≡ false
    → count_free (alone plan) test ≡ cond (test 0) 1 0
alone_count plan test third fourth = rw (third, fourth) (omega arith)

-- ---- a note

module _ (plan : CantusPlan) (behind : List Pitch) (p : Pitch) (after : List Pitch) where
  abbrev whole : List Pitch
  whole = reverse behind ++ p ∷ after

  abbrev bars : List (List Cell)
  bars = bars_of whole

  abbrev n : ℕ
  n = length behind

  parts : bars ≡ bars_of (reverse behind) ++ note_bar p ∷ bars_of after
  parts = map-append note_bar (reverse behind) (p ∷ after)

  size : length (bars_of (reverse behind)) ≡ n
  size = length-map (reverse behind) note_bar ∙ length-reverse behind

  within : n < length bars
  within =
      let all : length bars ≡ length (bars_of (reverse behind)) + length (note_bar p ∷ bars_of after) =
      ap length parts ∙ length-append (bars_of (reverse behind)) (note_bar p ∷ bars_of after) in
      omega (arith, all, size)

  before_is : reverse (take n bars) ≡ bars_of behind
  before_is =
      ap (λ all. reverse (take n all)) parts
      ∙ ap reverse (take_at (bars_of (reverse behind)) (note_bar p ∷ bars_of after) n size)
      ∙ reverse-bars (reverse behind) ∙ ap bars_of (reverse-reverse behind)

  now_is : slice_index_or bars n [] ≡ note_bar p
  now_is =
      ap (λ all. slice_index_or all n []) parts
      ∙ ap (λ k. slice_index_or (bars_of (reverse behind) ++ note_bar p ∷ bars_of after) k []) (sym size)
      ∙ at_end (bars_of (reverse behind)) (bars_of after) (note_bar p)

  move : (toll : ℕ)
      → ((i : ℕ) (before : List (List Cell)) (col : List Cell) (ahead : List (List Cell))
      → costs toll (alone plan) i before col ahead
      ≡ count_free (alone plan) (λ v. pays_move toll (pitch_at (previous_pitches before) v) (cell_in col v)))
      → costs_in_bar (alone plan) bars n toll * weight_of plan.sheet toll
      ≡ charge plan.sheet toll (pays_move toll (last_of behind) (Start p))
  move toll row =
      let stands = pays_move toll (last_of behind) (Start p) in
      ap (λ count. count * weight_of plan.sheet toll)
      (move_in_bar (alone plan) bars n within toll (cond stands 1 0) row
      (ap₂ (λ before col. count_free (alone plan)
      (λ v. pays_move toll (pitch_at (previous_pitches (held_columns before)) v) (cell_in col v))) before_is now_is
      ∙ alone_count plan
      (λ v. pays_move toll (pitch_at (previous_pitches (held_columns (bars_of behind))) v) (cell_in (note_bar p) v))
      refl refl
      ∙ ap (λ previous. cond (pays_move toll previous (Start p)) 1 0)
      (previous-held 0 (bars_of behind) ∙ ap last_of (pitches_alone behind))))
      ∙ charged_once plan.sheet toll stands

  leap : costs_in_bar (alone plan) bars n 13 * weight_of plan.sheet 13
      ≡ charge plan.sheet 13 (leaves_open behind (Start p))
  leap =
      let stands = leaves_open behind (Start p) in
      ap (λ count. count * weight_of plan.sheet 13)
      (leap_in_bar (alone plan) bars n within (cond stands 1 0)
      (ap₂ (λ before col. count_free (alone plan)
      (λ v. leaves_open (pitches (line v (held_columns before))) (cell_in col v))) before_is now_is
      ∙ alone_count plan (λ v. leaves_open (pitches (line v (held_columns (bars_of behind)))) (cell_in (note_bar p) v))
      (moves_none _ _ (last_of (pitches (line 2 (held_columns (bars_of behind))))) Rest)
      (moves_none _ _ (last_of (pitches (line 3 (held_columns (bars_of behind))))) Rest)
      ∙ ap (λ ps. cond (leaves_open ps (Start p)) 1 0) (pitches-held 0 (bars_of behind) ∙ pitches_alone behind)))
      ∙ charged_once plan.sheet 13 stands

  pub note_pays : note_cost plan.sheet behind p ≡ voice_paid plan whole n
  note_pays =
      omega (
        arith,
        move 7 (row_repeat (alone plan)),
        move 8 (row_third (alone plan)),
        move 9 (row_fifth (alone plan)),
        move 10 (row_sixth (alone plan)),
        leap,
      )

pub note_costs_are_the_books : NoteCostsAreTheBooks
note_costs_are_the_books plan behind p after = note_pays plan behind p after

-- ---- a whole cantus, and what begins one

front_pays : (plan : CantusPlan) (behind after : List Pitch)
    → paid plan.sheet behind ≡ sum_below (voice_paid plan (reverse behind ++ after)) (length behind)
front_pays plan [] after = refl
front_pays plan (p ∷ behind) after =
    let same : reverse (p ∷ behind) ++ after ≡ reverse behind ++ p ∷ after =
    ap (λ ps. ps ++ after) (reverse-append (p ∷ []) behind) ∙ append_assoc (reverse behind) (p ∷ []) after in
    ap₂ (λ a b. a + b) (front_pays plan behind (p ∷ after)) (note_pays plan behind p after)
    ∙ ap (λ ps. sum_below (voice_paid plan ps) (length (p ∷ behind))) (sym same)

paid_is : (plan : CantusPlan) (front : List Pitch) → paid plan.sheet (reverse front) ≡ tolls_paid plan front
paid_is plan front =
    front_pays plan (reverse front) []
    ∙ ap₂ (λ ps k. sum_below (voice_paid plan ps) k)
    (append-nil (reverse (reverse front)) ∙ reverse-reverse front) (length-reverse front)

-- the line of the voice in the columns has the cantus's pitches
line_is : (cantus : List Pitch) → pitches (cells_of_voice (columns_of (bars_of cantus)) 0) ≡ reverse cantus
line_is cantus =
    ap (λ columns. pitches (line 0 columns)) (reverse-columns (bars_of cantus))
    ∙ pitches-held 0 (reverse (bars_of cantus)) ∙ ap (λ bars. pitches (line 0 bars)) (reverse-bars cantus)
    ∙ pitches_alone (reverse cantus)

-- the gauges of a line are those of its pitches
gauges_are : (sheet : Sheet) (cells : List Cell) (ps : List Pitch) → pitches cells ≡ ps
    → cost_of_line sheet cells
    ≡ gauge_cost sheet (climax_repeats ps) (from_bool (is_narrow ps)) (leap_excess ps) (beyond_fourth ps)
gauges_are sheet cells ps is =
    ap (λ qs. 0 + climax_repeats qs * weight_of sheet 17 + from_bool (is_narrow qs) * weight_of sheet 18
    + leap_excess qs * weight_of sheet 19 + beyond_fourth qs * weight_of sheet 20) is
    ∙ omega (
      arith,
      mul_comm (climax_repeats ps) (weight_of sheet 17),
      mul_comm (from_bool (is_narrow ps)) (weight_of sheet 18),
      mul_comm (leap_excess ps) (weight_of sheet 19),
      mul_comm (beyond_fourth ps) (weight_of sheet 20),
    )

pub cantus_penalty_is_the_books : CantusPenaltyIsTheBooks
cantus_penalty_is_the_books plan cantus =
    ap₂ (λ a b. a + b + (charged plan.prices (reverse cantus) + ends_cost plan.prices plan.bars (reverse cantus)))
    (paid_is plan cantus)
    (sym (gauges_are plan.sheet (cells_of_voice (columns_of (bars_of cantus)) 0) (reverse cantus) (line_is cantus)))

pub cantus_floor_is_the_books : CantusFloorIsTheBooks
cantus_floor_is_the_books plan front =
    ap (λ k. k + least_gauges plan (reverse front) + least_melody plan (reverse front)) (paid_is plan front)
