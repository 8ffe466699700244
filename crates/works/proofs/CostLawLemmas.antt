-- What canons cost is what the book's tolls cost (`canon_costs_are_the_books`,
-- `canon_penalty_is_the_books`): each toll of canons stands at the beginning of a bar exactly where
-- the book's does, and the book's costs nothing within a bar.
use Rattle.std.proofs.Common.{◌≡◌, ℕ, zero, suc, ◌+◌, ◌*◌, ◌-◌, ◌<◌, ◌≤◌, Bool, true, false, List, [], ◌∷◌, ◌++◌, Option, None, length, map, take, drop, reverse, refl, ap, ap₂, sym, ◌∙◌, arith}
use Rattle.std.specs.Prelude.{◌&&◌, ◌||◌, cond, if◌then◌else◌, nat_le, slice_index_or}
use Rattle.std.specs.Int.{from_bool}
use Rattle.std.specs.List.{list_all, range_with_len, sum_by}
use Rattle.std.proofs.lemmas.List.{get_or-append-add, reverse-append, take_all, take_more}
use Rattle.fux_pitch.specs.declared.pitch.Pitch.{Pitch}
use Rattle.fux_grid.specs.declared.cell.Cell.{Cell}
use Rattle.fux_grid.specs.declared.cell.Cell.TheVariants.{Rest, Hold, Start}
use Rattle.fux_grid.specs.declared.exercise.Exercise.{Exercise}
use Rattle.fux_grid.specs.Cells.{cell_in, pitch_of}
use Rattle.fux_grid.specs.Columns.{earlier, line, newest_column}
use Rattle.fux_judge.specs.Rules.{cost_at, costs, toll_at}
use Rattle.rule_law.specs.Growth.{sum_below}
use Rattle.rule_law.specs.Nearby.{pitch_at, previous_pitches}
use Rattle.rule_law.specs.Pairs.{count_pairs, go_same_way, move_alike, sound_perfect}
use Rattle.rule_law.specs.Terms.{differs, holds_of, interval_of_cells, interval_of_pitches, starts}
use Rattle.rule_law.specs.Voices.{count_free, is_free, voice_pairs}
use Rattle.melody_rules.specs.Rows.{charges_move, last_of, leaves_open, open_leaps, pays_move, pitches, toll_rows}
use Rattle.motion_rules.specs.Runs.{four_bar_lines, imperfect_runs, is_imperfect_of, keep_on, sound_imperfect}
use Rattle.dissonance_rules.specs.Rows.{is_outer_perfect}
use Rattle.penalty_sheet.specs.declared.sheet.Sheet.{Sheet}
use Rattle.penalty_sheet.specs.Weights.{weight_of, charge}
use Rattle.canon_space.specs.declared.canon.Canon.{Canon}
use Rattle.canon_space.specs.Canons.{bar_before}
use Rattle.canon_space.specs.Rules.{bar_cost, columns_of, columns_of_bar, four_bars, goes_on, is_inner, keeps_on, paid, penalty_of, sounded_before}
use Rattle.works.specs.BookCosts.{CanonCostsAreTheBooks, CanonPenaltyIsTheBooks, costs_in_bar, paid_by_the_book}
use Rattle.works.specs.BookRules.{as_exercise}
use Rattle.works.proofs.BarColumns.{column-of_bar, earlier-bar, held_columns}
use Rattle.works.proofs.BookLawLemmas.{and_left, and_none, at_bar, is_inner_bar, moves_none, no_inner_bar, no_move, numbered, still, within_bar}
use Rattle.works.proofs.HeldColumns.{cell-held, column_held, pitches-held, previous-held, sounding-held}

-- ---- counts of voices and of pairs, and slots

-- 1 where a test holds, else 0
abbrev counted : Bool → ℕ
counted b = cond b 1 0

as_count : (b : Bool) → from_bool b ≡ counted b
as_count true = refl
as_count false = refl

-- of eight slots the first alone costs something, where the others don't
first_sum : (f : ℕ → ℕ) → ((slot : ℕ) → 0 < slot → slot < 8 → f slot ≡ 0) → sum_by f (range_with_len 0 8) ≡ f 0
first_sum f others =
    omega (
      arith,
      others 1 (omega arith) (omega arith),
      others 2 (omega arith) (omega arith),
      others 3 (omega arith) (omega arith),
      others 4 (omega arith) (omega arith),
      others 5 (omega arith) (omega arith),
      others 6 (omega arith) (omega arith),
      others 7 (omega arith) (omega arith),
    )

-- where the fourth voice doesn't pass, so many of two free voices do
free_count : (canon : Canon) (test : ℕ → Bool) → test 3 ≡ false
    → count_free (as_exercise canon) test ≡ cond (test 0) 1 0 + cond (test 1) 1 0
free_count canon test none = rw none (omega arith)

free_none : (ex : Exercise) (test : ℕ → Bool) → ((v : ℕ) → test v ≡ false) → count_free ex test ≡ 0
free_none ex test none = omega (
  arith,
  no_voice 0,
  no_voice 1,
  no_voice 2,
  no_voice 3,
)
  where
    no_voice : (v : ℕ) → counted (is_free ex v && test v) ≡ 0
    no_voice v = ap (λ b. counted (is_free ex v && b)) (none v) ∙ ap counted (and_none (is_free ex v))

-- where no third voice passes, one pair does or none
pair_count : (test : ℕ → ℕ → Bool) → ((v w : ℕ) → 2 ≤ w → test v w ≡ false) → count_pairs test ≡ cond (test 0 1) 1 0
unfolding voice_pairs
pair_count test none =
    rw (
      none 0 2 (omega arith),
      none 0 3 (omega arith),
      none 1 2 (omega arith),
      none 1 3 (omega arith),
      none 2 3 (omega arith),
    ) (omega arith)

pairs_none : (test : ℕ → ℕ → Bool) → ((v w : ℕ) → test v w ≡ false) → count_pairs test ≡ 0
unfolding voice_pairs
pairs_none test none = rw (none 0 1, none 0 2, none 0 3, none 1 2, none 1 3, none 2 3) refl

-- a bar of two voices has no third
third_rests : (bar : List Cell) (w : ℕ) → length bar ≡ 2 → 2 ≤ w → cell_in bar w ≡ Rest
third_rests [] w two late = refl
third_rests (c ∷ []) w two late = cc
third_rests (c ∷ d ∷ []) zero two late = absurd (omega (arith, late))
third_rests (c ∷ d ∷ []) (suc zero) two late = absurd (omega (arith, late))
third_rests (c ∷ d ∷ []) (suc (suc w)) two late = refl
third_rests (c ∷ d ∷ e ∷ cells) w two late = absurd (omega (arith, two))

no_interval : (c : Cell) → interval_of_cells c Rest ≡ None
no_interval Rest = refl
no_interval (Hold p) = refl
no_interval (Start p) = refl

pub charged_once : (sheet : Sheet) (toll : ℕ) (b : Bool) → cond b 1 0 * weight_of sheet toll ≡ charge sheet toll b
charged_once sheet toll true = omega arith
charged_once sheet toll false = omega arith

pub charged_twice : (sheet : Sheet) (toll : ℕ) (a b : Bool)
    → (cond a 1 0 + cond b 1 0) * weight_of sheet toll ≡ charge sheet toll a + charge sheet toll b
charged_twice sheet toll true true = omega arith
charged_twice sheet toll true false = omega arith
charged_twice sheet toll false true = omega arith
charged_twice sheet toll false false = omega arith

-- ---- nothing is paid where nothing starts

quiet_move : (toll : ℕ) (previous : Option Pitch) (c : Cell) → pays_move toll previous (goes_on c) ≡ false
quiet_move toll previous c = ap (holds_of (charges_move toll)) (no_move c previous)

quiet_leap : (ps : List Pitch) (c : Cell) → leaves_open ps (goes_on c) ≡ false
quiet_leap ps c = moves_none _ _ (last_of ps) c

-- ---- what begins the bars before

-- the column at the beginning of a bar stands last of its eight
bar_lines : (behind : List (List Cell)) (k : ℕ)
    → slice_index_or (held_columns behind) (8 * k + 7) [] ≡ slice_index_or behind k []
bar_lines [] k = refl
bar_lines (bar ∷ behind) zero = refl
bar_lines (bar ∷ behind) (suc k) =
    let eight : length (reverse (columns_of_bar bar)) ≡ 8 = refl in
    let size : 8 * suc k + 7 ≡ length (reverse (columns_of_bar bar)) + (8 * k + 7) = omega (arith, eight) in
    ap (λ i. slice_index_or (reverse (columns_of_bar bar) ++ held_columns behind) i []) size
    ∙ get_or-append-add (reverse (columns_of_bar bar)) (held_columns behind) (8 * k + 7) []
    ∙ bar_lines behind k

-- the three bars before
abbrev before_three : List (List Cell) → List (List Cell)
before_three behind = bar_before 1 behind ∷ bar_before 2 behind ∷ bar_before 3 behind ∷ []

four_lines : (behind : List (List Cell)) (now : List Cell)
    → four_bar_lines (held_columns behind) now ≡ four_bars behind now
four_lines behind now =
    ap₂ (λ a more. now ∷ a ∷ more) (bar_lines behind 0)
    (ap₂ (λ b c. b ∷ c ∷ []) (bar_lines behind 1) (bar_lines behind 2))

-- ---- the rows of the book

module _ (ex : Exercise) (i : ℕ) (behind : List (List Cell)) (now : List Cell) (ahead : List (List Cell)) where
  pub row_repeat : costs 7 ex i behind now ahead
      ≡ count_free ex (λ v. pays_move 7 (pitch_at (previous_pitches behind) v) (cell_in now v))
  unfolding toll_at toll_rows
  row_repeat = refl

  pub row_third : costs 8 ex i behind now ahead
      ≡ count_free ex (λ v. pays_move 8 (pitch_at (previous_pitches behind) v) (cell_in now v))
  unfolding toll_at toll_rows
  row_third = refl

  pub row_fifth : costs 9 ex i behind now ahead
      ≡ count_free ex (λ v. pays_move 9 (pitch_at (previous_pitches behind) v) (cell_in now v))
  unfolding toll_at toll_rows
  row_fifth = refl

  pub row_sixth : costs 10 ex i behind now ahead
      ≡ count_free ex (λ v. pays_move 10 (pitch_at (previous_pitches behind) v) (cell_in now v))
  unfolding toll_at toll_rows
  row_sixth = refl

  row_open : costs 13 ex i behind now ahead
      ≡ count_free ex (λ v. leaves_open (pitches (line v behind)) (cell_in now v))
  unfolding toll_at open_leaps
  row_open = refl

  row_outer : costs 1 ex i behind now ahead ≡ from_bool (is_outer_perfect ex i now)
  unfolding toll_at
  row_outer = refl

  row_alike : costs 11 ex i behind now ahead ≡ count_pairs (move_alike (newest_column behind) now)
  unfolding toll_at
  row_alike = refl

  row_run : costs 14 ex i behind now ahead ≡ imperfect_runs i behind now
  unfolding toll_at
  row_run = refl

-- ---- the tolls at a bar

module _ (ex : Exercise) (bars : List (List Cell)) (n : ℕ) (within : n < length bars) where
  abbrev here : List (List Cell)
  here = reverse (take n bars)

  abbrev bar : List Cell
  bar = slice_index_or bars n []

  abbrev all : List (List Cell)
  all = columns_of bars

  start : (toll : ℕ) → cost_at toll ex all (8 * n + 0)
      ≡ costs toll ex (8 * n) (held_columns here) bar (drop (8 * n + 1) all)
  start toll =
      let at : 8 * n + 0 ≡ 8 * n = omega arith in
      let first : slice_index_or all (8 * n) [] ≡ bar = ap (λ i. slice_index_or all i []) (sym at)
      ∙ column-of_bar bars n 0 within (omega arith) in
      ap (λ i. costs toll ex i (earlier all i) (slice_index_or all i []) (drop (i + 1) all)) at
      ∙ ap₂ (λ before col. costs toll ex (8 * n) before col (drop (8 * n + 1) all))
      (earlier-bar bars n (omega (arith, within))) first

  later : (toll slot : ℕ) → 0 < slot → slot < 8 → cost_at toll ex all (8 * n + slot)
      ≡ costs toll ex (8 * n + slot) (earlier all (8 * n + slot)) (map goes_on bar) (drop (8 * n + slot + 1) all)
  later toll slot late low =
      ap (λ col. costs toll ex (8 * n + slot) (earlier all (8 * n + slot)) col (drop (8 * n + slot + 1) all))
      (column-of_bar bars n slot within low ∙ column_held bar slot late low)

  pub in_bar : (toll cost : ℕ)
      → ((ahead : List (List Cell)) → costs toll ex (8 * n) (held_columns here) bar ahead ≡ cost)
      → ((slot : ℕ) (before ahead : List (List Cell)) → 0 < slot → slot < 8
      → costs toll ex (8 * n + slot) before (map goes_on bar) ahead ≡ 0)
      → costs_in_bar ex bars n toll ≡ cost
  in_bar toll cost first quiet =
      first_sum (λ slot. cost_at toll ex all (8 * n + slot))
      (λ slot late low. later toll slot late low ∙ quiet slot _ _ late low)
      ∙ start toll ∙ first _

  -- a toll of the move to a note, where so many of some notes pay it
  pub move_in_bar : (toll cost : ℕ)
      → ((i : ℕ) (before : List (List Cell)) (col : List Cell) (ahead : List (List Cell))
      → costs toll ex i before col ahead
      ≡ count_free ex (λ v. pays_move toll (pitch_at (previous_pitches before) v) (cell_in col v)))
      → count_free ex (λ v. pays_move toll (pitch_at (previous_pitches (held_columns here)) v) (cell_in bar v)) ≡ cost
      → costs_in_bar ex bars n toll ≡ cost
  move_in_bar toll cost row count =
      in_bar toll cost (λ ahead. row (8 * n) (held_columns here) bar ahead ∙ count)
      (λ slot before ahead late low. row (8 * n + slot) before (map goes_on bar) ahead
      ∙ free_none ex (λ v. pays_move toll (pitch_at (previous_pitches before) v) (cell_in (map goes_on bar) v))
      (λ v. ap (pays_move toll (pitch_at (previous_pitches before) v)) (cell-held bar v)
      ∙ quiet_move toll (pitch_at (previous_pitches before) v) (cell_in bar v)))

  pub leap_in_bar : (cost : ℕ)
      → count_free ex (λ v. leaves_open (pitches (line v (held_columns here))) (cell_in bar v)) ≡ cost
      → costs_in_bar ex bars n 13 ≡ cost
  leap_in_bar cost count =
      in_bar 13 cost (λ ahead. row_open ex (8 * n) (held_columns here) bar ahead ∙ count)
      (λ slot before ahead late low. row_open ex (8 * n + slot) before (map goes_on bar) ahead
      ∙ free_none ex (λ v. leaves_open (pitches (line v before)) (cell_in (map goes_on bar) v))
      (λ v. ap (leaves_open (pitches (line v before))) (cell-held bar v)
      ∙ quiet_leap (pitches (line v before)) (cell_in bar v)))

-- ---- the tolls at a bar of a canon

module _ (canon : Canon) (sheet : Sheet) (bars : List (List Cell)) (n : ℕ) (within : n < length bars)
    (two : length (slice_index_or bars n []) ≡ 2) where
  abbrev behind : List (List Cell)
  behind = reverse (take n bars)

  abbrev now : List Cell
  now = slice_index_or bars n []

  abbrev ex : Exercise
  ex = as_exercise canon

  rests : (w : ℕ) → 2 ≤ w → cell_in now w ≡ Rest
  rests w late = third_rests now w two late

  -- a toll of the move to a note
  move : (toll : ℕ)
      → ((i : ℕ) (before : List (List Cell)) (col : List Cell) (ahead : List (List Cell))
      → costs toll ex i before col ahead
      ≡ count_free ex (λ v. pays_move toll (pitch_at (previous_pitches before) v) (cell_in col v)))
      → costs_in_bar ex bars n toll * weight_of sheet toll
      ≡ charge sheet toll (pays_move toll (last_of (pitches (line 0 behind))) (cell_in now 0))
      + charge sheet toll (pays_move toll (last_of (pitches (line 1 behind))) (cell_in now 1))
  move toll row =
      let first = pays_move toll (last_of (pitches (line 0 behind))) (cell_in now 0) in
      let second = pays_move toll (last_of (pitches (line 1 behind))) (cell_in now 1) in
      ap (λ count. count * weight_of sheet toll)
      (move_in_bar ex bars n within toll (cond first 1 0 + cond second 1 0) row
      (free_count canon (λ v. pays_move toll (pitch_at (previous_pitches (held_columns behind)) v) (cell_in now v))
      (ap (pays_move toll (pitch_at (previous_pitches (held_columns behind)) 3)) (rests 3 (omega arith)))
      ∙ ap₂ (λ p q. cond (pays_move toll p (cell_in now 0)) 1 0 + cond (pays_move toll q (cell_in now 1)) 1 0)
      (previous-held 0 behind) (previous-held 1 behind)))
      ∙ charged_twice sheet toll first second

  leap : costs_in_bar ex bars n 13 * weight_of sheet 13
      ≡ charge sheet 13 (leaves_open (pitches (line 0 behind)) (cell_in now 0))
      + charge sheet 13 (leaves_open (pitches (line 1 behind)) (cell_in now 1))
  leap =
      let first = leaves_open (pitches (line 0 behind)) (cell_in now 0) in
      let second = leaves_open (pitches (line 1 behind)) (cell_in now 1) in
      ap (λ count. count * weight_of sheet 13)
      (leap_in_bar ex bars n within (cond first 1 0 + cond second 1 0)
      (free_count canon (λ v. leaves_open (pitches (line v (held_columns behind))) (cell_in now v))
      (ap (leaves_open (pitches (line 3 (held_columns behind)))) (rests 3 (omega arith))
      ∙ moves_none _ _ (last_of (pitches (line 3 (held_columns behind)))) Rest)
      ∙ ap₂ (λ ps qs. cond (leaves_open ps (cell_in now 0)) 1 0 + cond (leaves_open qs (cell_in now 1)) 1 0)
      (pitches-held 0 behind) (pitches-held 1 behind)))
      ∙ charged_twice sheet 13 first second

  outer : costs_in_bar ex bars n 1 * weight_of sheet 1
      ≡ charge sheet 1 (is_inner canon behind && sound_perfect now 0 1)
  outer =
      let stands = is_inner canon behind && sound_perfect now 0 1 in
      ap (λ count. count * weight_of sheet 1)
      (in_bar ex bars n within 1 (cond stands 1 0)
      (λ ahead. row_outer ex (8 * n) (held_columns behind) now ahead
      ∙ ap (λ b. from_bool (b && sound_perfect now 0 1)) (is_inner_bar canon bars n within) ∙ as_count stands)
      (λ slot before ahead late low. row_outer ex (8 * n + slot) before (map goes_on now) ahead
      ∙ ap (λ b. from_bool (b && sound_perfect (map goes_on now) 0 1)) (no_inner_bar canon bars n within slot late low)))
      ∙ charged_once sheet 1 stands

  alike : costs_in_bar ex bars n 11 * weight_of sheet 11
      ≡ charge sheet 11 (move_alike (sounded_before behind) now 0 1)
  alike =
      let stands = move_alike (sounded_before behind) now 0 1 in
      ap (λ count. count * weight_of sheet 11)
      (in_bar ex bars n within 11 (cond stands 1 0)
      (λ ahead. row_alike ex (8 * n) (held_columns behind) now ahead
      ∙ pair_count (move_alike (newest_column (held_columns behind)) now)
      (λ v w late. and_left _ _ (ap
      (λ b. (starts (cell_in now v)
      && differs (pitch_of (cell_in (newest_column (held_columns behind)) v)) (pitch_of (cell_in now v))) && b)
      (ap (λ c. starts c && differs (pitch_of (cell_in (newest_column (held_columns behind)) w)) (pitch_of c)) (rests w late))
      ∙ and_none _))
      ∙ ap₂
      (λ p q. cond ((starts (cell_in now 0) && differs p (pitch_of (cell_in now 0))
      && (starts (cell_in now 1) && differs q (pitch_of (cell_in now 1))))
      && go_same_way (interval_of_pitches p (pitch_of (cell_in now 0)))
      (interval_of_pitches q (pitch_of (cell_in now 1)))) 1 0)
      (sounding-held 0 behind) (sounding-held 1 behind))
      (λ slot before ahead late low. row_alike ex (8 * n + slot) before (map goes_on now) ahead
      ∙ pairs_none (move_alike (newest_column before) (map goes_on now))
      (λ v w. and_left _ _ (still (newest_column before) now v w))))
      ∙ charged_once sheet 11 stands

  -- a third voice sounds no interval
  apart : (degrees v w : ℕ) (more : List (List Cell)) → 2 ≤ w
      → list_all (λ col. sound_imperfect degrees col v w) (now ∷ more) ≡ false
  apart degrees v w more late =
      and_left _ _ (ap (λ c. holds_of (is_imperfect_of degrees) (interval_of_cells (cell_in now v) c)) (rests w late)
      ∙ ap (holds_of (is_imperfect_of degrees)) (no_interval (cell_in now v)))

  runs : costs_in_bar ex bars n 14 * weight_of sheet 14 ≡ charge sheet 14 (keeps_on behind now)
  runs =
      let stands = keeps_on behind now in
      ap (λ count. count * weight_of sheet 14)
      (in_bar ex bars n within 14 (cond stands 1 0)
      (λ ahead. row_run ex (8 * n) (held_columns behind) now ahead
      ∙ ap₂ (λ b k. if b && nat_le 4 k then count_pairs (keep_on (four_bar_lines (held_columns behind) now)) else 0)
      (at_bar n) (numbered canon bars n within)
      ∙ ap (λ lines. if nat_le 4 (length behind + 1) then count_pairs (keep_on lines) else 0) (four_lines behind now)
      ∙ ap (λ count. if nat_le 4 (length behind + 1) then count else 0)
      (pair_count (keep_on (four_bars behind now)) (λ v w late.
      ap₂ (λ a b. a || b) (apart 2 v w (before_three behind) late) (apart 5 v w (before_three behind) late)))
      ∙ chosen (nat_le 4 (length behind + 1)) (keep_on (four_bars behind now) 0 1))
      (λ slot before ahead late low. row_run ex (8 * n + slot) before (map goes_on now) ahead
      ∙ ap (λ b. if b then count_pairs (keep_on (four_bar_lines before (map goes_on now))) else 0)
      (and_left _ _ (within_bar n slot late low))))
      ∙ charged_once sheet 14 stands
    where
      chosen : (a b : Bool) → (if a then counted b else 0) ≡ counted (a && b)
      chosen true b = refl
      chosen false b = refl

  -- ---- all of them

  pub bar_pays : bar_cost canon sheet behind now ≡ paid_by_the_book canon sheet bars n
  bar_pays =
      omega (
        arith,
        move 7 (row_repeat ex),
        move 8 (row_third ex),
        move 9 (row_fifth ex),
        move 10 (row_sixth ex),
        leap,
        outer,
        alike,
        runs,
      )

pub canon_costs_are_the_books : CanonCostsAreTheBooks
canon_costs_are_the_books canon sheet bars n within two = bar_pays canon sheet bars n within two

-- ---- of all bars

module _ (canon : Canon) (sheet : Sheet) (bars : List (List Cell))
    (two : (bar : ℕ) → bar < length bars → length (slice_index_or bars bar []) ≡ 2) where
  front_pays : (n : ℕ) → n ≤ length bars
      → paid canon sheet (reverse (take n bars)) ≡ sum_below (paid_by_the_book canon sheet bars) n
  front_pays zero within = refl
  front_pays (suc n) within =
      let here : n < length bars = omega (arith, within) in
      let size : suc n ≡ n + 1 = omega arith in
      let more : reverse (take (suc n) bars) ≡ slice_index_or bars n [] ∷ reverse (take n bars) =
      ap (λ k. reverse (take k bars)) size ∙ ap reverse (take_more bars n [] here)
      ∙ reverse-append (take n bars) (slice_index_or bars n [] ∷ []) in
      ap (paid canon sheet) more
      ∙ ap₂ (λ a b. a + b) (front_pays n (omega (arith, within)))
      (bar_pays canon sheet bars n here (two n here))

  pub all_pay : penalty_of canon sheet bars ≡ sum_below (paid_by_the_book canon sheet bars) (length bars)
  all_pay = ap (λ s. paid canon sheet (reverse s)) (sym (take_all (length bars) bars (omega arith))) ∙ front_pays (length bars) (omega arith)

pub canon_penalty_is_the_books : CanonPenaltyIsTheBooks
canon_penalty_is_the_books canon sheet bars two = all_pay canon sheet bars two
