-- At a place at which nothing can begin the lines cost at least what they did (`least_still`), and
-- what a state keeps of them and of the columns stays (`gauges_still`, `ahead_still`,
-- `past_still`).
use Rattle.std.specs.Prelude.{◌≡◌, ℕ, suc, ◌+◌, ◌-◌, ◌*◌, ◌%◌, ◌<◌, ◌==◌, ℤ, Bool, true, false, not, cond, ◌&&◌, ◌||◌, List, [], ◌∷◌, ◌++◌, length, reverse, refl, if◌then◌else◌}
use Rattle.std.specs.Int.{from_bool}
use Rattle.std.specs.List.{list_all, list_any, range_with_len}
use Rattle.std.proofs.Common.{add-one, ap, sym, ◌∙◌, subst, arith}
use Rattle.std.proofs.lemmas.Bool.{eqb-false}
use Rattle.std.proofs.lemmas.List.{length-append}
use Rattle.fux_pitch.specs.declared.pitch.Pitch.{Pitch}
use Rattle.fux_pitch.specs.Pitch.{key_of}
use Rattle.fux_grid.specs.declared.cell.Cell.{Cell}
use Rattle.fux_grid.specs.declared.cell.Cell.TheVariants.{Rest, Hold, Start}
use Rattle.fux_grid.specs.declared.exercise.Exercise.{Exercise}
use Rattle.fux_grid.specs.Cells.{cell_in}
use Rattle.fux_grid.specs.Exercises.{IsFree, bar_of, columns_in, slot_of, species_in}
use Rattle.fux_grid.specs.Menus.{IsInMenu, range_of}
use Rattle.fux_grid.specs.Orderly.{voice_shapes}
use Rattle.fux_grid.specs.Shapes.{letter_of}
use Rattle.rule_law.specs.Gauges.{menu_starts, starts_ahead}
use Rattle.rule_law.specs.Growth.{list_any-same, sum_by-same}
use Rattle.rule_law.specs.Quiet.{is_quiet}
use Rattle.rule_law.specs.Terms.{starts}
use Rattle.rule_law.proofs.MenuStarts.{starts_ahead-more}
use Rattle.melody_rules.specs.GaugeParts.{IsClimaxOf, IsCompassOf, IsLeapsOf, IsStrikesOf}
use Rattle.melody_rules.specs.Gauges.{beyond_fourth, climax_least, climax_repeats, compass_least, gauges, is_at_top, is_final_climax, is_last_climax, is_narrow, is_topped, leaps_in, leaps_least, moves_in, strikes_least}
use Rattle.melody_rules.specs.Held.{pitches-hold}
use Rattle.melody_rules.specs.Keys.{greatest_key, least_key}
use Rattle.melody_rules.specs.Notes.{IsNotesOf}
use Rattle.melody_rules.specs.Rows.{before_last, last_of, latest_turning, pitches}
use Rattle.melody_rules.specs.declared.notes.VoiceNotes.{VoiceNotes}
use Rattle.dissonance_rules.proofs.LatestNotes.{starts-same}
use Rattle.rhythm_cadence.specs.Parts.{all_have}
use Rattle.rhythm_cadence.proofs.AlikeShapes.{same_letter, shapes_stay}
use Rattle.penalty_sheet.specs.declared.sheet.Sheet.{Sheet}
use Rattle.fux_judge.specs.declared.ahead.LineAhead.{LineAhead}
use Rattle.fux_judge.specs.declared.gauges.LineGauges.{LineGauges}
use Rattle.fux_judge.specs.Gauges.{cells_of_voice, free_voices, least_of, least_of_line}
use Rattle.fux_judge.specs.GaugeStates.{AreAheadOf, AreGaugesOf, IsAheadOf, IsGaugesOf}
use Rattle.fux_judge.specs.States.{IsPastOf}
use Rattle.fux_judge.specs.Still.{IsStillPlace}
use Rattle.fux_judge.specs.declared.past.Past.{Past}
use Rattle.fux_judge.proofs.Alive.{prefix_before}
use Rattle.fux_judge.proofs.IdleLemmas.{allowed_there, none_starts}
use Rattle.fux_judge.proofs.LeastLaws.{cells-more, costs_same, length-cells}

-- ---- the column

-- no note starts in a column of which no cell starts one
none_start : (col : List Cell) → ((v : ℕ) → starts (cell_in col v) ≡ false) → list_any starts col ≡ false
none_start [] none = refl
none_start (c ∷ col) none =
    ap (λ b. b || list_any starts col) (none 0) ∙ none_start col (λ v. none (suc v))

module _ (ex : Exercise) (i : ℕ) (still : IsStillPlace ex i) (col : List Cell) (menu : IsInMenu ex i col) where
  -- so it is of one in the menu of such a place
  pub cells_rest : (v : ℕ) → starts (cell_in col v) ≡ false
  cells_rest v = none_starts ex i v col menu (still.none v)

  -- and it is quiet
  pub still_is_quiet : is_quiet i col ≡ true
  still_is_quiet =
      ap (λ b. not b && not (list_any starts col)) still.inner ∙ ap not (none_start col cells_rest)

-- ---- what lies ahead

abbrev number : Bool → ℕ
number b = cond b 1 0

module _ (ex : Exercise) (v i : ℕ) (room : i < columns_in ex) (none : menu_starts ex v i ≡ false) where
  -- as many starts are ahead behind the place
  pub ahead_stays : starts_ahead ex v (suc i) ≡ starts_ahead ex v i
  ahead_stays =
      let first : number (menu_starts ex v i) ≡ 0 = ap number none in
      let next : starts_ahead ex v (i + 1) ≡ starts_ahead ex v i = omega (arith, first, starts_ahead-more ex v i room) in
      subst (λ (j : ℕ). starts_ahead ex v j ≡ starts_ahead ex v i) (add-one i) next

  -- and a key is the last climax behind it if it is there
  final_stays : (key : ℤ) → is_final_climax ex v (suc i) key ≡ is_final_climax ex v i key
  final_stays key =
      let test : ℕ → Bool = is_topped ex v key in
      let more : columns_in ex - i ≡ suc (columns_in ex - (i + 1)) = omega (arith, room) in
      sym (ap (λ n. list_all test (range_with_len i n)) more
      ∙ ap (λ b. (not b || is_at_top key (range_of ex v (bar_of i)))
      && list_all test (range_with_len (i + 1) (columns_in ex - (i + 1)))) none
      ∙ ap (λ j. list_all test (range_with_len j (columns_in ex - j))) (add-one i))

  last_stays : (ps : List Pitch) → is_last_climax ex v (suc i) ps ≡ is_last_climax ex v i ps
  last_stays ps =
      list_any-same (λ p. is_final_climax ex v (suc i) (key_of p)) (λ p. is_final_climax ex v i (key_of p)) ps
      (λ p. final_stays (key_of p))

-- ---- a line

-- a held cell and a rest leave the pitches as they are
same_pitches : (c : Cell) (cells : List Cell) → starts c ≡ false → pitches (c ∷ cells) ≡ pitches cells
same_pitches Rest cells e = refl
same_pitches (Hold p) cells e = pitches-hold p cells
same_pitches (Start p) cells e = cc

module _ (ex : Exercise) (v : ℕ) (cells : List Cell) (c : Cell) (room : length cells < columns_in ex)
    (rests : starts c ≡ false) (none : menu_starts ex v (length cells) ≡ false) where
  same : pitches (c ∷ cells) ≡ pitches cells
  same = same_pitches c cells rests

  climax_same : climax_least ex v (c ∷ cells) ≡ climax_least ex v cells
  climax_same =
      ap (λ ps. if is_last_climax ex v (suc (length cells)) ps then climax_repeats ps else 0) same
      ∙ ap (λ b. if b then climax_repeats (pitches cells) else 0)
      (last_stays ex v (length cells) room none (pitches cells))

  compass_same : compass_least ex v (c ∷ cells) ≡ compass_least ex v cells
  compass_same =
      ap (λ ps. if starts_ahead ex v (suc (length cells)) == 0 then from_bool (is_narrow ps) else 0) same
      ∙ ap (λ n. if n == 0 then from_bool (is_narrow (pitches cells)) else 0)
      (ahead_stays ex v (length cells) room none)

  leaps_same : leaps_least ex v (c ∷ cells) ≡ leaps_least ex v cells
  leaps_same =
      ap (λ ps. 3 * leaps_in ps - moves_in ps - starts_ahead ex v (suc (length cells))) same
      ∙ ap (λ n. 3 * leaps_in (pitches cells) - moves_in (pitches cells) - n)
      (ahead_stays ex v (length cells) room none)

  strikes_same : strikes_least ex v (c ∷ cells) ≡ strikes_least ex v cells
  strikes_same = ap beyond_fourth same

  -- so it costs at least what it did
  line_still : (sheet : Sheet) → least_of_line ex sheet v (c ∷ cells) ≡ least_of_line ex sheet v cells
  line_still sheet =
      costs_same sheet (λ it. it.least ex v (c ∷ cells)) (λ it. it.least ex v cells) gauges
      (climax_same, (compass_same, (leaps_same, (strikes_same, tt))))

-- ---- all lines

module _ (ex : Exercise) (p : List (List Cell)) (col : List Cell) (room : length p < columns_in ex)
    (still : IsStillPlace ex (length p)) (menu : IsInMenu ex (length p) col) where
  pub least_still : (sheet : Sheet) → least_of ex sheet (p ++ col ∷ []) ≡ least_of ex sheet p
  least_still sheet =
      sum_by-same (λ v. least_of_line ex sheet v (cells_of_voice (p ++ col ∷ []) v))
      (λ v. least_of_line ex sheet v (cells_of_voice p v)) (free_voices ex)
      (λ v. ap (least_of_line ex sheet v) (cells-more p col v)
      ∙ line_still ex v (cells_of_voice p v) (cell_in col v) (within v)
      (cells_rest ex (length p) still col menu v) (none v) sheet)
    where
      within : (v : ℕ) → length (cells_of_voice p v) < columns_in ex
      within v = omega (arith, length-cells p v, room)

      none : (v : ℕ) → menu_starts ex v (length (cells_of_voice p v)) ≡ false
      none v = ap (menu_starts ex v) (length-cells p v) ∙ still.none v

  -- what the gauges keep stays
  pub gauges_still : (voices : List LineGauges) → AreGaugesOf ex (reverse p) voices
      → AreGaugesOf ex (reverse (p ++ col ∷ [])) voices
  gauges_still voices are = λ v kept free is.
      let Gauged : List Cell → Type 0 = λ cells. IsGaugesOf cells kept in
      subst Gauged (sym (cells-more p col v))
      (more (cell_in col v) (cells_of_voice p v) kept (cells_rest ex (length p) still col menu v) (are v kept free is))
    where
      more : (c : Cell) (cells : List Cell) (kept : LineGauges) → starts c ≡ false → IsGaugesOf cells kept
          → IsGaugesOf (c ∷ cells) kept
      more c cells kept rests is =
          let back : pitches cells ≡ pitches (c ∷ cells) = sym (same_pitches c cells rests) in
          let Climax : List Pitch → Type 0 = λ ps. IsClimaxOf ps kept.climax in
          let Compass : List Pitch → Type 0 = λ ps. IsCompassOf ps kept.compass in
          let Leaps : List Pitch → Type 0 = λ ps. IsLeapsOf ps kept.leaps in
          let Strikes : List Pitch → Type 0 = λ ps. IsStrikesOf ps kept.strikes in
          record {
            climax = subst Climax back is.climax;
            compass = subst Compass back is.compass;
            leaps = subst Leaps back is.leaps;
            strikes = subst Strikes back is.strikes;
          }

  -- and so does what lies ahead
  pub ahead_still : (voices : List LineAhead) → AreAheadOf ex p voices → AreAheadOf ex (p ++ col ∷ []) voices
  ahead_still voices are = λ valid prefix v ahead free is.
      let old = are valid (prefix_before ex p col prefix) v ahead free is in
      let At : ℕ → Type 0 = λ n. IsAheadOf ex v n ahead in
      subst At longer record {
        starts = old.starts ∙ sym (ahead_stays ex v (length p) room (still.none v));
        last_high = old.last_high;
        highest = old.highest;
      }
    where
      longer : suc (length p) ≡ length (p ++ col ∷ [])
      longer = omega (arith, length-append p (col ∷ []))

  -- what the crates keep stays too
  pub past_still : (past : Past) → IsPastOf ex p past → IsPastOf ex (p ++ col ∷ []) past
  past_still past is = record {
    melody = λ v notes there.
        let Noted : List Cell → Type 0 = λ cells. IsNotesOf cells notes in
        subst Noted (sym (cells-more p col v))
        (noted (cell_in col v) (cells_of_voice p v) notes (cells_rest ex (length p) still col menu v)
        (is.melody v notes there));
    dissonance = λ v kept there.
        starts-same p col v (species_in ex v) kept (cells_rest ex (length p) still col menu v) (is.dissonance v kept there);
    rhythm = λ v some free.
        is.rhythm v (begun (length p) (eqb-false (slot_of (length p)) 0 still.inner)) free
        ∙ sym (shapes_stay ex v p col still.inner (held v free));
  }
    where
      noted : (c : Cell) (cells : List Cell) (notes : VoiceNotes) → starts c ≡ false → IsNotesOf cells notes
          → IsNotesOf (c ∷ cells) notes
      noted c cells notes rests are =
          let back : pitches cells ≡ pitches (c ∷ cells) = sym (same_pitches c cells rests) in
          record {
            last = are.last ∙ ap last_of back;
            before = are.before ∙ ap before_last back;
            turning = are.turning ∙ ap latest_turning back;
            greatest = are.greatest ∙ ap greatest_key back;
            least = are.least ∙ ap least_key back;
          }

      begun : (n : ℕ) → (n % 8 ≡ 0 → ⊥) → 0 < n
      begun n h = omega arith

      -- each of a free voice's shapes has its cell's letter
      held : (v : ℕ) → IsFree ex v → all_have (slot_of (length p)) (letter_of (cell_in col v))
          (voice_shapes ex v (bar_of (length p))) ≡ true
      held v free =
          let shapes : List (List ℕ) = voice_shapes ex v (bar_of (length p)) in
          let hold = still.shapes v free.there in
          ap (λ l. all_have (slot_of (length p)) l shapes)
          (same_letter (slot_of (length p)) (letter_of (cell_in col v)) 72 shapes hold
          (allowed_there ex (length p) v col menu free))
          ∙ hold
