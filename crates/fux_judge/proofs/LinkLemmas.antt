-- What a link reads of a rule of neighbors, and of a toll, is what the table says of it
-- (`broken_at`, `cost_at`); and what a link costs is what its column costs by itself and what the
-- two cost together (`link_parts`).
use Rattle.std.proofs.Common.{◌≡◌, ℕ, ◌+◌, ◌*◌, ◌==◌, ◌≤◌, ◌&&◌, ◌||◌, Bool, true, false, if◌then◌else◌, List, [], ◌∷◌, map, Option, Some, None, zero, suc, refl, ap, sym, ◌∙◌, subst, arith}
use Rattle.std.specs.Prelude.{IsSomeAnd}
use Rattle.std.specs.Borrow.{Bor}
use Rattle.std.specs.List.{filter, find, list_all, list_any, sum_by}
use Rattle.std.proofs.lemmas.Bool.{and_parts, eqb-true, or_parts, cond-false}
use Rattle.std.proofs.lemmas.List.Sums.{sum_by-cons}
use Rattle.arrayvec.specs.ArrayVec.{ArrayVec}
use Rattle.fux_grid.specs.declared.cell.Cell.{Cell}
use Rattle.fux_grid.specs.declared.cell.Cell.TheVariants.{Rest, Hold, Start}
use Rattle.fux_grid.specs.declared.exercise.Exercise.{Exercise}
use Rattle.fux_grid.specs.Cells.{cell_in, pitch_of}
use Rattle.fux_grid.specs.Columns.{line, newest_column}
use Rattle.rule_law.specs.declared.table.Form.{Form}
use Rattle.rule_law.specs.declared.table.Form.TheVariants.{OneVoice, TwoVoices}
use Rattle.rule_law.specs.declared.table.Kind.{Kind}
use Rattle.rule_law.specs.declared.table.Kind.TheVariants.{Column, Pair, Window}
use Rattle.rule_law.specs.Forms as forms
use Rattle.rule_law.specs.Nearby.{NearRow, Pitches, whole_of, cells_before, previous_pitches, sounding_pitches}
use Rattle.rule_law.specs.Places.{Row}
use Rattle.rule_law.specs.Rulebooks.{RuleRow, TollRow, no_rule, no_toll}
use Rattle.rule_law.specs.Terms.{previous_pitch}
use Rattle.rule_law.specs.Voices.{pair_sets, voice_sets}
use Rattle.melody_rules.specs.Rows as melody
use Rattle.motion_rules.specs.Book as motion_book
use Rattle.motion_rules.specs.InnerVoices.{inner_toll}
use Rattle.motion_rules.specs.Rows as motion
use Rattle.dissonance_rules.specs.Book as dissonance_book
use Rattle.dissonance_rules.specs.Rows as dissonance
use Rattle.rhythm_cadence.specs.Book as rhythm_book
use Rattle.rhythm_cadence.specs.Patterns.{ligature_toll}
use Rattle.rhythm_cadence.specs.Rows as rhythm
use Rattle.doubling_rules.specs.Rows as doubling
use Rattle.penalty_sheet.specs.declared.sheet.Sheet.{Sheet}
use Rattle.penalty_sheet.specs.Weights.{weight_of}
use Rattle.fux_judge.specs.declared.link.Link.{Link}
use Rattle.fux_judge.specs.Crates.{RuleCrate, Melody, Motion, Dissonance, Rhythm, Doubling, crate_with, crate_with_toll, rule_by, toll_by}
use Rattle.fux_judge.proofs.Facts.{rule_keeps}
use Rattle.fux_judge.specs.Links.{behind_of, begun, breaks_between, breaks_strictly, column_of, column_rules, column_tolls, cost_between, given, is_of_column, is_of_neighbors, is_of_pair, is_rule_between, is_toll_between, link_of, pair_of, pair_rules, pair_tolls, together}
use Rattle.fux_judge.specs.Neighbors.{IsLink, breaks_at_link, breaks_strictly_at_link, charge_at_link, cost_at_link}
use Rattle.fux_judge.specs.Penalties.{is_strict_at}
use Rattle.fux_judge.specs.Rules.{all_sets, breaks, cost_enough, costs, enough, rule_at, rules_read, toll_at, tolls_read}
use Rattle.fux_judge.specs.Steps.{sets_of_rule}
use Rattle.fux_judge.proofs.CrateLemmas.{rule_of_crate, toll_of_crate}
use Rattle.fux_judge.proofs.MomentLemmas.{cost_settled_soon}

-- ---- what is known behind one column

begun_in : (col : List Cell) (v : ℕ) → cell_in (map begun col) v ≡ begun (cell_in col v)
begun_in [] v = refl
begun_in (c ∷ col) zero = refl
begun_in (c ∷ col) (suc v) = begun_in col v

heard : (c : Cell) → previous_pitch (c ∷ begun c ∷ []) ≡ pitch_of c
heard Rest = refl
heard (Hold p) = refl
heard (Start p) = refl

-- a voice's previous note is what it sounds there
sounds : (col : List Cell) (v : ℕ) → previous_pitch (line v (behind_of (Some col))) ≡ pitch_of (cell_in col v)
sounds col v = ap (λ d. previous_pitch (cell_in col v ∷ d ∷ [])) (begun_in col v) ∙ heard (cell_in col v)

pub all_sound : (col : List Cell) → previous_pitches (behind_of (Some col)) ≡ sounding_pitches col
all_sound col = rw (sounds col 0, sounds col 1, sounds col 2, sounds col 3) refl

-- of a link: the column before its own is the newest behind it, and each voice's previous note is
-- the one that it sounds there
pub newest_behind : (l : Link) → IsLink l → l.before.now ≡ newest_column (behind_of (given l.prev))
newest_behind l link = link.before ∙ at l.prev
  where
    at : (prev : Option (Bor (ArrayVec Cell))) → cells_before prev ≡ newest_column (behind_of (given prev))
    at None = refl
    at (Some col) = refl

pub heard_behind : (l : Link) → IsLink l → (pitches : Pitches) → pitches ≡ sounding_pitches l.before.now
    → pitches ≡ previous_pitches (behind_of (given l.prev))
heard_behind l link pitches heard = heard ∙ ap sounding_pitches link.before ∙ at l.prev
  where
    at : (prev : Option (Bor (ArrayVec Cell))) → sounding_pitches (cells_before prev)
        ≡ previous_pitches (behind_of (given prev))
    at None = refl
    at (Some col) = sym (all_sound col.now.items)

-- a row that reads no more than neighbors
pub record HasNearRow {R : Type 0} (reads : Row R) : Type 0 where
  pub row : NearRow R
  pub is : reads ≡ whole_of row

-- ---- a rule of neighbors, in the crate that has it

-- a choice of which the first is of more columns
other_kind : (b : Bool) (x y : Kind) → is_of_neighbors x ≡ false → is_of_neighbors (if b then x else y) ≡ true → b
    ≡ false
other_kind true x y out h = let both : false ≡ true = sym out ∙ h in cc
other_kind false x y out h = refl

other_row : (b : Bool) (x y : RuleRow) → is_of_neighbors x.kind ≡ false → is_of_neighbors (if b then x else y).kind
    ≡ true → b ≡ false
other_row true x y out h = let both : false ≡ true = sym out ∙ h in cc
other_row false x y out h = refl

rhythm_windows : (rule : ℕ) → is_of_neighbors (rhythm_book.late_row rule).kind ≡ false
rhythm_windows rule = at (rule == 3) (rule == 22)
  where
    at : (a b : Bool) → is_of_neighbors (if a then rhythm_book.shape_rule
        else (if b then rhythm_book.cadence_rule else rhythm_book.quaver_rule)).kind ≡ false
    at true b = refl
    at false true = refl
    at false false = refl

-- a row of neighbors that a rule of neighbors is read by
module _ (rule : ℕ) (between : is_rule_between rule ≡ true) where
  between_by : (crate : Option RuleCrate) → crate_with rule ≡ crate → is_of_neighbors (rule_by crate rule).kind ≡ true
  between_by crate its = sym (ap (λ (r : RuleRow). is_of_neighbors r.kind) (rule_of_crate rule crate its)) ∙ between

  pub soon_motion : crate_with rule ≡ Some Motion → rule_at rule ≡ motion_book.at_once_row rule
  soon_motion its =
      rule_of_crate rule (Some Motion) its
      ∙ cond-false (motion_book.is_late rule) (motion_book.late_row rule) (motion_book.at_once_row rule)
      (other_row (motion_book.is_late rule) (motion_book.late_row rule) (motion_book.at_once_row rule) refl
      (between_by (Some Motion) its))

  pub soon_dissonance : crate_with rule ≡ Some Dissonance → rule_at rule ≡ dissonance_book.at_once_row rule
  soon_dissonance its =
      rule_of_crate rule (Some Dissonance) its
      ∙ cond-false (dissonance_book.is_late rule) (dissonance_book.late_row rule) (dissonance_book.at_once_row rule)
      (other_row (dissonance_book.is_late rule) (dissonance_book.late_row rule) (dissonance_book.at_once_row rule) refl
      (between_by (Some Dissonance) its))

  not_late_rhythm : crate_with rule ≡ Some Rhythm → rhythm_book.is_late rule ≡ false
  not_late_rhythm its =
      other_row (rhythm_book.is_late rule) (rhythm_book.late_row rule) (rhythm_book.at_once_row rule)
      (rhythm_windows rule) (between_by (Some Rhythm) its)

  pub soon_rhythm : crate_with rule ≡ Some Rhythm → rule_at rule ≡ rhythm_book.at_once_row rule
  soon_rhythm its =
      rule_of_crate rule (Some Rhythm) its
      ∙ cond-false (rhythm_book.is_late rule) (rhythm_book.late_row rule) (rhythm_book.at_once_row rule)
      (not_late_rhythm its)

  -- so it is settled at its own column
  soon_enough : (it : RuleRow) → rule_at rule ≡ it → it.late ≡ false
      → (ex : Exercise) (voices i : ℕ) (behind : List (List Cell)) (now : List Cell) (ahead : List (List Cell))
      → enough rule ex voices i behind now ahead ≡ true
  soon_enough it e soon = (rule_keeps rule).at_once (ap (λ (r : RuleRow). r.late) e ∙ soon)

  pub settled_soon : (ex : Exercise) (voices i : ℕ) (behind : List (List Cell)) (now : List Cell)
      (ahead : List (List Cell))
      → enough rule ex voices i behind now ahead ≡ true
  settled_soon = at (crate_with rule) refl
    where
      at : (crate : Option RuleCrate) → crate_with rule ≡ crate
          → (ex : Exercise) (voices i : ℕ) (behind : List (List Cell)) (now : List Cell) (ahead : List (List Cell))
          → enough rule ex voices i behind now ahead ≡ true
      at None its = soon_enough no_rule (rule_of_crate rule None its) refl
      at (Some Melody) its = soon_enough (rule_by (Some Melody) rule) (rule_of_crate rule (Some Melody) its) refl
      at (Some Motion) its = soon_enough (motion_book.at_once_row rule) (soon_motion its) refl
      at (Some Dissonance) its = soon_enough (dissonance_book.at_once_row rule) (soon_dissonance its) refl
      at (Some Rhythm) its = soon_enough (rhythm_book.at_once_row rule) (soon_rhythm its) refl
      at (Some Doubling) its = λ ex voices i behind now ahead.
          ap (λ (r : RuleRow). r.enough ex voices i behind now ahead) (rule_of_crate rule (Some Doubling) its)

  module _ (ex : Exercise) (voices : ℕ) where
    of_row : (it : RuleRow) → rule_at rule ≡ it → breaks rule ex voices ≡ it.broken ex voices
    of_row it e = ap (λ (r : RuleRow). r.broken ex voices) e

    pub melody_row : crate_with rule ≡ Some Melody → breaks rule ex voices ≡ whole_of (melody.near_rows rule ex voices)
    melody_row its =
        of_row (rule_by (Some Melody) rule) (rule_of_crate rule (Some Melody) its)
        ∙ cond-false (melody.looks_back rule) (melody.window_rows rule ex voices)
        (whole_of (melody.near_rows rule ex voices))
        (other_kind (melody.looks_back rule) Window Pair refl (between_by (Some Melody) its))

    pub motion_row : crate_with rule ≡ Some Motion → breaks rule ex voices ≡ whole_of (motion.near_rows rule ex voices)
    motion_row its = of_row (motion_book.at_once_row rule) (soon_motion its)

    pub dissonance_row : crate_with rule ≡ Some Dissonance → breaks rule ex voices
        ≡ whole_of (dissonance.near_rows rule ex voices)
    dissonance_row its = of_row (dissonance_book.at_once_row rule) (soon_dissonance its)

    pub rhythm_row : crate_with rule ≡ Some Rhythm → breaks rule ex voices ≡ whole_of (rhythm.near_rows rule ex voices)
    rhythm_row its =
        let other : (rule == 3) ≡ false = (or_parts (rule == 3) ((rule == 22) || (rule == 25))
        (grouped (rule == 3) (rule == 22) (rule == 25) (not_late_rhythm its))).0 in
        of_row (rhythm_book.at_once_row rule) (soon_rhythm its) ∙ ap (λ b. chosen b) other
      where
        grouped : (a b c : Bool) → (a || b || c) ≡ false → (a || (b || c)) ≡ false
        grouped true b c h = cc
        grouped false b c h = h

        chosen : Bool → Row Bool
        chosen b i behind now ahead =
            if b then rhythm.shape_row ex voices i behind now ahead
            else whole_of (rhythm.near_rows rule ex voices) i behind now ahead

    pub doubling_row : crate_with rule ≡ Some Doubling → breaks rule ex voices
        ≡ whole_of (doubling.doubling_rows ex voices)
    doubling_row its = of_row (rule_by (Some Doubling) rule) (rule_of_crate rule (Some Doubling) its)

    pub none_row : crate_with rule ≡ None → breaks rule ex voices ≡ whole_of (λ i before previous now. false)
    none_row its = of_row no_rule (rule_of_crate rule None its)

    pub has_row : HasNearRow (breaks rule ex voices)
    has_row = at (crate_with rule) refl
      where
        at : (crate : Option RuleCrate) → crate_with rule ≡ crate → HasNearRow (breaks rule ex voices)
        at None its = record { row = λ i before previous now. false; is = none_row its }
        at (Some Melody) its = record { row = melody.near_rows rule ex voices; is = melody_row its }
        at (Some Motion) its = record { row = motion.near_rows rule ex voices; is = motion_row its }
        at (Some Dissonance) its = record { row = dissonance.near_rows rule ex voices; is = dissonance_row its }
        at (Some Rhythm) its = record { row = rhythm.near_rows rule ex voices; is = rhythm_row its }
        at (Some Doubling) its = record { row = doubling.doubling_rows ex voices; is = doubling_row its }

-- what a rule of neighbors reads there is what the link breaks
pub broken_at : (rule voices : ℕ) (l : Link) → is_rule_between rule ≡ true
    → breaks rule l.exercise.now voices l.place (behind_of (given l.prev)) l.next.now [] ≡ breaks_at_link l rule voices
broken_at rule voices l between =
    sym (ap (λ b. b && breaks rule l.exercise.now voices l.place (behind_of (given l.prev)) l.next.now []) between)

-- only the sets of its form need be tried
pub for_all_sets : (ex : Exercise) (i : ℕ) (before : Option (List Cell)) (next : List Cell) (rule : ℕ)
    → list_any (λ v. breaks_between ex i before next rule v && is_strict_at rule ex v i) (sets_of_rule rule ex)
    ≡ breaks_strictly ex i before next rule
for_all_sets ex i before next rule = at (is_of_neighbors (rule_at rule).kind)
  where
    none : (sets : List ℕ) → list_any (λ v. false) sets ≡ false
    none [] = refl
    none (v ∷ sets) = none sets

    at : (b : Bool) → list_any (λ v. (b && breaks rule ex v i (behind_of before) next []) && is_strict_at rule ex v i)
        (sets_of_rule rule ex) ≡ list_any (λ v. (b && breaks rule ex v i (behind_of before) next [])
        && is_strict_at rule ex v i) all_sets
    at true = sym (((rule_keeps rule).form ex i (behind_of before) next []).any (λ v. is_strict_at rule ex v i))
    at false = none (sets_of_rule rule ex) ∙ sym (none all_sets)

-- a test that passes for a number passes for one of any that have it
passes_within : (test : ℕ → Bool) (x : ℕ) (ys : List ℕ) → list_any (λ y. y == x) ys ≡ true → test x ≡ true
    → list_any test ys ≡ true
passes_within test x [] here passes = let both : false ≡ true = here in cc
passes_within test x (y ∷ ys) here passes = at (y == x) refl here (λ h. passes_within test x ys h passes)
  where
    later : (a : Bool) → list_any test ys ≡ true → (a || list_any test ys) ≡ true
    later true h = refl
    later false h = h

    at : (b : Bool) → (y == x) ≡ b → (b || list_any (λ y. y == x) ys) ≡ true
        → (list_any (λ y. y == x) ys ≡ true → list_any test ys ≡ true)
        → (test y || list_any test ys) ≡ true
    at true e h more = ap (λ b. b || list_any test ys) (ap test (eqb-true y x e) ∙ passes)
    at false e h more = later (test y) (more h)

-- and one that passes for one of some numbers passes for one of any that have them all
pub any_within : (test : ℕ → Bool) (few many : List ℕ) → list_all (λ x. list_any (λ y. y == x) many) few ≡ true
    → list_any test few ≡ true → list_any test many ≡ true
any_within test [] many within some = let both : false ≡ true = some in cc
any_within test (x ∷ few) many within some =
    let parts = and_parts (list_any (λ y. y == x) many) (list_all (λ x. list_any (λ y. y == x) many) few) within in
    at (test x) refl some (passes_within test x many parts.0) (any_within test few many parts.1)
  where
    at : (b : Bool) → test x ≡ b → (b || list_any test few) ≡ true → (test x ≡ true → list_any test many ≡ true)
        → (list_any test few ≡ true → list_any test many ≡ true) → list_any test many ≡ true
    at true e h this more = this e
    at false e h this more = more h

between_two : (a b c : Bool) → (a ≡ true → b ≡ true) → (b ≡ true → c ≡ true) → a ≡ c → b ≡ c
between_two a true c less more e = sym (more refl)
between_two true false c less more e = let both : false ≡ true = less refl in cc
between_two false false c less more e = e

-- or those of its form in four voices: the sets of one voice, or of two
module _ (ex : Exercise) (i : ℕ) (before : Option (List Cell)) (next : List Cell) (rule : ℕ) where
  abbrev pub strictly : ℕ → Bool
  strictly v = breaks_between ex i before next rule v && is_strict_at rule ex v i

  of_form : (form : Form) → (rule_at rule).form ≡ form
      → list_any strictly (forms.sets_of form ex.voices) ≡ breaks_strictly ex i before next rule
  of_form form e =
      ap (λ form. list_any strictly (forms.sets_of form ex.voices)) (sym e) ∙ for_all_sets ex i before next rule

  pub for_each_voice : (rule_at rule).form ≡ OneVoice → list_any strictly voice_sets
      ≡ breaks_strictly ex i before next rule
  unfolding forms.all_sets
  for_each_voice e =
      between_two (list_any strictly (forms.voice_sets_of ex.voices)) (list_any strictly voice_sets)
      (breaks_strictly ex i before next rule)
      (any_within strictly (forms.voice_sets_of ex.voices) voice_sets (at (ex.voices == 2) (ex.voices == 3)))
      (any_within strictly voice_sets all_sets refl)
      (of_form OneVoice e)
    where
      at : (b c : Bool) → list_all (λ x. list_any (λ y. y == x) voice_sets)
          (if b then 1 ∷ 2 ∷ [] else (if c then 1 ∷ 2 ∷ 4 ∷ [] else voice_sets)) ≡ true
      at true c = refl
      at false true = refl
      at false false = refl

  pub for_each_pair : (rule_at rule).form ≡ TwoVoices → list_any strictly pair_sets
      ≡ breaks_strictly ex i before next rule
  unfolding forms.all_sets
  for_each_pair e =
      between_two (list_any strictly (forms.pair_sets_of ex.voices)) (list_any strictly pair_sets)
      (breaks_strictly ex i before next rule)
      (any_within strictly (forms.pair_sets_of ex.voices) pair_sets (at (ex.voices == 2) (ex.voices == 3)))
      (any_within strictly pair_sets all_sets refl)
      (of_form TwoVoices e)
    where
      at : (b c : Bool) → list_all (λ x. list_any (λ y. y == x) pair_sets)
          (if b then 3 ∷ [] else (if c then 3 ∷ 5 ∷ 6 ∷ [] else pair_sets)) ≡ true
      at true c = refl
      at false true = refl
      at false false = refl

-- what is read of a link is what is read of its columns
module _ (l : Link) (ex : Bor Exercise) (i : ℕ) (prev : Option (Bor (ArrayVec Cell))) (next : List Cell)
    (e : l.exercise ≡ ex) (f : l.place ≡ i) (g : l.prev ≡ prev) (h : l.next.now ≡ next) where
  pub link_breaks : (rules : List ℕ) → list_any (breaks_strictly_at_link l) rules
      ≡ list_any (breaks_strictly ex.now i (given prev) next) rules
  link_breaks rules =
      ap (λ (x : Bor Exercise). list_any (breaks_strictly x.now l.place (given l.prev) l.next.now) rules) e
      ∙ ap (λ n. list_any (breaks_strictly ex.now n (given l.prev) l.next.now) rules) f
      ∙ ap (λ p. list_any (breaks_strictly ex.now i (given p) l.next.now) rules) g
      ∙ ap (λ cells. list_any (breaks_strictly ex.now i (given prev) cells) rules) h

  pub link_finds : (rules : List ℕ) → find (breaks_strictly_at_link l) rules
      ≡ find (breaks_strictly ex.now i (given prev) next) rules
  link_finds rules =
      ap (λ (x : Bor Exercise). find (breaks_strictly x.now l.place (given l.prev) l.next.now) rules) e
      ∙ ap (λ n. find (breaks_strictly ex.now n (given l.prev) l.next.now) rules) f
      ∙ ap (λ p. find (breaks_strictly ex.now i (given p) l.next.now) rules) g
      ∙ ap (λ cells. find (breaks_strictly ex.now i (given prev) cells) rules) h

  pub link_charges : (sheet : Sheet) (tolls : List ℕ)
      → sum_by (charge_at_link sheet l) tolls
      ≡ sum_by (λ toll. cost_between ex.now i (given prev) next toll * weight_of sheet toll) tolls
  link_charges sheet tolls =
      ap (λ (x : Bor Exercise). sum_by (λ toll. cost_between x.now l.place (given l.prev) l.next.now toll * weight_of
      sheet toll) tolls) e
      ∙ ap (λ n. sum_by (λ toll. cost_between ex.now n (given l.prev) l.next.now toll * weight_of sheet toll) tolls) f
      ∙ ap (λ p. sum_by (λ toll. cost_between ex.now i (given p) l.next.now toll * weight_of sheet toll) tolls) g
      ∙ ap (λ cells. sum_by (λ toll. cost_between ex.now i (given prev) cells toll * weight_of sheet toll) tolls) h

-- ---- a toll of neighbors, in the crate that has it

module _ (toll : ℕ) (between : is_toll_between toll ≡ true) where
  toll_between_by : (crate : Option RuleCrate) → crate_with_toll toll ≡ crate
      → is_of_neighbors (toll_by crate toll).kind ≡ true
  toll_between_by crate its =
      sym (ap (λ (t : TollRow). is_of_neighbors t.kind) (toll_of_crate toll crate its)) ∙ between

  -- it isn't one of a window
  not_window : (n : ℕ) → is_toll_between n ≡ false → (toll == n) ≡ false
  not_window n window = at (toll == n) refl
    where
      at : (b : Bool) → (toll == n) ≡ b → b ≡ false
      at true e = let P : ℕ → Type 0 = λ t. is_toll_between t ≡ true in let both : false ≡ true = sym window
          ∙ subst P (eqb-true toll n e) between in cc
      at false e = refl

  -- so it isn't Q16, and is settled at its own column; nor is it Q14 or Q21
  not_pattern : (toll == 16) ≡ false
  unfolding toll_at
  not_pattern = not_window 16 refl

  not_run : (toll == 14) ≡ false
  unfolding toll_at
  not_run = not_window 14 refl

  not_inflection : (toll == 21) ≡ false
  unfolding toll_at
  not_inflection = not_window 21 refl

  pub toll_settled_soon : (ex : Exercise) (i : ℕ) (behind : List (List Cell)) (now : List Cell)
      (ahead : List (List Cell)) → cost_enough toll ex i behind now ahead ≡ true
  toll_settled_soon = cost_settled_soon toll not_pattern

  module _ (ex : Exercise) where
    of_toll : (it : TollRow) → toll_at toll ≡ it → costs toll ex ≡ it.cost ex
    of_toll it e = ap (λ (t : TollRow). t.cost ex) e

    pub melody_toll : crate_with_toll toll ≡ Some Melody → costs toll ex ≡ whole_of (melody.toll_rows toll ex)
    melody_toll its =
        of_toll (toll_by (Some Melody) toll) (toll_of_crate toll (Some Melody) its)
        ∙ cond-false (toll == 13) (melody.open_leaps ex) (whole_of (melody.toll_rows toll ex))
        (other_kind (toll == 13) Window Pair refl (toll_between_by (Some Melody) its))

    motion_choice : Bool → Bool → TollRow
    motion_choice inner run =
        if inner || run then (if inner then motion_book.inner_row else motion_book.run_row)
        else motion_book.at_once_toll toll

    -- Q12, and the other
    pub inner_toll_row : crate_with_toll toll ≡ Some Motion → (toll == 12) ≡ true → costs toll ex
        ≡ whole_of (inner_toll ex)
    unfolding motion_choice
    inner_toll_row its is =
        of_toll motion_book.inner_row (toll_of_crate toll (Some Motion) its
        ∙ ap (λ b. motion_choice b (toll == 14)) is)

    pub motion_toll : crate_with_toll toll ≡ Some Motion → (toll == 12) ≡ false → costs toll ex
        ≡ whole_of (motion.toll_rows toll ex)
    unfolding motion_choice
    motion_toll its other =
        of_toll (motion_book.at_once_toll toll)
        (toll_of_crate toll (Some Motion) its ∙ ap (λ b. motion_choice b (toll == 14)) other
        ∙ ap (motion_choice false) not_run)

    pub dissonance_toll : crate_with_toll toll ≡ Some Dissonance → costs toll ex
        ≡ whole_of (dissonance.toll_rows toll ex)
    dissonance_toll its = of_toll (toll_by (Some Dissonance) toll) (toll_of_crate toll (Some Dissonance) its)

    -- Q15, and no other
    rhythm_choice : Bool → Bool → Bool → TollRow
    rhythm_choice ligature pattern inflection =
        if ligature || pattern || inflection then (if ligature then rhythm_book.ligature_row
        else (if inflection then rhythm_book.inflection_row else rhythm_book.pattern_row))
        else no_toll

    pub ligature_toll_row : crate_with_toll toll ≡ Some Rhythm → (toll == 15) ≡ true → costs toll ex
        ≡ whole_of (ligature_toll ex)
    unfolding rhythm_choice
    ligature_toll_row its is =
        of_toll rhythm_book.ligature_row (toll_of_crate toll (Some Rhythm) its
        ∙ ap (λ b. rhythm_choice b (toll == 16) (toll == 21)) is)

    pub other_rhythm_toll : crate_with_toll toll ≡ Some Rhythm → (toll == 15) ≡ false → costs toll ex
        ≡ whole_of (λ i before previous now. 0)
    unfolding rhythm_choice
    other_rhythm_toll its other =
        of_toll no_toll
        (toll_of_crate toll (Some Rhythm) its ∙ ap (λ b. rhythm_choice b (toll == 16) (toll == 21)) other
        ∙ ap (λ b. rhythm_choice false b (toll == 21)) not_pattern
        ∙ ap (rhythm_choice false false) not_inflection)

    pub doubling_toll : crate_with_toll toll ≡ Some Doubling → costs toll ex
        ≡ whole_of (doubling.doubling_tolls toll ex)
    doubling_toll its = of_toll (toll_by (Some Doubling) toll) (toll_of_crate toll (Some Doubling) its)

    pub none_toll : crate_with_toll toll ≡ None → costs toll ex ≡ whole_of (λ i before previous now. 0)
    none_toll its = of_toll no_toll (toll_of_crate toll None its)

    pub has_toll_row : HasNearRow (costs toll ex)
    has_toll_row = at (crate_with_toll toll) refl (toll == 12) refl
      where
        at : (crate : Option RuleCrate) → crate_with_toll toll ≡ crate → (b : Bool) → (toll == 12) ≡ b
            → HasNearRow (costs toll ex)
        at None its b e = record { row = λ i before previous now. 0; is = none_toll its }
        at (Some Melody) its b e = record { row = melody.toll_rows toll ex; is = melody_toll its }
        at (Some Motion) its true e = record { row = inner_toll ex; is = inner_toll_row its e }
        at (Some Motion) its false e = record { row = motion.toll_rows toll ex; is = motion_toll its e }
        at (Some Dissonance) its b e = record { row = dissonance.toll_rows toll ex; is = dissonance_toll its }
        at (Some Rhythm) its b e = of_rhythm its (toll == 15) refl
          where
            of_rhythm : crate_with_toll toll ≡ Some Rhythm → (b : Bool) → (toll == 15) ≡ b → HasNearRow (costs toll ex)
            of_rhythm its true e = record { row = ligature_toll ex; is = ligature_toll_row its e }
            of_rhythm its false e = record { row = λ i before previous now. 0; is = other_rhythm_toll its e }
        at (Some Doubling) its b e = record { row = doubling.doubling_tolls toll ex; is = doubling_toll its }

-- and what a toll costs there
pub cost_at : (toll : ℕ) (l : Link) → is_toll_between toll ≡ true
    → costs toll l.exercise.now l.place (behind_of (given l.prev)) l.next.now [] ≡ cost_at_link l toll
cost_at toll l between =
    sym (ap (λ b. if b then costs toll l.exercise.now l.place (behind_of (given l.prev)) l.next.now [] else 0) between)

-- ---- a list by kinds

module _ (kind : ℕ → Kind) where
  any_by_kind : (test : ℕ → Bool) → ((x : ℕ) → kind x ≡ Window → test x ≡ false) → (xs : List ℕ)
      → list_any test xs ≡ (list_any test (filter (λ x. is_of_column (kind x)) xs)
      || list_any test (filter (λ x. is_of_pair (kind x)) xs))
  any_by_kind test none [] = refl
  any_by_kind test none (x ∷ xs) =
      any_more (kind x) (test x) (list_any test xs) (filter (λ x. is_of_column (kind x)) xs)
      (filter (λ x. is_of_pair (kind x)) xs) refl (none x) (any_by_kind test none xs)
    where
      front : (t a b : Bool) → (t || (a || b)) ≡ ((t || a) || b)
      front true a b = refl
      front false a b = refl

      middle : (t a b : Bool) → (t || (a || b)) ≡ (a || (t || b))
      middle true true b = refl
      middle true false b = refl
      middle false a b = refl

      any_more : (k : Kind) (t r : Bool) (cs ps : List ℕ) → t ≡ test x → (k ≡ Window → test x ≡ false) → r
          ≡ (list_any test cs || list_any test ps)
          → (t || r) ≡ (list_any test (if is_of_column k then x ∷ cs else cs)
          || list_any test (if is_of_pair k then x ∷ ps else ps))
      any_more Column t r cs ps same out e = ap (λ b. t || b) e ∙ front t (list_any test cs) (list_any test ps)
          ∙ ap (λ b. (b || list_any test cs) || list_any test ps) same
      any_more Pair t r cs ps same out e = ap (λ b. t || b) e ∙ middle t (list_any test cs) (list_any test ps)
          ∙ ap (λ b. list_any test cs || (b || list_any test ps)) same
      any_more Window t r cs ps same out e = ap (λ b. b || r) (same ∙ out refl) ∙ e

  sum_by_kind : (f : ℕ → ℕ) → ((x : ℕ) → kind x ≡ Window → f x ≡ 0) → (xs : List ℕ)
      → sum_by f xs ≡ sum_by f (filter (λ x. is_of_column (kind x)) xs) + sum_by f
      (filter (λ x. is_of_pair (kind x)) xs)
  sum_by_kind f none [] = refl
  sum_by_kind f none (x ∷ xs) =
      sum_by-cons f x xs
      ∙ sum_more (kind x) (sum_by f xs) (filter (λ x. is_of_column (kind x)) xs) (filter (λ x. is_of_pair (kind x)) xs)
      (none x) (sum_by_kind f none xs)
    where
      sum_more : (k : Kind) (r : ℕ) (cs ps : List ℕ) → (k ≡ Window → f x ≡ 0) → r ≡ sum_by f cs + sum_by f ps
          → f x + r ≡ sum_by f (if is_of_column k then x ∷ cs else cs) + sum_by f (if is_of_pair k then x ∷ ps else ps)
      sum_more Column r cs ps out e = omega (arith, e, sum_by-cons f x cs)
      sum_more Pair r cs ps out e = omega (arith, e, sum_by-cons f x ps)
      sum_more Window r cs ps out e = omega (arith, e, out refl)

-- ---- the parts of a link

module _ (ex : Exercise) (i : ℕ) (before : Option (List Cell)) (next : List Cell) where
  window_unbroken : (rule : ℕ) → (rule_at rule).kind ≡ Window → breaks_strictly ex i before next rule ≡ false
  unfolding forms.all_sets
  window_unbroken rule e =
      ap (λ k. list_any (λ voices. (is_of_neighbors k && breaks rule ex voices i (behind_of before) next [])
      && is_strict_at rule ex voices i) all_sets) e

  -- what a column decides by itself it decides behind any other
  columns_break : list_any (breaks_strictly ex i before next) column_rules
      ≡ list_any (breaks_strictly ex i None next) column_rules
  unfolding column_rules rules_read rule_at
  columns_break = refl

  breaks_parts : list_any (breaks_strictly ex i before next) rules_read
      ≡ (list_any (breaks_strictly ex i None next) column_rules
      || list_any (breaks_strictly ex i before next) pair_rules)
  unfolding column_rules pair_rules
  breaks_parts =
      any_by_kind (λ rule. (rule_at rule).kind) (breaks_strictly ex i before next) window_unbroken rules_read
      ∙ ap (λ b. b || list_any (breaks_strictly ex i before next) pair_rules) columns_break

  module _ (sheet : Sheet) where
    abbrev pub charge : Option (List Cell) → ℕ → ℕ
    charge b toll = cost_between ex i b next toll * weight_of sheet toll

    window_free : (toll : ℕ) → (toll_at toll).kind ≡ Window → charge before toll ≡ 0
    window_free toll e =
        ap (λ k. (if is_of_neighbors k then costs toll ex i (behind_of before) next [] else 0) * weight_of sheet toll) e
        ∙ nothing (weight_of sheet toll)
      where
        nothing : (w : ℕ) → 0 * w ≡ 0
        nothing w = omega arith

    columns_cost : sum_by (charge before) column_tolls ≡ sum_by (charge None) column_tolls
    unfolding column_tolls tolls_read toll_at
    columns_cost = refl

    costs_parts : sum_by (charge before) tolls_read
        ≡ sum_by (charge None) column_tolls + sum_by (charge before) pair_tolls
    unfolding column_tolls pair_tolls
    costs_parts =
        sum_by_kind (λ toll. (toll_at toll).kind) (charge before) window_free tolls_read
        ∙ ap (λ n. n + sum_by (charge before) pair_tolls) columns_cost

    pub link_parts : link_of ex sheet i before next
        ≡ together (column_of ex sheet i next) (pair_of ex sheet i before next)
    unfolding link_of column_of pair_of
    link_parts =
        ap (λ b. if b then None else Some (sum_by (charge before) tolls_read)) breaks_parts
        ∙ at (list_any (breaks_strictly ex i None next) column_rules)
        (list_any (breaks_strictly ex i before next) pair_rules)
      where
        at : (a b : Bool) → (if a || b then None else Some (sum_by (charge before) tolls_read))
            ≡ together (if a then None else Some (sum_by (charge None) column_tolls))
            (if b then None else Some (sum_by (charge before) pair_tolls))
        at true b = refl
        at false true = refl
        at false false = ap Some costs_parts

    pub link_from_parts : (own pair : Option ℕ) → own ≡ column_of ex sheet i next → pair
        ≡ pair_of ex sheet i before next → together own pair ≡ link_of ex sheet i before next
    link_from_parts own pair e f =
        ap (λ o. together o pair) e ∙ ap (together (column_of ex sheet i next)) f ∙ sym link_parts

    -- so a column costs by itself no more than any link of it
    pub column_within : (x : ℕ) → link_of ex sheet i before next ≡ Some x
        → IsSomeAnd (column_of ex sheet i next) (λ y. y ≤ x)
    column_within x e = at (column_of ex sheet i next) (pair_of ex sheet i before next) (sym link_parts ∙ e)
      where
        value_of : Option ℕ → ℕ
        value_of None = 0
        value_of (Some n) = n

        at : (a b : Option ℕ) → together a b ≡ Some x → IsSomeAnd a (λ y. y ≤ x)
        at None b h = cc
        at (Some u) None h = cc
        at (Some u) (Some v) h = let k : u + v ≡ x = ap value_of h in let l : u ≤ x = omega arith in l

    -- the two answers of each part
    pub column_broken : true ≡ list_any (breaks_strictly ex i None next) column_rules → None ≡ column_of ex sheet i next
    unfolding column_of
    column_broken h = ap (λ b. if b then None else Some (sum_by (charge None) column_tolls)) h

    pub column_whole : false ≡ list_any (breaks_strictly ex i None next) column_rules
        → Some (sum_by (charge None) column_tolls) ≡ column_of ex sheet i next
    unfolding column_of
    column_whole h = ap (λ b. if b then None else Some (sum_by (charge None) column_tolls)) h

    pub pair_broken : true ≡ list_any (breaks_strictly ex i before next) pair_rules → None
        ≡ pair_of ex sheet i before next
    unfolding pair_of
    pair_broken h = ap (λ b. if b then None else Some (sum_by (charge before) pair_tolls)) h

    pub pair_whole : false ≡ list_any (breaks_strictly ex i before next) pair_rules
        → Some (sum_by (charge before) pair_tolls) ≡ pair_of ex sheet i before next
    unfolding pair_of
    pair_whole h = ap (λ b. if b then None else Some (sum_by (charge before) pair_tolls)) h
