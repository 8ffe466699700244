-- At the beginning of a bar, what is kept of the columns before it are the perfect intervals at the
-- beginning of the bar before, if no note since then hides them (`kept-at_bar`). In a lawful
-- setting the species voice doesn't arrive from them in parallel (`never_arrives`).
use Rattle.std.specs.Prelude.{◌≡◌, ℕ, zero, suc, ◌+◌, ◌%◌, ◌<◌, ◌≤◌, ◌==◌, ◌&&◌, ◌||◌, Bool, true, false, nat_le, nat_lt, List, [], ◌∷◌, ◌++◌, Option, Some, None, length, slice_index_or, if◌then◌else◌, refl}
use Rattle.std.specs.List.{list_all, list_any}
use Rattle.std.proofs.Common.{ap, sym, ◌∙◌, inl, inr, arith}
use Rattle.std.proofs.lemmas.Bool.{and_parts, cases_lt, eq-eqb, eqb-true, ne_eqb}
use Rattle.std.proofs.lemmas.Bool.Decides.{nat_tests}
use Rattle.std.proofs.lemmas.List.{length-append}
use Rattle.fux_pitch.specs.declared.pitch.Pitch.{Pitch}
use Rattle.fux_grid.specs.declared.cell.Cell.{Cell}
use Rattle.fux_grid.specs.declared.exercise.Exercise.{Exercise}
use Rattle.fux_grid.specs.Cells.{cell_in, pitch_of}
use Rattle.fux_grid.specs.Columns.{Columns, earlier}
use Rattle.fux_grid.specs.Exercises.{slot_of}
use Rattle.fux_grid.proofs.Histories.{earlier-none}
use Rattle.rule_law.specs.Bars.{bar_line_before, begins_bar}
use Rattle.rule_law.specs.Forms as forms
use Rattle.rule_law.specs.Nearby.{Pitches, pitch_at}
use Rattle.rule_law.specs.Pairs.{some_pair}
use Rattle.rule_law.specs.Terms.{differs, equal_perfects, interval_in, interval_of_pitches}
use Rattle.rule_law.specs.Voices.{on_pair, voice_pairs}
use Rattle.rule_law.proofs.AroundLemmas.{length-earlier}
use Rattle.motion_rules.specs.Afterbeats.{arrive_at_bar, arrive_in_parallel, goes_within_bars, is_bare_parallel, never_leaves, newest_cells, stays_near, stays_since_bar}
use Rattle.fux_judge.specs.Lawful.{IsLawful}
use Rattle.fux_judge.specs.Rules.{all_sets, rule_at, rules_read}
use Rattle.open_ends.specs.Asked.{is_asked}
use Rattle.open_ends.specs.Parts.{HasVoices}
use Rattle.open_ends.proofs.Unbroken.{unbroken_for}
use Rattle.open_ends.specs.BarLines.{arrive_from, arrives, bar_line_in, has_species_voice, is_read, no_pitches, parallels_rule, perfect_pitch, perfect_pitches, some_arrive, takes_part, while_near}

-- ---- what is kept of the columns of a bar

module _ (ex : Exercise) where
  abbrev v : ℕ
  v = ex.species_voice

  -- the pitches at the beginning of a bar, if in each of these columns the species voice stays near
  abbrev unless_left : List Cell → List (List Cell) → Pitches
  unless_left bar_line newer =
      if list_all (λ col. stays_near (pitch_at (perfect_pitches ex bar_line) v) (cell_in col v)) newer
      then perfect_pitches ex bar_line else no_pitches

  -- from nothing nothing comes
  while_near-nothing : (now : List Cell) → while_near ex no_pitches now ≡ no_pitches
  while_near-nothing now = at (stays_near (pitch_at no_pitches v) (cell_in now v))
    where
      at : (b : Bool) → (if b then no_pitches else no_pitches) ≡ no_pitches
      at true = refl
      at false = refl

  one_more : (bar_line now : List Cell) (newer : List (List Cell))
      → while_near ex (unless_left bar_line newer) now ≡ unless_left bar_line (now ∷ newer)
  one_more bar_line now newer =
      at (stays_near (pitch_at (perfect_pitches ex bar_line) v) (cell_in now v))
      (list_all (λ col. stays_near (pitch_at (perfect_pitches ex bar_line) v) (cell_in col v)) newer) refl
    where
      at : (b c : Bool) → stays_near (pitch_at (perfect_pitches ex bar_line) v) (cell_in now v) ≡ b
          → while_near ex (if c then perfect_pitches ex bar_line else no_pitches) now
          ≡ (if b && c then perfect_pitches ex bar_line else no_pitches)
      at true true e = rw e refl
      at true false e = while_near-nothing now
      at false true e = rw e refl
      at false false e = while_near-nothing now

  kept-within : (behind : List (List Cell)) (bar_line : List Cell) (newer : List (List Cell))
      → begins_bar (length behind) ≡ true → length newer ≤ 7
      → bar_line_in ex (newer ++ bar_line ∷ behind) ≡ unless_left bar_line newer
  kept-within behind bar_line [] bar few = rw bar refl
  kept-within behind bar_line (now ∷ newer) bar few =
      let slot : length behind % 8 ≡ 0 = eqb-true (slot_of (length behind)) 0 bar in
      let within : begins_bar (length (newer ++ bar_line ∷ behind)) ≡ false =
      later (length (newer ++ bar_line ∷ behind)) (length newer) (length behind)
      (length-append newer (bar_line ∷ behind)) slot few in
      ap (λ b. if b then perfect_pitches ex now else while_near ex (bar_line_in ex (newer ++ bar_line ∷ behind)) now)
      within
      ∙ ap (λ kept. while_near ex kept now) (kept-within behind bar_line newer bar (omega (arith, few)))
      ∙ one_more bar_line now newer
    where
      later : (n k m : ℕ) → n ≡ k + suc m → m % 8 ≡ 0 → suc k ≤ 7 → (n % 8 == 0) ≡ false
      later n k m e slot few = ne_eqb (n % 8) 0 (λ h. omega (arith, e, slot, few, h))

  -- at the beginning of a bar that isn't the first
  pub kept-at_bar : (behind : List (List Cell)) → begins_bar (length behind) ≡ true → 8 ≤ length behind
      → bar_line_in ex behind
      ≡ (if never_leaves (pitch_at (perfect_pitches ex (bar_line_before behind)) v) (newest_cells behind v)
      then perfect_pitches ex (bar_line_before behind) else no_pitches)
  kept-at_bar (a ∷ b ∷ c ∷ d ∷ e ∷ f ∷ g ∷ bar_line ∷ behind) bar long =
      let slot : suc (suc (suc (suc (suc (suc (suc (suc (length behind)))))))) % 8 ≡ 0 =
      eqb-true (slot_of (suc (suc (suc (suc (suc (suc (suc (suc (length behind)))))))))) 0 bar in
      kept-within behind bar_line (a ∷ b ∷ c ∷ d ∷ e ∷ f ∷ g ∷ []) (begins (length behind) slot) (omega arith)
    where
      begins : (n : ℕ) → suc (suc (suc (suc (suc (suc (suc (suc n))))))) % 8 ≡ 0 → (n % 8 == 0) ≡ true
      begins n h = eq-eqb (n % 8) 0 (omega (arith, h))
  kept-at_bar [] bar long = absurd (omega (arith, long))
  kept-at_bar (a ∷ []) bar long = absurd (omega (arith, long))
  kept-at_bar (a ∷ b ∷ []) bar long = absurd (omega (arith, long))
  kept-at_bar (a ∷ b ∷ c ∷ []) bar long = absurd (omega (arith, long))
  kept-at_bar (a ∷ b ∷ c ∷ d ∷ []) bar long = absurd (omega (arith, long))
  kept-at_bar (a ∷ b ∷ c ∷ d ∷ e ∷ []) bar long = absurd (omega (arith, long))
  kept-at_bar (a ∷ b ∷ c ∷ d ∷ e ∷ f ∷ []) bar long = absurd (omega (arith, long))
  kept-at_bar (a ∷ b ∷ c ∷ d ∷ e ∷ f ∷ g ∷ []) bar long = absurd (omega (arith, long))

-- ---- from no pitches nothing arrives

pitch_at-none : (u : ℕ) → u < 4 → pitch_at no_pitches u ≡ None
pitch_at-none zero few = refl
pitch_at-none (suc zero) few = refl
pitch_at-none (suc (suc zero)) few = refl
pitch_at-none (suc (suc (suc zero))) few = refl
pitch_at-none (suc (suc (suc (suc u)))) few = absurd (omega (arith, few))

nothing : (h : Bool) → (h && false) ≡ false
nothing true = refl
nothing false = refl

-- from two pitches two voices have arrived
abbrev arrival : List Cell → ℕ → ℕ → Option Pitch → Option Pitch → Bool
arrival now v w p q =
    equal_perfects (interval_of_pitches p q) (interval_in now v w)
    && differs p (pitch_of (cell_in now v))
    && differs q (pitch_of (cell_in now w))

no_first : (now : List Cell) (v w : ℕ) (h : Bool) (q : Option Pitch) → (h && arrival now v w None q) ≡ false
no_first now v w h q = nothing h

no_second : (now : List Cell) (v w : ℕ) (h : Bool) (p : Option Pitch) → (h && arrival now v w p None) ≡ false
no_second now v w h None = nothing h
no_second now v w h (Some p) = nothing h

never-from_none : (ex : Exercise) (now : List Cell) (v w : ℕ) → v < 4
    → (has_species_voice ex v w && arrive_from no_pitches now v w) ≡ false
never-from_none ex now v w few =
    ap (λ p. has_species_voice ex v w && arrival now v w p (pitch_at no_pitches w)) (pitch_at-none v few)
    ∙ no_first now v w (has_species_voice ex v w) (pitch_at no_pitches w)

-- ---- two voices

neither : (t a x y p q : Bool) → (t && (a && (p || q))) ≡ false → (x ≡ true → p ≡ true) → (y ≡ true → q ≡ true)
    → ((t && (x || y)) && a) ≡ false
neither false a x y p q h f g = refl
neither true false true y p q h f g = refl
neither true false false true p q h f g = refl
neither true false false false p q h f g = refl
neither true true false false p q h f g = refl
neither true true true y true q h f g = cc
neither true true true y false q h f g = absurd (none (f refl))
  where
    none : false ≡ true → ⊥
    none h = cc
neither true true false true true q h f g = cc
neither true true false true false true h f g = cc
neither true true false true false false h f g = absurd (none (g refl))
  where
    none : false ≡ true → ⊥
    none h = cc

module _ (ex : Exercise) (there : ex.species_voice < 4) (goes : goes_within_bars ex ex.species_voice ≡ true) (i : ℕ)
    (bar : begins_bar i ≡ true) (later : nat_le 8 i ≡ true) (behind : List (List Cell)) (now : List Cell) where
  abbrev sv : ℕ
  sv = ex.species_voice

  abbrev bar_line : List Cell
  bar_line = bar_line_before behind

  abbrev own_pitch : Option Pitch
  own_pitch = pitch_at (perfect_pitches ex bar_line) sv

  pitch_at-perfect : (u : ℕ) → u < 4 → pitch_at (perfect_pitches ex bar_line) u ≡ perfect_pitch ex bar_line u
  pitch_at-perfect zero few = refl
  pitch_at-perfect (suc zero) few = refl
  pitch_at-perfect (suc (suc zero)) few = refl
  pitch_at-perfect (suc (suc (suc zero))) few = refl
  pitch_at-perfect (suc (suc (suc (suc u)))) few = absurd (omega (arith, few))

  module _ (v w : ℕ) (v_few : v < 4) (w_few : w < 4) where
    -- the species voice stays near, if it is this one
    stays : never_leaves own_pitch (newest_cells behind sv) ≡ true → (u : ℕ) → takes_part ex bar_line u ≡ true
        → (u == sv) ≡ true → stays_since_bar ex behind u ≡ true
    stays near u part same =
        let e : u ≡ sv = eqb-true u sv same in
        let own : own_pitch ≡ pitch_of (cell_in bar_line sv) =
        pitch_at-perfect sv there
        ∙ ap (λ b. if b then pitch_of (cell_in bar_line sv) else None)
        (sym (ap (takes_part ex bar_line) e) ∙ part) in
        ap (stays_since_bar ex behind) e
        ∙ ap (λ b. b && never_leaves (pitch_of (cell_in bar_line sv)) (newest_cells behind sv)) goes
        ∙ sym (ap (λ p. never_leaves p (newest_cells behind sv)) own)
        ∙ near

    from_perfect : never_leaves own_pitch (newest_cells behind sv) ≡ true
        → (nat_lt w ex.voices && is_bare_parallel ex i behind now v w) ≡ false
        → (has_species_voice ex v w && arrive_from (perfect_pitches ex bar_line) now v w) ≡ false
    from_perfect near kept =
        ap (λ p. has_species_voice ex v w && arrival now v w p (pitch_at (perfect_pitches ex bar_line) w))
        (pitch_at-perfect v v_few)
        ∙ ap (λ q. has_species_voice ex v w && arrival now v w (perfect_pitch ex bar_line v) q) (pitch_at-perfect w w_few)
        ∙ at (takes_part ex bar_line v) (takes_part ex bar_line w) refl refl
      where
        at_bar : arrive_at_bar i bar_line now v w ≡ arrive_in_parallel bar_line now v w
        at_bar = rw (bar, later) refl

        at : (b c : Bool) → takes_part ex bar_line v ≡ b → takes_part ex bar_line w ≡ c
            → (has_species_voice ex v w && arrival now v w (if b then pitch_of (cell_in bar_line v) else None)
            (if c then pitch_of (cell_in bar_line w) else None))
            ≡ false
        at false c e f = no_first now v w (has_species_voice ex v w) (if c then pitch_of (cell_in bar_line w) else None)
        at true false e f = no_second now v w (has_species_voice ex v w) (pitch_of (cell_in bar_line v))
        at true true e f =
            neither (nat_lt w ex.voices) (arrive_in_parallel bar_line now v w) (v == sv) (w == sv)
            (stays_since_bar ex behind v) (stays_since_bar ex behind w)
            (sym (ap (λ b. nat_lt w ex.voices && (b && (stays_since_bar ex behind v || stays_since_bar ex behind w)))
            at_bar) ∙ kept)
            (stays near v e) (stays near w f)

    pub never-from_kept : (nat_lt w ex.voices && is_bare_parallel ex i behind now v w) ≡ false
        → (has_species_voice ex v w && arrive_from (if never_leaves own_pitch (newest_cells behind sv)
        then perfect_pitches ex bar_line else no_pitches) now v w)
        ≡ false
    never-from_kept kept = at (never_leaves own_pitch (newest_cells behind sv)) refl
      where
        at : (b : Bool) → never_leaves own_pitch (newest_cells behind sv) ≡ b
            → (has_species_voice ex v w && arrive_from (if b then perfect_pitches ex bar_line else no_pitches) now v w)
            ≡ false
        at true e = from_perfect e kept
        at false e = never-from_none ex now v w v_few

-- ---- all pairs

none_of_six : (test : ℕ → ℕ → Bool) → test 0 1 ≡ false → test 0 2 ≡ false → test 0 3 ≡ false → test 1 2 ≡ false
    → test 1 3 ≡ false → test 2 3 ≡ false → some_pair test ≡ false
unfolding voice_pairs
none_of_six test a b c d e f = rw (a, b, c, d, e, f) refl

module _ (ex : Exercise) (voices : HasVoices ex) (s : Columns) (lawful : IsLawful ex s) (read : is_read ex ≡ true) where
  abbrev column : ℕ → List Cell
  column i = slice_index_or s i []

  asked : is_asked ex parallels_rule ≡ true
  asked = (and_parts (is_asked ex parallels_rule) (goes_within_bars ex ex.species_voice) read).0

  goes : goes_within_bars ex ex.species_voice ≡ true
  goes = (and_parts (is_asked ex parallels_rule) (goes_within_bars ex ex.species_voice) read).1

  -- S18 of a set of voices
  unbroken : (i : ℕ) → i < length s → (set : ℕ) → list_any (λ x. set == x) all_sets ≡ true
      → on_pair ex (is_bare_parallel ex i (earlier s i) (column i)) set ≡ false
  unfolding rule_at rules_read
  unbroken i here set is_set = unbroken_for ex voices.most_voices s lawful i here parallels_rule refl asked set is_set

  few : ex.species_voice < 4
  few = omega (arith, voices.species_there, voices.most_voices)

  some_none : (i : ℕ) → i < length s → begins_bar i ≡ true
      → some_arrive ex (bar_line_in ex (earlier s i)) (column i) ≡ false
  unfolding forms.all_sets
  some_none i here bar =
      elim (cases_lt i 8) [
        | inl first ↦
            let slot : i % 8 ≡ 0 = eqb-true (slot_of i) 0 bar in
            let start : i ≡ 0 = omega (arith, first, slot) in
            let nothing_kept : bar_line_in ex (earlier s i) ≡ no_pitches =
            ap (λ n. bar_line_in ex (earlier s n)) start ∙ ap (bar_line_in ex) (earlier-none s) in
            ap (λ kept. some_arrive ex kept (column i)) nothing_kept
            ∙ none_of_six (λ v w. has_species_voice ex v w && arrive_from no_pitches (column i) v w)
            (never-from_none ex (column i) 0 1 (omega arith)) (never-from_none ex (column i) 0 2 (omega arith))
            (never-from_none ex (column i) 0 3 (omega arith)) (never-from_none ex (column i) 1 2 (omega arith))
            (never-from_none ex (column i) 1 3 (omega arith)) (never-from_none ex (column i) 2 3 (omega arith))
        | inr beyond ↦
            let size : length (earlier s i) ≡ i = length-earlier s i (omega (arith, here)) in
            let test : begins_bar (length (earlier s i)) ≡ true = ap begins_bar size ∙ bar in
            let later : nat_le 8 i ≡ true = grind (arith, nat_tests, beyond) in
            let never = never-from_kept ex few goes i bar later (earlier s i) (column i) in
            ap (λ kept. some_arrive ex kept (column i)) (kept-at_bar ex (earlier s i) test (omega (arith, size, beyond)))
            ∙ none_of_six _
            (never 0 1 (omega arith) (omega arith) (unbroken i here 3 refl))
            (never 0 2 (omega arith) (omega arith) (unbroken i here 5 refl))
            (never 0 3 (omega arith) (omega arith) (unbroken i here 9 refl))
            (never 1 2 (omega arith) (omega arith) (unbroken i here 6 refl))
            (never 1 3 (omega arith) (omega arith) (unbroken i here 10 refl))
            (never 2 3 (omega arith) (omega arith) (unbroken i here 12 refl))
      ]

  pub never_arrives : (i : ℕ) → i < length s → arrives ex i (bar_line_in ex (earlier s i)) (column i) ≡ false
  never_arrives i here = at (begins_bar i) refl
    where
      at : (b : Bool) → begins_bar i ≡ b → (b && some_arrive ex (bar_line_in ex (earlier s i)) (column i)) ≡ false
      at true e = some_none i here e
      at false e = refl
