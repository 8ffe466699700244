-- A cell of a menu keeps within its voice's range and the bar's gamut (`within_range`,
-- `within_gamut`), so a column of one breaks neither S1 nor S2 (`keeps_ranges`, `keeps_gamut`).
use Rattle.std.specs.Prelude.{◌≡◌, ◌≢◌, ℕ, zero, suc, ◌<◌, ◌==◌, Bool, true, false, not, ◌&&◌, nat_lt, List, [], ◌∷◌, ◌++◌, map, Contains, Option, Some, None, ⊤, if◌then◌else◌, refl}
use Rattle.std.proofs.Common.{ap, sym, ◌∙◌, subst, arith, inl, inr}
use Rattle.std.specs.Option.{option_map_or}
use Rattle.std.proofs.lemmas.Bool.{and_parts, ltb-true, true≢false}
use Rattle.std.proofs.lemmas.Bool.Decides.{nat_tests}
use Rattle.std.proofs.lemmas.List.Elements.{Contains-append_cases}
use Rattle.fux_pitch.specs.declared.pitch.Pitch.{Pitch}
use Rattle.fux_pitch.specs.Modes.{is_in_gamut}
use Rattle.fux_grid.specs.declared.cell.Cell.{Cell}
use Rattle.fux_grid.specs.declared.cell.Cell.TheVariants.{Rest, Hold, Start}
use Rattle.fux_grid.specs.declared.exercise.Exercise.{Exercise}
use Rattle.fux_grid.specs.Cells.{cell_in}
use Rattle.fux_grid.specs.Exercises.{bar_of, slot_of, species_in}
use Rattle.fux_grid.specs.Menus.{IsInMenu, cells_at, free_cells, is_between, is_in_range, pool_of, range_of}
use Rattle.fux_grid.specs.Shapes.{allows, shapes_in}
use Rattle.fux_grid.proofs.CellLemmas.{cells_at-given}
use Rattle.fux_grid.proofs.Combinations.{Contains-map_only}
use Rattle.fux_grid.proofs.Pools.{pool_of-contains}
use Rattle.rule_law.specs.Bars.{begins_bar}
use Rattle.rule_law.specs.Nearby.{Pitches, pitch_at}
use Rattle.rule_law.specs.Voices.{holds_of_voice, is_free, on_free_voice, voice_of}
use Rattle.rhythm_cadence.specs.Rows.{holds_of_pitch, is_outside, leaves_gamut, leaves_range, voice_rule}

-- the pitch of a cell, if it has one, is of the pool
abbrev pub IsOfPool : List Pitch → Cell → Type 0
IsOfPool pool Rest = ⊤
IsOfPool pool (Hold p) = Contains pool p
IsOfPool pool (Start p) = Contains pool p

pub chosen : {X : Type 0} (b : Bool) (xs : List X) (x : X) → Contains (if b then xs else []) x → Contains xs x
chosen true xs x h = h
chosen false xs x h = absurd (omega (arith, h.1))

cell_of_pool : (shapes : List (List ℕ)) (slot : ℕ) (pool : List Pitch) (c : Cell)
    → Contains (free_cells shapes slot pool) c → IsOfPool pool c
cell_of_pool shapes slot pool c h =
    let rests : List Cell = if allows shapes slot 82 then Rest ∷ [] else [] in
    let holds : List Cell = if allows shapes slot 72 then map Hold pool else [] in
    let starts : List Cell = if allows shapes slot 83 then map Start pool else [] in
    elim (Contains-append_cases (rests ++ holds) starts c h) [
      | inl early ↦
          elim (Contains-append_cases rests holds c early) [
            | inl rest ↦ of_rest (chosen (allows shapes slot 82) (Rest ∷ []) c rest)
            | inr hold ↦ of_hold (Contains-map_only Hold pool c
                (chosen (allows shapes slot 72) (map Hold pool) c hold))
          ]
      | inr start ↦ of_start (Contains-map_only Start pool c
          (chosen (allows shapes slot 83) (map Start pool) c start))
    ]
  where
    of_rest : Contains (Rest ∷ []) c → IsOfPool pool c
    of_rest (zero, here, e) = subst (λ (d : Cell). IsOfPool pool d) e tt
    of_rest (suc k, here, e) = absurd (omega (arith, here))

    of_hold : (q : Pitch) × Contains pool q × (Hold q ≡ c) → IsOfPool pool c
    of_hold (q, here, e) = subst (λ (d : Cell). IsOfPool pool d) e here

    of_start : (q : Pitch) × Contains pool q × (Start q ≡ c) → IsOfPool pool c
    of_start (q, here, e) = subst (λ (d : Cell). IsOfPool pool d) e here

not_outside : (ends : Option (Pitch × Pitch)) (p : Pitch)
    → option_map_or (λ (e : Pitch × Pitch). is_between e.0 e.1 p) ends false ≡ true → is_outside ends p ≡ false
not_outside None p h = refl
not_outside (Some ends) p h = ap not h

module _ (ex : Exercise) (i v : ℕ) (free : v ≢ ex.cantus_voice) where
  abbrev bar : ℕ
  bar = bar_of i

  pub of_pool : (c : Cell) → Contains (cells_at ex i v) c → IsOfPool (pool_of ex v bar) c
  of_pool c there =
      cell_of_pool (shapes_in (species_in ex v) bar ex.bars) (slot_of i) (pool_of ex v bar) c
      (cells_at-given ex i v c free there).0

  parts : (p : Pitch) → Contains (pool_of ex v bar) p
      → (is_in_gamut ex.mode bar ex.bars p ≡ true) × (is_in_range ex v bar p ≡ true)
  parts p h = and_parts (is_in_gamut ex.mode bar ex.bars p) (is_in_range ex v bar p) ((pool_of-contains ex v bar p).0 h)

  brought : (test : Pitch → Bool) (p : Pitch) (b : Bool) → test p ≡ false
      → holds_of_pitch test (if b then Some p else None) ≡ false
  brought test p true h = h
  brought test p false h = refl

  within_range : (c : Cell) → Contains (cells_at ex i v) c → leaves_range ex v i c ≡ false
  within_range Rest there = refl
  within_range (Hold p) there =
      brought (is_outside (range_of ex v bar)) p (begins_bar i)
      (not_outside (range_of ex v bar) p (parts p (of_pool (Hold p) there)).1)
  within_range (Start p) there = not_outside (range_of ex v bar) p (parts p (of_pool (Start p) there)).1

  within_gamut : (c : Cell) → Contains (cells_at ex i v) c → leaves_gamut ex i c ≡ false
  within_gamut Rest there = refl
  within_gamut (Hold p) there =
      brought (λ q. not (is_in_gamut ex.mode bar ex.bars q)) p (begins_bar i)
      (ap not (parts p (of_pool (Hold p) there)).0)
  within_gamut (Start p) there = ap not (parts p (of_pool (Start p) there)).0

module _ (ex : Exercise) (i : ℕ) (previous : Pitches) (now : List Cell) (menu : IsInMenu ex i now) where
  is_no_cantus : (v : ℕ) → is_free ex v ≡ true → v ≢ ex.cantus_voice
  is_no_cantus v h e =
      let same : (v == ex.cantus_voice) ≡ true = grind (arith, nat_tests, e) in
      let clash : true ≡ false = sym h ∙ ap not same in
      absurd (true≢false clash)

  by_tests : (a b x : Bool) → (a ≡ true → b ≡ true → x ≡ false) → (a && (b && x)) ≡ false
  by_tests true true x h = h refl refl
  by_tests true false x h = refl
  by_tests false b x h = refl

  of_voice : (test : ℕ → Bool) → ((v : ℕ) → v < ex.voices → v ≢ ex.cantus_voice → test v ≡ false) → (o : Option ℕ)
      → holds_of_voice ex (λ v. is_free ex v && test v) o ≡ false
  of_voice test h None = refl
  of_voice test h (Some v) =
      by_tests (nat_lt v ex.voices) (is_free ex v) (test v)
      (λ there free. h v (ltb-true v ex.voices there) (is_no_cantus v free))

  pub keeps_ranges : (voices : ℕ) → on_free_voice ex (λ v. voice_rule 1 ex v i (pitch_at previous v) now) voices ≡ false
  keeps_ranges voices =
      of_voice (λ v. leaves_range ex v i (cell_in now v))
      (λ v there free. within_range ex i v free (cell_in now v) (menu.cells v there)) (voice_of voices)

  pub keeps_gamut : (voices : ℕ) → on_free_voice ex (λ v. voice_rule 2 ex v i (pitch_at previous v) now) voices ≡ false
  keeps_gamut voices =
      of_voice (λ v. leaves_gamut ex i (cell_in now v))
      (λ v there free. within_gamut ex i v free (cell_in now v) (menu.cells v there)) (voice_of voices)
