-- Each part of the open ends goes on through a lawful setting (`passing-followed` and so on), and
-- so do all of them (`leads_on`).
use Rattle.std.specs.Prelude.{◌≡◌, ◌≤◌, ◌<◌, ℕ, ◌+◌, ◌*◌, ◌&&◌, ◌||◌, Bool, true, false, List, [], ◌∷◌, ◌++◌, Option, Some, None, IsSomeAnd, length, slice_index_or, refl}
use Rattle.std.specs.Option.{option_map}
use Rattle.std.proofs.Common.{ap, ap₂, arith}
use Rattle.std.proofs.Math.Nat.{mul-le-mul_right}
use Rattle.std.proofs.lemmas.Bool.{and_parts}
use Rattle.fux_grid.specs.declared.cell.Cell.{Cell}
use Rattle.fux_grid.specs.declared.exercise.Exercise.{Exercise}
use Rattle.fux_grid.specs.Cells.{cell_in}
use Rattle.fux_grid.specs.Columns.{Columns, earlier, newest_column}
use Rattle.fux_grid.specs.Exercises.{IsValid, species_in}
use Rattle.dissonance_rules.specs.Clashes.{resolution_rule}
use Rattle.penalty_sheet.specs.declared.sheet.Sheet.{Sheet}
use Rattle.penalty_sheet.specs.Weights.{weight_of}
use Rattle.fux_judge.specs.Lawful.{IsLawful}
use Rattle.fux_judge.specs.Penalties.{newly_paid}
use Rattle.fux_judge.specs.Rules.{cost_at}
use Rattle.open_ends.specs.declared.cadences.OpenCadences.{OpenCadences}
use Rattle.open_ends.specs.declared.keeps.Keeps.{Keeps}
use Rattle.open_ends.specs.declared.ligatures.OpenLigature.{OpenLigature}
use Rattle.open_ends.specs.declared.parallels.OpenParallels.{OpenParallels}
use Rattle.open_ends.specs.declared.passing.OpenPassing.{OpenPassing}
use Rattle.open_ends.specs.declared.suspensions.OpenSuspensions.{OpenSuspensions}
use Rattle.open_ends.specs.Asked.{is_asked}
use Rattle.open_ends.specs.BarLines.{arrives, bar_line_in}
use Rattle.open_ends.specs.BarLines as lines
use Rattle.open_ends.specs.Cadences as cadences
use Rattle.open_ends.specs.Ends.{LeadsOn, LeadsThrough, ends_in, nothing, rules_after, rules_in}
use Rattle.open_ends.specs.Leads.{lacks_all, leads_in}
use Rattle.open_ends.specs.Leads as leads
use Rattle.open_ends.specs.Ligatures.{is_unresolved, ligature_in}
use Rattle.open_ends.specs.Ligatures as ligatures
use Rattle.open_ends.specs.Notes as notes
use Rattle.open_ends.specs.Notes.{noted, noted_in, turns_badly, turns_rule}
use Rattle.open_ends.specs.Parallels as parallels
use Rattle.open_ends.specs.Parts.{FollowsLawful, HasVoices, both_after}
use Rattle.open_ends.specs.Passing.{breaks_passing, passing_in}
use Rattle.open_ends.specs.Passing as passing
use Rattle.open_ends.specs.Runs.{run_toll, runs_ended, runs_paid}
use Rattle.open_ends.specs.Runs as runs
use Rattle.open_ends.specs.Suspended.{has_ligatures, is_bad_at, is_unprepared_at, preparation_rule, size_rule, starts_late_after, starts_late_in}
use Rattle.open_ends.specs.Suspended as suspended
use Rattle.open_ends.specs.Suspensions.{breaks_preparation, breaks_size}
use Rattle.open_ends.specs.Suspensions as suspensions
use Rattle.open_ends.specs.Turns as turns
use Rattle.open_ends.proofs.BarLineLaw.{never_arrives}
use Rattle.open_ends.proofs.Followed.{both-followed, followed, voices_of_valid}
use Rattle.open_ends.proofs.KeepsShapes.{shapes-followed}
use Rattle.open_ends.proofs.LeadLaw.{never_lacks}
use Rattle.open_ends.proofs.LigatureLaw.{resolved}
use Rattle.open_ends.proofs.PassingLaw.{left_well, reached_well}
use Rattle.open_ends.proofs.Settles.{here, settles}
use Rattle.open_ends.proofs.SomeRuns.{some-none, some_ended, some_follow}
use Rattle.open_ends.proofs.SuspensionLaw.{prepared, well_sized}
use Rattle.open_ends.proofs.TurnLaw.{never_turns_badly}

module _ (ex : Exercise) (keeps : Keeps) (voices : HasVoices ex) where
  abbrev v : ℕ
  v = ex.species_voice

  pub passing-followed : FollowsLawful ex passing.nothing (passing.open_in ex keeps) (passing.open_after ex keeps)
  passing-followed =
      let Kept : List (List Cell) → OpenPassing = λ behind. record { origin = passing_in behind v } in
      followed ex passing.nothing (passing.is_read ex) Kept (passing.still_open ex) (breaks_passing ex) refl
      (λ col behind. refl)
      (λ read s lawful i here. neither (left_well ex voices s lawful read i here)
      (reached_well ex voices s lawful read i here))
    where
      neither : {a b : Bool} → a ≡ false → b ≡ false → (a || b) ≡ false
      neither h k = rw (h, k) refl

  pub ligature-followed : FollowsLawful ex ligatures.nothing (ligatures.open_in ex keeps) (ligatures.open_after ex keeps)
  ligature-followed =
      let Kept : List (List Cell) → OpenLigature = λ behind. record { pitch = ligature_in behind v } in
      followed ex ligatures.nothing (is_asked ex resolution_rule) Kept
      (λ i waiting before now. ligatures.still_open ex i waiting now)
      (λ i waiting before now. is_unresolved i waiting.pitch now v) refl (λ col behind. refl)
      (λ asked s lawful i here. resolved ex voices s lawful asked i here)

  pub parallels-followed : FollowsLawful ex parallels.nothing (parallels.open_in ex keeps) (parallels.open_after ex keeps)
  parallels-followed =
      let Kept : List (List Cell) → OpenParallels = λ behind. record { pitches = bar_line_in ex behind } in
      followed ex parallels.nothing (parallels.is_followed ex keeps) Kept
      (λ i kept before now. parallels.still_open ex i kept now) (λ i kept before now. arrives ex i kept.pitches now) refl
      (λ col behind. refl)
      (λ read s lawful i here. never_arrives ex voices s lawful (and_parts keeps.parallels (lines.is_read ex) read).1 i
      here)

  pub cadences-followed : FollowsLawful ex cadences.nothing (cadences.open_in ex keeps) (cadences.open_after ex keeps)
  cadences-followed =
      let Kept : List (List Cell) → OpenCadences = λ behind. record { leads = leads_in ex behind } in
      followed ex cadences.nothing (leads.is_read ex) Kept (λ i kept before now. cadences.still_open ex i kept now)
      (λ i kept before now. lacks_all ex i kept.leads now) refl (λ col behind. refl)
      (λ read s lawful i here. never_lacks ex voices s lawful read i here)

  pub turns-followed : FollowsLawful ex notes.none (turns.open_in ex keeps) (turns.open_after ex keeps)
  turns-followed =
      followed ex notes.none (turns.is_read ex keeps) (noted_in ex)
      (λ i kept before now. noted ex i kept (cell_in now v)) (λ i kept before now. turns_badly kept (cell_in now v)) refl
      (λ col behind. refl)
      (λ read s lawful i here. never_turns_badly ex voices s lawful
      (and_parts keeps.turns (is_asked ex turns_rule) read).1 i here)

  -- of suspensions two rules decide, each where it is asked
  abbrev late : Bool → OpenSuspensions
  late started = record { late_start = started }

  late-grows : (read : Bool) (on : Bool → Bool) (now : Bool) → late (read && on now) ≡ late (read && on (read && now))
  late-grows true on now = refl
  late-grows false on now = refl

  late-none : (read : Bool) → late (read && false) ≡ suspensions.nothing
  late-none true = refl
  late-none false = refl

  module _ (s : Columns) (lawful : IsLawful ex s) (i : ℕ) (here : i < length s) where
    abbrev behind : List (List Cell)
    behind = earlier s i

    abbrev now : List Cell
    now = slice_index_or s i []

    prepares : (a b : Bool) → is_asked ex preparation_rule ≡ a
        → ((a && b) && is_unprepared_at i ((a && b) && starts_late_in behind v) (newest_column behind) now v) ≡ false
    prepares false b e = refl
    prepares true false e = refl
    prepares true true e = prepared ex voices s lawful i here e

    fits : (b : Bool) → is_asked ex size_rule ≡ b → (b && is_bad_at i now v) ≡ false
    fits false e = refl
    fits true e = well_sized ex voices s lawful i here e

    neither : (breaks_preparation ex i (late (suspended.is_read ex && starts_late_in behind v)) (newest_column behind) now
        || breaks_size ex i now) ≡ false
    neither = ap₂ (λ a b. a || b) (prepares (is_asked ex preparation_rule) (has_ligatures (species_in ex v)) refl)
        (fits (is_asked ex size_rule) refl)

  pub suspensions-followed : FollowsLawful ex suspensions.nothing (suspensions.open_in ex keeps)
      (suspensions.open_after ex keeps)
  suspensions-followed =
      followed ex suspensions.nothing true (λ behind. late (suspended.is_read ex && starts_late_in behind v))
      (λ i kept before now. suspensions.still_open ex i kept now)
      (λ i kept before now. breaks_preparation ex i kept before now || breaks_size ex i now)
      (late-none (suspended.is_read ex))
      (λ col behind. late-grows (suspended.is_read ex) (λ started. starts_late_after (length behind) started col v)
      (starts_late_in behind v))
      (λ read. neither)

  pub runs-followed : FollowsLawful ex runs.nothing (runs.open_in ex keeps) (runs.open_after ex keeps)
  runs-followed = record {
    first = some-none ex keeps.runs;
    next = λ p col more lawful. ap Some (some_follow ex keeps.runs p col (here ex voices.most_voices p col more lawful));
  }

  -- ---- all of them

  rules-followed : FollowsLawful ex nothing.first (rules_in ex keeps) (rules_after ex keeps)
  rules-followed =
      both-followed ex _ _ _ _ _ _ passing-followed (both-followed ex _ _ _ _ _ _ ligature-followed
      (both-followed ex _ _ _ _ _ _ (shapes-followed ex keeps voices) (both-followed ex _ _ _ _ _ _ parallels-followed
      (both-followed ex _ _ _ _ _ _ suspensions-followed (both-followed ex _ _ _ _ _ _ cadences-followed turns-followed)))))

  pub ends-followed : FollowsLawful ex nothing (ends_in ex keeps)
      (λ i kept before now. both_after rules_after runs.open_after ex keeps i kept before now)
  ends-followed = both-followed ex _ _ _ _ _ _ rules-followed runs-followed

module _ (ex : Exercise) (sheet : Sheet) (keeps : Keeps) (voices : HasVoices ex) (there : ex.cantus_voice < ex.voices)
    (p : Columns) (col : List Cell) (more : Columns) (lawful : IsLawful ex (p ++ col ∷ more)) where
  abbrev paid : ℕ
  paid = runs_paid sheet (length p) (ends_in ex keeps p).second col

  pub leads_on : LeadsOn ex sheet keeps p col
  leads_on = record {
    cost = paid;
    is = ap (option_map (λ ends. (ends, paid))) ((ends-followed ex keeps voices).next p col more lawful);
    settles = no_less _ (settles ex voices.most_voices p col more lawful there sheet);
  }
    where
      ended : runs_ended (length p) (runs.open_in ex keeps p) col ≤ cost_at run_toll ex (p ++ col ∷ []) (length p)
      ended = some_ended ex keeps.runs p col (here ex voices.most_voices p col more lawful)

      within : (own cost full most : ℕ) → own + full ≤ most → cost ≤ full → own + cost ≤ most
      within own cost full most h k = omega (arith, h, k)

      no_less : (link : Option ℕ)
          → IsSomeAnd link (λ own. own + cost_at run_toll ex (p ++ col ∷ []) (length p) * weight_of sheet run_toll
          ≤ newly_paid ex sheet p col)
          → IsSomeAnd link (λ own. own + paid ≤ newly_paid ex sheet p col)
      no_less None some = some
      no_less (Some own) some =
          within own paid (cost_at run_toll ex (p ++ col ∷ []) (length p) * weight_of sheet run_toll)
          (newly_paid ex sheet p col) some (mul-le-mul_right (weight_of sheet run_toll) ended)

pub ends-none : (ex : Exercise) (keeps : Keeps) (voices : HasVoices ex) → ends_in ex keeps [] ≡ nothing
ends-none ex keeps voices = (ends-followed ex keeps voices).first

-- the same of each exercise that is valid
pub leads_through : (ex : Exercise) (sheet : Sheet) (keeps : Keeps) → IsValid ex → LeadsThrough ex sheet keeps
leads_through ex sheet keeps valid = record {
  first = ends-none ex keeps (voices_of_valid ex valid);
  next = λ p col more lawful. leads_on ex sheet keeps (voices_of_valid ex valid) valid.cantus_there p col more lawful;
}
