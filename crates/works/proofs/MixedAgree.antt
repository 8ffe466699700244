-- `mixed` makes the same of the same files by sharper floors and without them, where neither is spent
-- (`mixed_best_is_mixed`), and by sharper floors with no lower budget it is spent only where it is
-- without them (`mixed_best_ends_as_mixed`).
use Rattle.std.proofs.Common.{◌≡◌, ◌≢◌, ℕ, ◌<◌, ◌≤◌, ◌++◌, ◌⊎◌, inl, inr, List, Option, Ok, Err, refl, sym, ap, ap₂, subst, ◌∙◌, arith}
use Rattle.std.proofs.lemmas.Bool.{cases_lt}
use Rattle.fux_grid.specs.declared.exercise.Exercise.{Exercise}
use Rattle.fux_grid.specs.Exercises.{as_mixed}
use Rattle.fux_judge.specs.Penalties.{penalty_of}
use Rattle.fux_text.specs.Lines.{setting_text}
use Rattle.penalty_sheet.specs.declared.sheet.Sheet.{Sheet}
use Rattle.species_space.specs.MixedLoads.{IsBestWithin}
use Rattle.species_space.specs.Naming.{IsFirstMisnamed, all_species_with}
use Rattle.species_space.specs.Trees.{mixed_settings}
use Rattle.tree_search.specs.Quests.{HasAtMost, IsLiveBegun, IsLoaded}
use Rattle.works.specs.declared.refusal.Refusal.{Refusal}
use Rattle.works.specs.declared.refusal.Refusal.TheVariants as refusal
use Rattle.works.specs.declared.work.Output.{Output}
use Rattle.works.specs.declared.work.Verdict.{Verdict}
use Rattle.works.specs.declared.work.Verdict.TheVariants.{Favorable, Unfavorable, Spent}
use Rattle.works.specs.Composed.{TellsBest, penalty_line}
use Rattle.works.specs.Mixed.{ComposesMixed, ComposesMixedSharply, OnNames, RefusesNaming, TellsMixed, TellsMixedSharply}
use Rattle.works.specs.Searched.{IsBestOf}
use Rattle.works.specs.Sheets.{OnSheet}
use Rattle.works.specs.Texts.{OnText, Work}
use Rattle.works.specs.Works.{IsUnspent, MixedBestEndsAsMixed, MixedBestIsMixed}
use Rattle.works.proofs.AgreeLemmas.{best_is_one, few_or_many, not_wide, same_on, same_over, same_width, width_of}
use Rattle.works.proofs.MixedBest.{best_alike}

-- ---- what the texts tell

module _ (ex mixed : Exercise) (sheet : Sheet) (budget other : ℕ) where
  same_best : (one two : List ℕ) → TellsBest ex (IsBestWithin mixed sheet budget) one → TellsBest ex (IsBestOf mixed sheet) two
      → one ≡ two
  same_best one two told its =
      let same : told.setting ≡ its.setting = best_is_one mixed sheet told.setting its.setting
      (best_alike mixed sheet told.setting told.best.best) its.best.best in
      let level : told.penalty ≡ its.penalty = told.best.charged ∙ ap (penalty_of mixed sheet) same
      ∙ sym its.best.charged in
      told.spelled ∙ ap₂ (λ s penalty. setting_text ex s ++ penalty_line penalty) same level ∙ sym its.spelled

  same_told : (v w : Verdict) (one two : List ℕ) → TellsMixed ex mixed sheet budget v one
      → TellsMixedSharply ex mixed sheet other w two → v ≢ Spent → w ≢ Spent → (v ≡ w) × (one ≡ two)
  same_told Favorable Favorable one two told its unspent too = (refl, same_best one two told its)
  same_told Favorable Unfavorable one two told its unspent too = absurd (its.none told.setting told.best.best.lawful)
  same_told Unfavorable Favorable one two told its unspent too =
      absurd (told.none.none its.setting its.best.best.lawful)
  same_told Unfavorable Unfavorable one two told its unspent too = (refl, told.spelled ∙ sym its.spelled)
  same_told Spent w one two told its unspent too = absurd (unspent refl)
  same_told v Spent one two told its unspent too = absurd (too refl)

  -- where no bound is told without sharper floors, by them with no lower budget none is told
  ends_told : (v w : Verdict) (one two : List ℕ) → budget ≤ other → TellsMixed ex mixed sheet budget v one
      → TellsMixedSharply ex mixed sheet other w two → v ≢ Spent → w ≢ Spent
  ends_told v Favorable one two within told its unspent = λ same. cc
  ends_told v Unfavorable one two within told its unspent = λ same. cc
  ends_told Favorable Spent one two within told its unspent = λ same.
      few_or_many (IsLoaded (mixed_settings mixed sheet) (penalty_of mixed sheet told.setting)) budget other within
      (subst (λ (penalty : ℕ). HasAtMost (IsLoaded (mixed_settings mixed sheet) penalty) budget) told.best.charged
      told.best.load)
      (its.is_bound.over.load told.setting told.best.best)
  ends_told Unfavorable Spent one two within told its unspent = λ same.
      few_or_many (IsLiveBegun (mixed_settings mixed sheet)) budget other within told.none.load
      (its.is_bound.over.whole told.none.none)
  ends_told Spent Spent one two within told its unspent = absurd (unspent refl)

  -- ---- work

  ends_made : (one two : Work) → budget ≤ other → ComposesMixed budget sheet ex mixed one
      → ComposesMixedSharply other sheet ex mixed two → IsUnspent one → IsUnspent two
  ends_made (Ok output) (Ok its) within told sharp unspent =
      ends_told output.verdict its.verdict output.bytes its.bytes within told.tells sharp.tells unspent
  ends_made (Err said) (Ok its) within told sharp unspent =
      let wide = width_of mixed said told in absurd (not_wide mixed wide.0 wide.1 sharp.narrow wide.3)
  ends_made one (Err said) within told sharp unspent = tt

  same_made : (one two : Work) → ComposesMixed budget sheet ex mixed one → ComposesMixedSharply other sheet ex mixed two
      → IsUnspent one → IsUnspent two → one ≡ two
  same_made (Ok output) (Ok its) told sharp unspent too =
      let same = same_told output.verdict its.verdict output.bytes its.bytes told.tells sharp.tells unspent too in
      ap Ok (one_output same.0 same.1)
    where
      one_output : output.verdict ≡ its.verdict → output.bytes ≡ its.bytes → output ≡ its
      one_output verdict bytes =
          let made : Verdict → List ℕ → Output = λ v text. record { verdict = v; bytes = text } in
          ap₂ made verdict bytes
  same_made (Ok output) (Err said) told sharp unspent too =
      let wide = width_of mixed said sharp in absurd (not_wide mixed wide.0 wide.1 told.narrow wide.3)
  same_made (Err said) (Ok its) told sharp unspent too =
      let wide = width_of mixed said told in absurd (not_wide mixed wide.0 wide.1 sharp.narrow wide.3)
  same_made (Err said) (Err its) told sharp unspent too =
      let wide = width_of mixed said told in
      let too_wide = width_of mixed its sharp in
      ap Err (wide.2 ∙ same_width mixed wide.0 too_wide.0 wide.1 too_wide.1 wide.3 too_wide.3 ∙ sym too_wide.2)

-- ---- names that are refused

abbrev NamingOf : Exercise → List (Option ℕ) → Refusal → Type 0
NamingOf ex named said = (voice : ℕ) × (said ≡ refusal.With voice) × IsFirstMisnamed ex named voice

naming_of : (ex : Exercise) (named : List (Option ℕ)) (said : Refusal) → RefusesNaming ex named said
    → NamingOf ex named said
naming_of ex named (refusal.With voice) h = (voice, refl, h)
naming_of ex named (refusal.TooWide place count) h = absurd h
naming_of ex named (refusal.Text kind line column) h = absurd h
naming_of ex named refusal.NoSetting h = absurd h
naming_of ex named (refusal.Lesson kind line column) h = absurd h
naming_of ex named (refusal.List line) h = absurd h
naming_of ex named (refusal.Canon line) h = absurd h
naming_of ex named refusal.LongCertificate h = absurd h
naming_of ex named refusal.LargeGraph h = absurd h
naming_of ex named (refusal.Sheet fault) h = absurd h
naming_of ex named (refusal.Midi fault) h = absurd h
naming_of ex named (refusal.Join fault) h = absurd h

-- one voice is the lowest
one_voice : (ex : Exercise) (named : List (Option ℕ)) (v w : ℕ) → IsFirstMisnamed ex named v
    → IsFirstMisnamed ex named w → v ≡ w
one_voice ex named v w one its = decide (cases_lt v w) (cases_lt w v)
  where
    decide : (v < w) ⊎ (w ≤ v) → (w < v) ⊎ (v ≤ w) → v ≡ w
    decide (inl lower) rest = absurd (its.first v lower one.misnamed)
    decide (inr more) (inl lower) = absurd (one.first w lower its.misnamed)
    decide (inr more) (inr less) = omega (arith, more, less)

module _ (Made Made' : Exercise → Work → Type 0) (named : List (Option ℕ)) (ex : Exercise) (one two : Work)
    (so : (mixed : Exercise) → Made mixed one → Made' mixed two → one ≡ two) where
  same_names : OnNames Made named ex one → OnNames Made' named ex two → one ≡ two
  same_names (inl made) (inl its) = so (as_mixed ex (all_species_with ex named)) made.made its.made
  same_names (inl made) (inr its) =
      let naming = naming_of ex named its.refusal its.cause in absurd (made.free naming.0 naming.2.misnamed)
  same_names (inr made) (inl its) =
      let naming = naming_of ex named made.refusal made.cause in absurd (its.free naming.0 naming.2.misnamed)
  same_names (inr made) (inr its) =
      let naming = naming_of ex named made.refusal made.cause in
      let other = naming_of ex named its.refusal its.cause in
      made.is
      ∙ ap Err (naming.1 ∙ ap (λ v. refusal.With v) (one_voice ex named naming.0 other.0 naming.2 other.2) ∙ sym other.1)
      ∙ sym its.is

-- ---- the laws

module _ (named : List (Option ℕ)) (budget other : ℕ) (sheets : List (List ℕ)) (text : List ℕ) (composed best : Work)
    (so : (sheet : Sheet) (ex mixed : Exercise) → ComposesMixed budget sheet ex mixed composed
    → ComposesMixedSharply other sheet ex mixed best → composed ≡ best) where
  abbrev Plainly : Exercise → Exercise → Work → Type 0
  Plainly ex mixed = OnSheet (λ sheet. ComposesMixed budget sheet ex mixed) sheets

  abbrev Sharply : Exercise → Exercise → Work → Type 0
  Sharply ex mixed = OnSheet (λ sheet. ComposesMixedSharply other sheet ex mixed) sheets

  of_names : (ex : Exercise) → OnNames (Plainly ex) named ex composed → OnNames (Sharply ex) named ex best
      → composed ≡ best
  of_names ex =
      same_names (Plainly ex) (Sharply ex) named ex composed best
      (λ mixed. same_over (λ sheet. ComposesMixed budget sheet ex mixed) (λ sheet. ComposesMixedSharply other sheet ex mixed)
      sheets composed best (λ sheet. so sheet ex mixed))

  over_text : OnText (λ ex. OnNames (Plainly ex) named ex) text composed
      → OnText (λ ex. OnNames (Sharply ex) named ex) text best → composed ≡ best
  over_text =
      same_on (λ ex. OnNames (Plainly ex) named ex) (λ ex. OnNames (Sharply ex) named ex) text composed best of_names

pub mixed_best_is_mixed : MixedBestIsMixed
mixed_best_is_mixed named budget other sheets text composed best made its unspent too =
    over_text named budget other sheets text composed best
    (λ sheet ex mixed one two. same_made ex mixed sheet budget other composed best one two unspent too) made its

pub mixed_best_ends_as_mixed : MixedBestEndsAsMixed
mixed_best_ends_as_mixed named budget other sheets text composed best within made its unspent =
    over_text named budget other sheets text composed best
    (λ sheet ex mixed one two.
    same_made ex mixed sheet budget other composed best one two unspent
    (ends_made ex mixed sheet budget other composed best within one two unspent)) made its
