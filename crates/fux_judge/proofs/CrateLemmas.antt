-- A number is read as the crate that has it reads it.
use Rattle.std.proofs.Common.{◌≡◌, ℕ, ◌==◌, Bool, true, false, Option, Some, None, refl, ap, sym, ◌∙◌, subst}
use Rattle.std.specs.Prelude.{if◌then◌else◌}
use Rattle.std.proofs.lemmas.Bool.{eqb-true, cond-true}
use Rattle.fux_grid.specs.declared.exercise.Exercise.{Exercise}
use Rattle.rule_law.specs.Rulebooks.{RuleRow, no_rule, no_toll}
use Rattle.melody_rules.specs.Book as melody
use Rattle.motion_rules.specs.Book as motion
use Rattle.dissonance_rules.specs.Book as dissonance
use Rattle.rhythm_cadence.specs.Book as rhythm
use Rattle.doubling_rules.specs.Book as doubling
use Rattle.fux_judge.specs.Crates.{RuleCrate, Melody, Motion, Dissonance, Rhythm, Doubling, crate_with, crate_with_toll, rule_by, toll_by}
use Rattle.fux_judge.specs.Rules.{breaks, is_late, is_of_melody, rule_at, toll_at}

-- the books as one read a number as its crate does
rule_by_crate : (rule : ℕ) → rule_at rule ≡ rule_by (crate_with rule) rule
unfolding rule_at
rule_by_crate rule = at (melody.has_rule rule) (motion.has_rule rule) (dissonance.has_rule rule) (rhythm.has_rule rule)
    (doubling.has_rule rule)
  where
    at : (a b c d e : Bool)
        → (if a then melody.rule_row rule else
        (if b then motion.rule_row rule
        else (if c then dissonance.rule_row rule
        else (if d then rhythm.rule_row rule else (if e then doubling.rule_row rule else no_rule)))))
        ≡ rule_by (if a then Some Melody else
        (if b then Some Motion else (if c then Some Dissonance
        else (if d then Some Rhythm else (if e then Some Doubling else None))))) rule
    at true b c d e = refl
    at false true c d e = refl
    at false false true d e = refl
    at false false false true e = refl
    at false false false false true = refl
    at false false false false false = refl

toll_by_crate : (toll : ℕ) → toll_at toll ≡ toll_by (crate_with_toll toll) toll
unfolding toll_at
toll_by_crate toll = at (melody.has_toll toll) (motion.has_toll toll) (dissonance.has_toll toll) (rhythm.has_toll toll)
    (doubling.has_toll toll)
  where
    at : (a b c d e : Bool)
        → (if a then melody.toll_row toll else
        (if b then motion.toll_row toll
        else (if c then dissonance.toll_row toll
        else (if d then rhythm.toll_row toll else (if e then doubling.toll_row toll else no_toll)))))
        ≡ toll_by (if a then Some Melody else
        (if b then Some Motion else (if c then Some Dissonance
        else (if d then Some Rhythm else (if e then Some Doubling else None))))) toll
    at true b c d e = refl
    at false true c d e = refl
    at false false true d e = refl
    at false false false true e = refl
    at false false false false true = refl
    at false false false false false = refl

module _ (rule : ℕ) (crate : Option RuleCrate) (its : crate_with rule ≡ crate) where
  pub rule_of_crate : rule_at rule ≡ rule_by crate rule
  rule_of_crate = rule_by_crate rule ∙ ap (λ c. rule_by c rule) its

  pub breaks_by_crate : (ex : Exercise) (voices : ℕ) → breaks rule ex voices ≡ (rule_by crate rule).broken ex voices
  breaks_by_crate ex voices = ap (λ (it : RuleRow). it.broken ex voices) rule_of_crate

  -- it is late there, or isn't
  pub late_by_crate : (b : Bool) → is_late rule ≡ b → (rule_by crate rule).late ≡ b
  late_by_crate b h = sym (ap (λ (it : RuleRow). it.late) rule_of_crate) ∙ h

module _ (toll : ℕ) (crate : Option RuleCrate) (its : crate_with_toll toll ≡ crate) where
  pub toll_of_crate : toll_at toll ≡ toll_by crate toll
  toll_of_crate = toll_by_crate toll ∙ ap (λ c. toll_by c toll) its

-- a rule of melody is in the crate of melody
pub in_melody : (rule : ℕ) → is_of_melody rule ≡ true → crate_with rule ≡ Some Melody
in_melody rule h = cond-true (is_of_melody rule) (Some Melody) _ h

-- of a choice between a late row and another, where the row isn't late it is the other
not_late_row : (b : Bool) (late soon : RuleRow) → late.late ≡ true → (if b then late else soon).late ≡ false
    → (if b then late else soon) ≡ soon
not_late_row true late soon l h = let no : true ≡ false = sym l ∙ h in cc
not_late_row false late soon l h = refl

-- the late rows of rhythm are late
rhythm_late : (rule : ℕ) → (rhythm.late_row rule).late ≡ true
rhythm_late rule = at (rule == 3) (rule == 22)
  where
    at : (a b : Bool) → (if a then rhythm.shape_rule else (if b then rhythm.cadence_rule else rhythm.quaver_rule)).late
        ≡ true
    at true b = refl
    at false true = refl
    at false false = refl

-- a rule that isn't late is read by the row of those that are settled at once
module _ (rule : ℕ) (soon : is_late rule ≡ false) where
  pub soon_in_motion : crate_with rule ≡ Some Motion → rule_at rule ≡ motion.at_once_row rule
  soon_in_motion e =
      rule_of_crate rule (Some Motion) e
      ∙ not_late_row (motion.is_late rule) (motion.late_row rule) (motion.at_once_row rule) refl
      (late_by_crate rule (Some Motion) e false soon)

  pub soon_in_dissonance : crate_with rule ≡ Some Dissonance → rule_at rule ≡ dissonance.at_once_row rule
  soon_in_dissonance e =
      rule_of_crate rule (Some Dissonance) e
      ∙ not_late_row (dissonance.is_late rule) (dissonance.late_row rule) (dissonance.at_once_row rule) refl
      (late_by_crate rule (Some Dissonance) e false soon)

  pub soon_in_rhythm : crate_with rule ≡ Some Rhythm → rule_at rule ≡ rhythm.at_once_row rule
  soon_in_rhythm e =
      rule_of_crate rule (Some Rhythm) e
      ∙ not_late_row (rhythm.is_late rule) (rhythm.late_row rule) (rhythm.at_once_row rule) (rhythm_late rule)
      (late_by_crate rule (Some Rhythm) e false soon)

  -- and S3 is late
  pub not_shape : crate_with rule ≡ Some Rhythm → (rule == 3) ≡ false
  not_shape e = at (rule == 3) refl
    where
      at : (t : Bool) → (rule == 3) ≡ t → t ≡ false
      at true k =
          let P : ℕ → Type 0 = λ r. (rhythm.rule_row r).late ≡ true in
          let late : (rhythm.rule_row rule).late ≡ true = subst P (sym (eqb-true rule 3 k)) refl in
          sym late ∙ late_by_crate rule (Some Rhythm) e false soon
      at false k = refl
