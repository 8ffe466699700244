-- What holds of each rule and toll, whichever crate has it.
use Rattle.std.specs.Prelude.{ℕ}
use Rattle.fux_grid.specs.declared.exercise.Exercise.{Exercise}
use Rattle.rule_law.specs.Places.{IsLocal, SettlesAtEnd}
use Rattle.rule_law.specs.Growth.{Stays, NeedsPlace, stays_from_enough, needs_place}
use Rattle.rule_law.specs.Rulebooks.{KeepsAllLaws, KeepsRuleLaws, KeepsTollLaws, joined_keeps, nothing_keeps, joined, nothing}
use Rattle.melody_rules.specs.Book as melody
use Rattle.motion_rules.specs.Book as motion
use Rattle.dissonance_rules.specs.Book as dissonance
use Rattle.rhythm_cadence.specs.Book as rhythm
use Rattle.doubling_rules.specs.Book as doubling
use Rattle.melody_rules.proofs.BookLaws as melody_laws
use Rattle.motion_rules.proofs.BookLaws as motion_laws
use Rattle.dissonance_rules.proofs.BookLaws as dissonance_laws
use Rattle.rhythm_cadence.proofs.BookLaws as rhythm_laws
use Rattle.doubling_rules.proofs.BookLaws as doubling_laws
use Rattle.fux_judge.specs.Rules.{all_rules, rule_at, toll_at, enough, cost_enough, is_broken, is_settled, cost_at, is_cost_settled}

all_keep : KeepsAllLaws all_rules
all_keep =
    joined_keeps melody.book (joined motion.book
    (joined dissonance.book (joined rhythm.book (joined doubling.book nothing)))) melody_laws.keeps_laws
    (joined_keeps motion.book (joined dissonance.book (joined rhythm.book (joined doubling.book nothing)))
    motion_laws.keeps_laws
    (joined_keeps dissonance.book (joined rhythm.book (joined doubling.book nothing)) dissonance_laws.keeps_laws
    (joined_keeps rhythm.book (joined doubling.book nothing) rhythm_laws.keeps_laws
    (joined_keeps doubling.book nothing doubling_laws.keeps_laws nothing_keeps))))

pub rule_keeps : (rule : ℕ) → KeepsRuleLaws (rule_at rule)
unfolding rule_at
rule_keeps rule = all_keep.rules rule

pub toll_keeps : (toll : ℕ) → KeepsTollLaws (toll_at toll)
unfolding toll_at
toll_keeps toll = all_keep.tolls toll

module _ (rule : ℕ) (ex : Exercise) (voices : ℕ) where
  pub rule_is_local : IsLocal ex (is_broken rule ex voices) (is_settled rule ex voices)
  rule_is_local = (rule_keeps rule).local ex voices

  pub rule_settles_at_end : SettlesAtEnd ex (is_settled rule ex voices)
  rule_settles_at_end = (rule_keeps rule).ends ex voices

  pub rule_stays : Stays (is_settled rule ex voices)
  rule_stays = stays_from_enough (enough rule ex voices) ((rule_keeps rule).stays ex voices)

  pub rule_needs_place : NeedsPlace (is_settled rule ex voices)
  rule_needs_place = needs_place (enough rule ex voices)

module _ (toll : ℕ) (ex : Exercise) where
  pub toll_is_local : IsLocal ex (cost_at toll ex) (is_cost_settled toll ex)
  toll_is_local = (toll_keeps toll).local ex

  pub toll_settles_at_end : SettlesAtEnd ex (is_cost_settled toll ex)
  toll_settles_at_end = (toll_keeps toll).ends ex

  pub toll_stays : Stays (is_cost_settled toll ex)
  toll_stays = stays_from_enough (cost_enough toll ex) ((toll_keeps toll).stays ex)

  pub toll_needs_place : NeedsPlace (is_cost_settled toll ex)
  toll_needs_place = needs_place (cost_enough toll ex)
