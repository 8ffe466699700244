-- Which crate has a rule or a toll, and how it is read there.
use Rattle.std.specs.Prelude.{ℕ, Option, Some, None, if◌then◌else◌}
use Rattle.rule_law.specs.Rulebooks.{RuleRow, Rulebook, TollRow, no_rule, no_toll}
use Rattle.melody_rules.specs.Book as melody
use Rattle.motion_rules.specs.Book as motion
use Rattle.dissonance_rules.specs.Book as dissonance
use Rattle.rhythm_cadence.specs.Book as rhythm
use Rattle.doubling_rules.specs.Book as doubling

-- the crates of rules
pub data RuleCrate : Type 0 where
  Melody : RuleCrate
  Motion : RuleCrate
  Dissonance : RuleCrate
  Rhythm : RuleCrate
  Doubling : RuleCrate

-- the book of a crate
abbrev pub book_of : RuleCrate → Rulebook
book_of Melody = melody.book
book_of Motion = motion.book
book_of Dissonance = dissonance.book
book_of Rhythm = rhythm.book
book_of Doubling = doubling.book

-- the crate that has a rule; none has a number that is in no book
abbrev pub crate_with : ℕ → Option RuleCrate
crate_with rule =
    if melody.has_rule rule then Some Melody
    else (if motion.has_rule rule then Some Motion
    else (if dissonance.has_rule rule then Some Dissonance
    else (if rhythm.has_rule rule then Some Rhythm
    else (if doubling.has_rule rule then Some Doubling
    else None))))

-- the crate that has a toll
abbrev pub crate_with_toll : ℕ → Option RuleCrate
crate_with_toll toll =
    if melody.has_toll toll then Some Melody
    else (if motion.has_toll toll then Some Motion
    else (if dissonance.has_toll toll then Some Dissonance
    else (if rhythm.has_toll toll then Some Rhythm
    else (if doubling.has_toll toll then Some Doubling
    else None))))

-- a rule, or a toll, as that crate reads it
abbrev pub rule_by : Option RuleCrate → ℕ → RuleRow
rule_by None rule = no_rule
rule_by (Some crate) rule = (book_of crate).rule rule

abbrev pub toll_by : Option RuleCrate → ℕ → TollRow
toll_by None toll = no_toll
toll_by (Some crate) toll = (book_of crate).toll toll
