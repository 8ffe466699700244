-- The rules and tolls of melody as a crate's book.
use Rattle.std.specs.Prelude.{ℕ, Bool, ◌==◌, ◌||◌, false, if◌then◌else◌, List, []}
use Rattle.rule_law.specs.declared.table.Form.TheVariants.{OneVoice}
use Rattle.rule_law.specs.declared.table.Kind.TheVariants.{Pair, Window}
use Rattle.rule_law.specs.declared.table.Stands.TheVariants.{Anywhere}
use Rattle.rule_law.specs.Rulebooks.{RuleRow, Rulebook, TollRow}
use Rattle.melody_rules.specs.Rows.{broken_in, cost_enough, cost_in, enough_after, looks_back}

abbrev pub has_rule : ℕ → Bool
has_rule n = (n == 4) || (n == 5) || (n == 6) || (n == 7) || (n == 8) || (n == 9) || (n == 26)

abbrev pub has_toll : ℕ → Bool
has_toll n = (n == 7) || (n == 8) || (n == 9) || (n == 10) || (n == 13)

abbrev pub rule_row : ℕ → RuleRow
rule_row n = record {
  form = OneVoice;
  kind = if looks_back n then Window else Pair;
  stands = Anywhere;
  late = false;
  broken = broken_in n;
  enough = enough_after n;
  first = λ ex i. i;
  count = λ ex i. 1;
}

abbrev pub toll_row : ℕ → TollRow
toll_row n = record {
  kind = if n == 13 then Window else Pair;
  late = false;
  cost = cost_in n;
  enough = cost_enough n;
  first = λ ex i. i;
  count = λ ex i. 1;
}

-- no rule of melody is late
abbrev pub late_rules : List ℕ
late_rules = []

abbrev pub book : Rulebook
book = record {
  has_rule = has_rule;
  rule = rule_row;
  late_rules = late_rules;
  has_toll = has_toll;
  toll = toll_row;
}
