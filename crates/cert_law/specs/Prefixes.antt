-- What is known of a prefix of which a claim is judged.
use Rattle.std.specs.Prelude.{◌≡◌, ℕ, ◌*◌, ◌^◌, ◌≤◌, List, [], ◌∷◌, ◌++◌}
use Rattle.std.specs.declared.cmp.Ordering.{Ordering}
use Rattle.std.specs.declared.cmp.Ordering.TheVariants.{Equal}
use Rattle.cert_text.specs.declared.answers.CertHead.{CertHead}
use Rattle.cert_text.specs.declared.answers.CertHead.TheVariants.{Best, Nothing}
use Rattle.cert_law.specs.Claims.{has_break_of}
use Rattle.cert_law.specs.Writer.{columns_order}
use Rattle.cert_law.specs.Cases.{Matter}
use Rattle.cert_law.specs.declared.judged.Judged.{Judged}
use Rattle.fux_grid.specs.declared.cell.Cell.{Cell}
use Rattle.fux_judge.specs.Gauges.{least_of}
use Rattle.fux_judge.specs.Penalties.{paid}
use Rattle.fux_judge.specs.States.{IsStateOf}
use Rattle.rule_law.specs.Prefixes.{GoesOn, IsPrefix}
use Rattle.rule_law.specs.Voices.{has_rule}

-- how the head's setting goes against a prefix
abbrev pub order_with : CertHead → List (List Cell) → Ordering
order_with Nothing p = Equal
order_with (Best penalty score) p = columns_order score.columns p

-- the rules that are broken in a prefix, what is paid of it, and how the head's setting goes
-- against it
pub record IsJudged (t : Matter) (p : List (List Cell)) (judged : Judged) : Type 0 where
  pub prefix : IsPrefix t.exercise p
  pub state : IsStateOf t.exercise p judged.state
  pub broken : (rule : ℕ) → has_rule judged.broken.bits rule ≡ has_break_of t.exercise p rule
  pub paid : judged.paid ≡ paid t.exercise t.sheet p
  pub least : judged.least ≡ least_of t.exercise t.sheet p
  pub low : judged.least ≤ 334490640
  pub small : judged.paid ≤ judged.state.newest.len * 134217728
  pub order : judged.order ≡ order_with t.head p

-- how the head's setting goes against each prefix of which this is known, with a column more
abbrev pub IsOrderAfter : Matter → Judged → List Cell → Ordering → Type 0
IsOrderAfter t judged col order =
    (p : List (List Cell)) → IsJudged t p judged → order ≡ order_with t.head (p ++ col ∷ [])

-- what is known of each prefix of which this is known, with a column more that may come next
abbrev pub IsJudgedAfter : Matter → Judged → List Cell → Judged → Type 0
IsJudgedAfter t judged col longer =
    (p : List (List Cell)) → IsJudged t p judged → GoesOn t.exercise p (col ∷ []) → IsJudged t (p ++ col ∷ []) longer

-- what is paid, and what the lines cost at least, are small
pub record IsSmall (judged : Judged) : Type 0 where
  pub paid : judged.paid ≤ 2 ^ 40
  pub least : judged.least ≤ 2 ^ 40
