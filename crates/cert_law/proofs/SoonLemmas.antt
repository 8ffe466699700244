-- The least rule of a prefix with a column more is the least one that the column breaks, where none
-- was broken before (`least_more`).
use Rattle.std.proofs.Common.{◌≡◌, ℕ, ◌==◌, ◌&&◌, ◌||◌, Bool, true, false, List, [], ◌∷◌, ◌++◌, Some, length, refl, ap, ◌∙◌}
use Rattle.std.specs.List.{list_all}
use Rattle.std.specs.Ordering.{is_eq}
use Rattle.cert_law.specs.Claims.{has_break_of}
use Rattle.cert_law.specs.Soon.{has_length}
use Rattle.cert_law.specs.Writer.{columns_order, is_setting_of, least_break}
use Rattle.cert_law.proofs.BreakLemmas.{breaks-push}
use Rattle.cert_text.specs.declared.answers.CertHead.{CertHead}
use Rattle.cert_text.specs.declared.answers.CertHead.TheVariants.{Best, Nothing}
use Rattle.fux_grid.specs.declared.cell.Cell.{Cell}
use Rattle.fux_grid.specs.declared.exercise.Exercise.{Exercise}
use Rattle.fux_judge.specs.Penalties.{newly_broken}
use Rattle.fux_judge.specs.Rules.{is_read, rules_read}
use Rattle.fux_judge.specs.Told.{least_newly_broken}
use Rattle.fux_judge.proofs.ToldLemmas.{find_where}

all_read : list_all is_read rules_read ≡ true
unfolding rules_read
all_read = refl

pub least_more : (ex : Exercise) (p : List (List Cell)) (col : List Cell) (rule : ℕ)
    → ((r : ℕ) → has_break_of ex p r ≡ false) → least_newly_broken ex p col ≡ Some rule
    → least_break ex (p ++ col ∷ []) ≡ Some rule
least_more ex p col rule none least =
    find_where is_read (has_break_of ex (p ++ col ∷ [])) (newly_broken ex p col) rules_read all_read
    (λ r h. breaks-push ex p col r ∙ ap (λ b. b || (is_read r && newly_broken ex p col r)) (none r)
    ∙ ap (λ b. b && newly_broken ex p col r) h)
    ∙ least

pub broken_more : (ex : Exercise) (p : List (List Cell)) (col : List Cell) (rule : ℕ)
    → (is_read rule && newly_broken ex p col rule) ≡ true → has_break_of ex (p ++ col ∷ []) rule ≡ true
broken_more ex p col rule h =
    breaks-push ex p col rule ∙ ap (λ b. has_break_of ex p rule || b) h ∙ either (has_break_of ex p rule)
  where
    either : (b : Bool) → (b || true) ≡ true
    either true = refl
    either false = refl

-- a list that isn't as long as the head's setting isn't that
pub unlike : (head : CertHead) (q : List (List Cell)) (count : ℕ) → length q ≡ count → has_length head count ≡ false
    → is_setting_of head q ≡ false
unlike Nothing q count e h = refl
unlike (Best penalty score) q count e h =
    ap (λ n. (n == length score.columns) && is_eq (columns_order score.columns q)) e
    ∙ ap (λ b. b && is_eq (columns_order score.columns q)) h
