-- The certificate that is written: for each prefix the first claim that is true of it.
use Rattle.std.specs.Prelude.{ℕ, Bool, false, ◌&&◌, ◌||◌, ◌==◌, nat_lt, List, [], ◌∷◌, ◌++◌, Option, Some, None, length, if◌then◌else◌, is_none}
use Rattle.std.specs.List.{find, flat_map}
use Rattle.std.specs.Option.{option_map_or}
use Rattle.std.specs.Ordering.{ordering_then, is_lt, is_eq}
use Rattle.std.specs.declared.cmp.Ordering.{Ordering}
use Rattle.std.specs.declared.cmp.Ordering.TheVariants.{Equal}
use Rattle.cert_text.specs.declared.answers.CertHead.{CertHead}
use Rattle.cert_text.specs.declared.answers.CertHead.TheVariants.{Best, Nothing}
use Rattle.cert_text.specs.declared.claim.Claim.{Claim}
use Rattle.cert_text.specs.declared.claim.Claim.TheVariants.{Open, Broken, NoChain, Floor, TheScore}
use Rattle.cert_text.specs.declared.answers.Form.{Form}
use Rattle.cert_text.specs.declared.potential.Potential.{Potential}
use Rattle.cert_text.specs.Lines.{claim_line}
use Rattle.cert_text.specs.Potentials.{last_line, potential_line}
use Rattle.cert_text.specs.SingItems.{best_text, nothing_text}
use Rattle.cert_tree.specs.Trees.{claims_from}
use Rattle.cert_law.specs.Certificates.{tree_of}
use Rattle.cert_law.specs.Claims.{has_break_of}
use Rattle.cert_law.specs.Rests.{stated_in}
use Rattle.cert_law.specs.Tails.{tail_of, used_floor}
use Rattle.fux_grid.specs.declared.cell.Cell.{Cell}
use Rattle.fux_grid.specs.declared.exercise.Exercise.{Exercise}
use Rattle.fux_grid.specs.Exercises.{columns_in}
use Rattle.fux_grid.specs.Order.{column_order}
use Rattle.fux_judge.specs.Rules.{rules_read}
use Rattle.fux_text.specs.ReadBack.{sing_lines}
use Rattle.penalty_sheet.specs.declared.sheet.Sheet.{Sheet}

-- how two lists go by the first column at which they differ; they are equal there where they differ
-- at none that both have
abbrev pub columns_order : List (List Cell) → List (List Cell) → Ordering
columns_order [] t = Equal
columns_order (c ∷ s) [] = Equal
columns_order (c ∷ s) (d ∷ t) = ordering_then (column_order c d) (columns_order s t)

-- whether the prefix is the head's setting
abbrev pub is_setting_of : CertHead → List (List Cell) → Bool
is_setting_of Nothing p = false
is_setting_of (Best penalty score) p = (length p == length score.columns) && is_eq (columns_order score.columns p)

-- whether a floor is no better than the head's setting
abbrev pub is_no_better : CertHead → List (List Cell) → ℕ → Bool
is_no_better Nothing p floor = false
is_no_better (Best penalty score) p floor =
    nat_lt penalty floor || ((floor == penalty) && is_lt (columns_order score.columns p))

-- the least rule of which a strict break is settled in a prefix
abbrev pub least_break : Exercise → List (List Cell) → Option ℕ
least_break ex p = find (has_break_of ex p) rules_read

-- the first claim that is true of a prefix, where entries are stated or none are: it is the head's
-- setting, a rule is broken, no chain goes on, the floor is no better than the head's setting; else
-- it is open
abbrev pub unbroken_claim : Exercise → Sheet → CertHead → Option (List Potential) → List (List Cell) → Claim
unbroken_claim ex sheet head stated p =
    if is_none (tail_of ex sheet stated p) then NoChain
    else (if option_map_or (is_no_better head p) (used_floor ex sheet stated p) false then Floor else Open)

abbrev pub first_claim : Exercise → Sheet → CertHead → Option (List Potential) → List (List Cell) → Claim
first_claim ex sheet head stated p =
    if is_setting_of head p then TheScore
    else option_map_or Broken (least_break ex p) (unbroken_claim ex sheet head stated p)

-- all claims of a certificate
abbrev pub claims_of : Exercise → Sheet → CertHead → List Claim
claims_of ex sheet head = claims_from (tree_of ex sheet head None) (first_claim ex sheet head None) (columns_in ex) []

-- the text of a head
abbrev pub head_text : Exercise → Form → CertHead → List ℕ
head_text ex form Nothing = nothing_text form
head_text ex form (Best penalty score) = best_text form penalty (sing_lines ex score.columns)

-- what stands between a head and its claims: where entries are stated, the line of each of them and
-- the line `claims`
abbrev pub stated_text : Option (List Potential) → List ℕ
stated_text None = []
stated_text (Some entries) = flat_map potential_line entries ++ last_line

-- the text of a certificate: its head's, that of its entries, where some are stated, and the line
-- of each claim
abbrev pub certificate_text : Exercise → Form → CertHead → Option (List Potential) → List Claim → List ℕ
certificate_text ex form head stated claims = head_text ex form head ++ (stated_text stated ++ flat_map claim_line claims)

-- the certificate of a form that is written for a head
abbrev pub written_certificate : Exercise → Sheet → Form → CertHead → List ℕ
written_certificate ex sheet form head = certificate_text ex form head (stated_in form ex sheet) (claims_of ex sheet head)
