-- What is written is a text and the lines of the claims from the root on (`whole_text`), so its
-- length is what both have together (`whole_within`, `whole_too_long`).
use Rattle.std.proofs.Common.{◌≡◌, ◌⊎◌, inl, inr, ℕ, ◌+◌, ◌<◌, ◌≤◌, Bool, true, false, List, ◌++◌, IsTrue, length, ap, sym, ◌∙◌, arith, length-append, true≢false}
use Rattle.std.specs.Prelude.{◌↔◌}
use Rattle.std.proofs.lemmas.Bool.{cases_lt}
use Rattle.cert_text.specs.declared.claim.Claim.{Claim}
use Rattle.cert_tree.specs.Trees.{Tree, claims_from}
use Rattle.cert_tree.specs.Walks.{Ways}
use Rattle.cert_tree.specs.Writing.{claims_to_come}
use Rattle.cert_tree.specs.declared.walk.Walk.{Walk}
use Rattle.cert_file.specs.Writing.{claim_lines, lines_left, text_with}

module _ {X K : Type 0} (tree : Tree X Claim) (ways : Ways X) (own : X → Claim) (root : X) (text : List ℕ) (walk : Walk K)
    (begins : claims_to_come tree own ways walk ≡ claims_from tree own ways.height root) where
  pub whole_text : text ++ lines_left tree ways own walk ≡ text_with tree ways own root text
  whole_text = ap (λ claims. text ++ claim_lines claims) begins

  whole_length : length text + length (lines_left tree ways own walk) ≡ length (text_with tree ways own root text)
  whole_length = sym (length-append text (lines_left tree ways own walk)) ∙ ap length whole_text

  pub whole_within : (b : Bool) → IsTrue b
      ↔ (length text + length (lines_left tree ways own walk) ≤ 1073741824) → b ≡ true
      → length (text_with tree ways own root text) ≤ 1073741824
  whole_within b fits h =
      let total : length text + length (lines_left tree ways own walk) ≤ 1073741824 = fits.0 h in
      omega (arith, whole_length, total)

  pub whole_too_long : (b : Bool) → IsTrue b
      ↔ (length text + length (lines_left tree ways own walk) ≤ 1073741824) → b ≡ false
      → 1073741824 < length (text_with tree ways own root text)
  whole_too_long b fits h = at (cases_lt 1073741824 (length text + length (lines_left tree ways own walk)))
    where
      at : (1073741824 < length text + length (lines_left tree ways own walk))
          ⊎ (length text + length (lines_left tree ways own walk) ≤ 1073741824)
          → 1073741824 < length (text_with tree ways own root text)
      at (inl more) = omega (arith, whole_length, more)
      at (inr few) = absurd (true≢false (sym (fits.1 few) ∙ h))
