-- What is written by two steps, one behind the other.
use Rattle.std.proofs.Common.{◌≡◌, ℕ, List, ◌++◌, ap, ◌∙◌, append_assoc}

-- the second step's text stands behind the first one's
pub pushed : (first part more : List ℕ) {next last : List ℕ} → next ≡ first ++ part
    → last ≡ next ++ more → last ≡ first ++ (part ++ more)
pushed first part more e f = f ∙ ap (λ t. t ++ more) e ∙ append_assoc first part more

-- a text is written that is another one's value
pub said : (next : List ℕ) {more last told : List ℕ} → last ≡ next ++ more → more ≡ told
    → last ≡ next ++ told
said next e same = e ∙ ap (λ t. next ++ t) same
