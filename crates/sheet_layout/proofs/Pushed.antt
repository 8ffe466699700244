-- What is drawn by two steps, one behind the other.
use Rattle.std.proofs.Common.{◌≡◌, List, ◌++◌, ap, ◌∙◌, append_assoc}

-- the second step's shapes stand behind the first one's
pub pushed : {X : Type 0} (first part more : List X) {next last : List X} → next ≡ first ++ part
    → last ≡ next ++ more → last ≡ first ++ (part ++ more)
pushed first part more e f = f ∙ ap (λ t. t ++ more) e ∙ append_assoc first part more
