-- What words ask for among which `--files` stands (`asked_files`).
use Rattle.std.proofs.Common.{◌≡◌, ℕ, ◌+◌, List, ◌∷◌, Some, drop, take, refl, subst}
use Rattle.std.specs.Prelude.{String, string_bytes}
use Rattle.command_words.specs.Commands.{asked, asked_at, asked_on, files_at, texts}

pub asked_files : {Y : Type 0} (words rest before names : List (String Y)) (word : String Y) (name : List ℕ) (place : ℕ)
    → words ≡ word ∷ rest → name ≡ string_bytes word → Some place ≡ files_at name (texts rest)
    → texts before ≡ take place (texts rest) → texts names ≡ drop (place + 1) (texts rest)
    → asked_on (texts before) (texts names) ≡ asked (texts words)
asked_files words rest before names word name place is named here front behind =
    rw (is, front, behind, ← named)
    (subst (λ found. asked_on (take place (texts rest)) (drop (place + 1) (texts rest)) ≡ asked_at name (texts rest) found)
    here refl)
