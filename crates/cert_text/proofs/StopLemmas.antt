-- What a byte at which reading stops makes of the line.
use Rattle.std.proofs.Common.{◌≡◌, ℕ, ◌+◌, ◌<◌, Bool, true, false, List, [], ◌∷◌, ◌++◌, ◌==◌, length, take, drop, get_or, refl, sym, ap, ◌∙◌, subst, append_assoc, arith}
use Rattle.std.specs.Prelude.{if◌then◌else◌}
use Rattle.std.proofs.lemmas.List.{drop_more, take_more}
use Rattle.cert_text.specs.declared.begun.Begun.{Begun}
use Rattle.cert_text.specs.declared.begun.Step.{Step}
use Rattle.cert_text.specs.declared.begun.Step.TheVariants.{Goes, Ends, Wrong}
use Rattle.cert_text.specs.Begun.{StepTells, StopStep, begun_bytes}
use Rattle.cert_text.specs.Lines.{BeginsClaim, line_part}
use Rattle.cert_text.proofs.PartLemmas.{begins_front}

-- a part begins with its first byte
line_part-first : (byte : ℕ) (bytes : List ℕ) → (more : List ℕ) × (line_part (byte ∷ bytes) ≡ byte ∷ more)
line_part-first byte bytes = at (byte == 10)
  where
    at : (b : Bool) → (more : List ℕ) × ((if b then byte ∷ [] else byte ∷ line_part bytes) ≡ byte ∷ more)
    at true = ([], refl)
    at false = (line_part bytes, refl)

-- the bytes so far, the next byte, and the rest of the part
module _ (before now : Begun) (piece : List ℕ) (i : ℕ) (here : i < length piece)
    (read : begun_bytes now ≡ begun_bytes before ++ take i piece)
    (part : line_part piece ≡ take i piece ++ line_part (drop i piece)) where
  read_more : begun_bytes now ++ get_or piece i 0 ∷ [] ≡ begun_bytes before ++ take (i + 1) piece
  read_more =
      ap (λ t. t ++ get_or piece i 0 ∷ []) read
      ∙ append_assoc (begun_bytes before) (take i piece) (get_or piece i 0 ∷ [])
      ∙ ap (λ t. begun_bytes before ++ t) (sym (take_more piece i 0 here))

  part_next : line_part piece ≡ take i piece ++ line_part (get_or piece i 0 ∷ drop (i + 1) piece)
  part_next = part ∙ ap (λ t. take i piece ++ line_part t) (drop_more piece i 0 here)

  part_ends : get_or piece i 0 ≡ 10 → line_part piece ≡ take (i + 1) piece
  part_ends lf =
      part_next
      ∙ ap (λ b. take i piece ++ line_part (b ∷ drop (i + 1) piece)) lf
      ∙ ap (λ b. take i piece ++ b ∷ []) (sym lf)
      ∙ sym (take_more piece i 0 here)

  part_begun : (BeginsClaim (begun_bytes now ++ get_or piece i 0 ∷ []) → ⊥)
      → BeginsClaim (begun_bytes before ++ line_part piece) → ⊥
  part_begun wrong begins =
      let (more, first) = line_part-first (get_or piece i 0) (drop (i + 1) piece) in
      let whole : begun_bytes before ++ line_part piece ≡ (begun_bytes now ++ get_or piece i 0 ∷ []) ++ more =
      ap (λ t. begun_bytes before ++ t) (part_next ∙ ap (λ t. take i piece ++ t) first)
      ∙ sym (append_assoc (begun_bytes before) (take i piece) (get_or piece i 0 ∷ more))
      ∙ ap (λ t. t ++ get_or piece i 0 ∷ more) (sym read)
      ∙ sym (append_assoc (begun_bytes now) (get_or piece i 0 ∷ []) more) in
      wrong (begins_front (begun_bytes now ++ get_or piece i 0 ∷ []) more (subst BeginsClaim whole begins))

  pub stop_here : (step : Step) → ((longer : Begun) → step ≡ Goes longer → ⊥)
      → StepTells now (get_or piece i 0) step → StopStep before piece (i + 1) step
  stop_here (Goes longer) stops tells = absurd (stops longer refl)
  stop_here (Ends claim) stops (fits, line, lf) = (fits, line ∙ read_more, omega (arith, here), part_ends lf)
  stop_here Wrong stops wrong = part_begun wrong
