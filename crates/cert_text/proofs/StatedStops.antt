-- What a byte at which reading stops makes of a line that states a potential, or of the line
-- `claims` (`stated_stops`).
use Rattle.std.proofs.Common.{◌≡◌, ℕ, ◌+◌, ◌<◌, Bool, true, false, List, [], ◌∷◌, ◌++◌, ◌==◌, length, take, drop, get_or, refl, sym, ap, ◌∙◌, subst, append_assoc, arith}
use Rattle.std.specs.Prelude.{if◌then◌else◌}
use Rattle.std.proofs.lemmas.List.{drop_more, take_more}
use Rattle.cert_text.specs.declared.stated_line.StatedLine.{StatedLine}
use Rattle.cert_text.specs.declared.stated_line.StatedStep.{StatedStep}
use Rattle.cert_text.specs.declared.stated_line.StatedStep.TheVariants.{Goes, Ends, Wrong}
use Rattle.cert_text.specs.Lines.{line_part}
use Rattle.cert_text.specs.Potentials.{BeginsOwed, IsOwedLine}
use Rattle.cert_text.specs.StatedLines.{IsEnded, StepTells, StopStep, is_of_potential, stated_bytes}

-- what begins no line that is owed begins none with more bytes
owed_front : (kind : Bool) (bytes more : List ℕ) → BeginsOwed kind (bytes ++ more) → BeginsOwed kind bytes
owed_front kind bytes more b = record {
  rest = more ++ b.rest;
  whole = subst (IsOwedLine kind) (append_assoc bytes more b.rest) b.whole;
}

-- a part begins with its first byte
line_part-first : (byte : ℕ) (bytes : List ℕ) → (more : List ℕ) × (line_part (byte ∷ bytes) ≡ byte ∷ more)
line_part-first byte bytes = at (byte == 10)
  where
    at : (b : Bool) → (more : List ℕ) × ((if b then byte ∷ [] else byte ∷ line_part bytes) ≡ byte ∷ more)
    at true = ([], refl)
    at false = (line_part bytes, refl)

-- the bytes so far, the next byte, and the rest of the part
module _ (before now : StatedLine) (piece : List ℕ) (i : ℕ) (here : i < length piece)
    (kind : is_of_potential now ≡ is_of_potential before)
    (read : stated_bytes now ≡ stated_bytes before ++ take i piece)
    (part : line_part piece ≡ take i piece ++ line_part (drop i piece)) where
  read_more : stated_bytes now ++ get_or piece i 0 ∷ [] ≡ stated_bytes before ++ take (i + 1) piece
  read_more =
      ap (λ t. t ++ get_or piece i 0 ∷ []) read
      ∙ append_assoc (stated_bytes before) (take i piece) (get_or piece i 0 ∷ [])
      ∙ ap (λ t. stated_bytes before ++ t) (sym (take_more piece i 0 here))

  part_next : line_part piece ≡ take i piece ++ line_part (get_or piece i 0 ∷ drop (i + 1) piece)
  part_next = part ∙ ap (λ t. take i piece ++ line_part t) (drop_more piece i 0 here)

  part_ends : get_or piece i 0 ≡ 10 → line_part piece ≡ take (i + 1) piece
  part_ends lf =
      part_next
      ∙ ap (λ b. take i piece ++ line_part (b ∷ drop (i + 1) piece)) lf
      ∙ ap (λ b. take i piece ++ b ∷ []) (sym lf)
      ∙ sym (take_more piece i 0 here)

  part_begun : (BeginsOwed (is_of_potential now) (stated_bytes now ++ get_or piece i 0 ∷ []) → ⊥)
      → BeginsOwed (is_of_potential before) (stated_bytes before ++ line_part piece) → ⊥
  part_begun wrong begins =
      let (more, first) = line_part-first (get_or piece i 0) (drop (i + 1) piece) in
      let whole : stated_bytes before ++ line_part piece ≡ (stated_bytes now ++ get_or piece i 0 ∷ []) ++ more =
      ap (λ t. stated_bytes before ++ t) (part_next ∙ ap (λ t. take i piece ++ t) first)
      ∙ sym (append_assoc (stated_bytes before) (take i piece) (get_or piece i 0 ∷ more))
      ∙ ap (λ t. t ++ get_or piece i 0 ∷ more) (sym read)
      ∙ sym (append_assoc (stated_bytes now) (get_or piece i 0 ∷ []) more) in
      wrong (owed_front (is_of_potential now) (stated_bytes now ++ get_or piece i 0 ∷ []) more
      (subst (λ k. BeginsOwed k ((stated_bytes now ++ get_or piece i 0 ∷ []) ++ more)) (sym kind)
      (subst (BeginsOwed (is_of_potential before)) whole begins)))

  pub stated_stops : (step : StatedStep) → ((longer : StatedLine) → step ≡ Goes longer → ⊥)
      → StepTells now (get_or piece i 0) step → StopStep before piece (i + 1) step
  stated_stops (Goes longer) stops tells = absurd (stops longer refl)
  stated_stops (Ends ended) stops (is, lf) = (
    subst (λ k. IsEnded k ended (stated_bytes before ++ take (i + 1) piece)) kind
        (subst (IsEnded (is_of_potential now) ended) read_more is),
    omega (arith, here),
    part_ends lf,
  )
  stated_stops Wrong stops wrong = part_begun wrong
