-- The bytes of a piece through its first line feed, byte by byte.
use Rattle.std.proofs.Common.{◌≡◌, ◌≢◌, ℕ, ◌+◌, ◌<◌, List, [], ◌∷◌, ◌++◌, length, take, drop, get_or, sym, ap, ◌∙◌, append_assoc}
use Rattle.std.specs.Prelude.{if◌then◌else◌}
use Rattle.std.proofs.lemmas.Bool.{ne_eqb}
use Rattle.std.proofs.lemmas.List.{drop_more, take_more}
use Rattle.cert_text.specs.Lines.{BeginsClaim, line_part}

-- a byte that is no line feed, and the byte that is one
pub line_part-goes : (byte : ℕ) (bytes : List ℕ) → byte ≢ 10 → line_part (byte ∷ bytes) ≡ byte ∷ line_part bytes
line_part-goes byte bytes other = ap (λ b. if b then byte ∷ [] else byte ∷ line_part bytes) (ne_eqb byte 10 other)

-- what begins no claim's line begins none with more bytes
pub begins_front : (bytes more : List ℕ) → BeginsClaim (bytes ++ more) → BeginsClaim bytes
begins_front bytes more b = record {
  claim = b.claim;
  fits = b.fits;
  rest = more ++ b.rest;
  whole = sym
      (append_assoc bytes more b.rest) ∙ b.whole;
}

-- one byte more, where the line goes on
pub part_more : (piece : List ℕ) (i byte : ℕ) → i < length piece → byte ≡ get_or piece i 0 → byte ≢ 10
    → line_part piece ≡ take i piece ++ line_part (drop i piece)
    → line_part piece ≡ take (i + 1) piece ++ line_part (drop (i + 1) piece)
part_more piece i byte h here other so_far =
    so_far
    ∙ ap (λ bytes. take i piece ++ line_part bytes) (drop_more piece i 0 h
    ∙ ap (λ b. b ∷ drop (i + 1) piece) (sym here))
    ∙ ap (λ bytes. take i piece ++ bytes) (line_part-goes byte (drop (i + 1) piece) other)
    ∙ sym (append_assoc (take i piece) (byte ∷ []) (line_part (drop (i + 1) piece)))
    ∙ ap (λ bytes. bytes ++ line_part (drop (i + 1) piece)) (ap (λ b. take i piece ++ b ∷ []) here
    ∙ sym (take_more piece i 0 h))
