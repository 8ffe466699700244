use Rattle.std.proofs.Common.{◌≡◌, ◌∷◌, [], inl, inr, refl, sym, ap, ◌∙◌, ℕ}
use Rattle.std.specs.Prelude.{◌==◌}
use Rattle.std.proofs.lemmas.Result.{err_from_is_err_and}
use Rattle.cert_text.specs.HeadRows.{IsKind}
use Rattle.cert_text.proofs.HeadStops.{fixed-reads, fixed-stops}
use Rattle.cert_text.proofs.PieceLemmas.{byte-alone, byte-stops, byte-stops_at_end, reads-then, stops-behind, stops-first}
use Rattle.cantus_check.proofs.HeadRows.{kind-plain}
use Rattle.cantus_check.proofs.scan.kind.Goals as goal

pub returns-in_default-clause-err : goal.returns-in_default-clause-err
returns-in_default-clause-err c =
    stops-first _ _ _ _ (byte-alone IsKind) (λ byte t text. (kind-plain (byte == 98)).live)
    (byte-stops_at_end IsKind c.args.bytes.now 110 (inr refl) (c.next.ensures.none c.in_default.is))

pub returns-in_err-penalty-clause-err : goal.returns-in_err-penalty-clause-err
returns-in_err-penalty-clause-err c =
    let told = err_from_is_err_and c.from_residual.result c.from_residual.ensures.1 in
    let parts = c.in-Some.ensures.some ∙ ap (λ b. b ∷ c.in-Some.behind.now) c.if-byte-eq98.true in
    rw (told.1, told.2)
    (stops-behind _ _ _ _ _ 98 (byte-alone IsKind) (98 ∷ [], parts, (inl refl, refl)) c.in_err-penalty.ensures.err)

pub returns-then-byte-eq98-clause-ok : goal.returns-then-byte-eq98-clause-ok
returns-then-byte-eq98-clause-ok c =
    let parts = c.in-Some.ensures.some ∙ ap (λ b. b ∷ c.in-Some.behind.now) c.if-byte-eq98.true in
    reads-then _ _ _ _ _ 98 _ (98 ∷ [], parts, (inl refl, refl)) c.in_ok-penalty.ensures.ok

pub returns-in_err-rest-clause-err : goal.returns-in_err-rest-clause-err
returns-in_err-rest-clause-err c =
    let told = err_from_is_err_and c.from_residual-in_err-rest.result c.from_residual-in_err-rest.ensures.1 in
    let parts = c.in-Some.ensures.some ∙ ap (λ b. b ∷ c.in-Some.behind.now) c.if-byte-eq110.true in
    rw (told.1, told.2)
    (stops-behind _ _ _ _ _ 110 (byte-alone IsKind) (110 ∷ [], parts, (inr refl, refl))
    (fixed-stops _ _ c.in-Some.behind.now c.in_err-rest.field-0.0 c.in_err-rest.ensures.err))

pub returns-then-byte-eq110-clause-ok : goal.returns-then-byte-eq110-clause-ok
returns-then-byte-eq110-clause-ok c =
    let parts = c.in-Some.ensures.some ∙ ap (λ b. b ∷ c.in-Some.behind.now) c.if-byte-eq110.true in
    reads-then _ _ _ _ _ 110 _ (110 ∷ [], parts, (inr refl, refl))
    (fixed-reads _ _ c.in-Some.behind.now c.in_ok-rest.rest.now c.in_ok-rest.ensures.ok)

pub returns-clause-err : goal.returns-clause-err
returns-clause-err c =
    stops-first _ _ _ _ (byte-alone IsKind) (λ byte t text. (kind-plain (byte == 98)).live)
    (byte-stops IsKind c.args.bytes.now 110 (inr refl) (λ b more e kind.
    let both : c.in-Some.byte ∷ c.in-Some.behind.now ≡ b ∷ more = sym c.in-Some.ensures.some ∙ e in
    let same : c.in-Some.byte ≡ b = cc in
    by b same kind))
  where
    by : (b : ℕ) → c.in-Some.byte ≡ b → IsKind b → ⊥
    by b same (inl best) = c.if-byte-eq98.false (same ∙ best)
    by b same (inr none) = c.if-byte-eq110.false (same ∙ none)
