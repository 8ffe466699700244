use Rattle.std.proofs.Common.{◌≡◌, ◌∷◌, [], inl, inr, refl, sym, ap, ◌∙◌, ℕ}
use Rattle.std.specs.Prelude.{◌==◌}
use Rattle.cert_text.specs.HeadRows.{IsKind}
use Rattle.cert_text.proofs.HeadStops.{kind-plain}
use Rattle.cert_text.proofs.PieceLemmas.{IfErr-map, IfOk-map, byte-alone, byte-stops, byte-stops_at_end, reads-then, stops-behind, stops-first}
use Rattle.cert_text.proofs.scan.kind.Goals as goal

pub returns-in_default-clause-err : goal.returns-in_default-clause-err
returns-in_default-clause-err c =
    stops-first _ _ _ _ (byte-alone IsKind)
    (λ byte t text. (kind-plain c.args.ex.now c.requires c.args.form (byte == 98)).live)
    (byte-stops_at_end IsKind c.args.bytes.now 110 (inr refl) (c.next.ensures.none c.in_default.is))

pub returns-then-byte-eq98-clause-ok : goal.returns-then-byte-eq98-clause-ok
returns-then-byte-eq98-clause-ok c =
    let parts = c.in-Some.ensures.some ∙ ap (λ b. b ∷ c.in-Some.rest.now) c.if-byte-eq98.true in
    IfOk-map c.best.result (λ found read. reads-then _ _ _ _ _ 98 _ (98 ∷ [], parts, (inl refl, refl)) read)
    c.best.ensures.ok

pub returns-then-byte-eq98-clause-err : goal.returns-then-byte-eq98-clause-err
returns-then-byte-eq98-clause-err c =
    let parts = c.in-Some.ensures.some ∙ ap (λ b. b ∷ c.in-Some.rest.now) c.if-byte-eq98.true in
    IfErr-map c.best.result
    (λ left stop. stops-behind _ _ _ _ _ 98 (byte-alone IsKind) (98 ∷ [], parts, (inl refl, refl)) stop) c.best.ensures.err

pub returns-then-byte-eq110-clause-ok : goal.returns-then-byte-eq110-clause-ok
returns-then-byte-eq110-clause-ok c =
    let parts = c.in-Some.ensures.some ∙ ap (λ b. b ∷ c.in-Some.rest.now) c.if-byte-eq110.true in
    IfOk-map c.nothing.result (λ found read. reads-then _ _ _ _ _ 110 _ (110 ∷ [], parts, (inr refl, refl)) read)
    c.nothing.ensures.ok

pub returns-then-byte-eq110-clause-err : goal.returns-then-byte-eq110-clause-err
returns-then-byte-eq110-clause-err c =
    let parts = c.in-Some.ensures.some ∙ ap (λ b. b ∷ c.in-Some.rest.now) c.if-byte-eq110.true in
    IfErr-map c.nothing.result
    (λ left stop. stops-behind _ _ _ _ _ 110 (byte-alone IsKind) (110 ∷ [], parts, (inr refl, refl)) stop)
    c.nothing.ensures.err

pub returns-clause-err : goal.returns-clause-err
returns-clause-err c =
    stops-first _ _ _ _ (byte-alone IsKind)
    (λ byte t text. (kind-plain c.args.ex.now c.requires c.args.form (byte == 98)).live)
    (byte-stops IsKind c.args.bytes.now 110 (inr refl) (λ b more e kind.
    let both : c.in-Some.byte ∷ c.in-Some.rest.now ≡ b ∷ more = sym c.in-Some.ensures.some ∙ e in
    let same : c.in-Some.byte ≡ b = cc in
    by b same kind))
  where
    by : (b : ℕ) → c.in-Some.byte ≡ b → IsKind b → ⊥
    by b same (inl best) = c.if-byte-eq98.false (same ∙ best)
    by b same (inr none) = c.if-byte-eq110.false (same ∙ none)
