use Rattle.std.proofs.Common.{◌≡◌, ◌∷◌, [], refl, sym, ap, ◌∙◌, arith}
use Rattle.cert_text.specs.HeadRows.{IsCount, is_count}
use Rattle.cert_text.proofs.ItemRows.{count-from, count-not}
use Rattle.cert_text.proofs.PieceLemmas.{byte-stops, byte-stops_at_end}
use Rattle.cert_text.proofs.scan.count.Goals as goal

pub returns-in_default-clause-err : goal.returns-in_default-clause-err
returns-in_default-clause-err c =
    byte-stops_at_end (IsCount c.args.i) c.args.bytes.now 49 (omega arith, omega arith) (c.next.ensures.none c.in_default.is)

pub returns-then-not-is_count-clause-err : goal.returns-then-not-is_count-clause-err
returns-then-not-is_count-clause-err c =
    byte-stops (IsCount c.args.i) c.args.bytes.now 49 (omega arith, omega arith)
    (λ b more e count.
    let both : c.in-Some.digit ∷ c.in-Some.rest.now ≡ b ∷ more = sym c.in-Some.ensures.some ∙ e in
    let same : c.in-Some.digit ≡ b = cc in
    count-not c.args.i b (ap (is_count c.args.i) (sym same) ∙ sym c.is_count.ensures ∙ c.if-not-is_count.true) count)

pub returns-clause-ok : goal.returns-clause-ok
returns-clause-ok c = (
  c.in-Some.digit ∷ [],
  c.in-Some.ensures.some,
  (count-from c.args.i c.in-Some.digit (sym c.is_count.ensures ∙ c.if-not-is_count.false), refl),
)
