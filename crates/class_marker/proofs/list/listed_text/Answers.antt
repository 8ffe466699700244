use Rattle.std.proofs.Common.{◌≡◌, length, ap, ◌∙◌, sym, subst, arith}
use Rattle.std.specs.Str.{IsUtf8}
use Rattle.class_marker.specs.Markings.{IsContent}
use Rattle.class_marker.proofs.list.listed_text.Goals as goal

pub returns-in-Ok-clause-text : goal.returns-in-Ok-clause-text
returns-in-Ok-clause-text c = λ bytes content.
    let same : c.in-Bytes.bytes.items ≡ bytes = subst (λ t. IsContent 65536 t bytes) c.in-Bytes.is content in
    let read : c.deref.result.now ≡ bytes = c.deref.ensures.value ∙ same in (
      (
        omega (arith, c.len.ensures, c.if-len-gt65536.false, ap length same),
        subst IsUtf8 read c.in-Ok.ensures.cases.1,
      ),
      c.in-Ok.ensures.cases.0 ∙ read,
    )

pub returns-in-Err-clause-text : goal.returns-in-Err-clause-text
returns-in-Err-clause-text c = λ bytes content listed.
    let same : c.in-Bytes.bytes.items ≡ bytes = subst (λ t. IsContent 65536 t bytes) c.in-Bytes.is content in
    let read : c.deref.result.now ≡ bytes = c.deref.ensures.value ∙ same in
    c.in-Err.ensures.cases.0 (subst IsUtf8 (sym read) listed.1)

pub returns-in-Ok-clause-few : goal.returns-in-Ok-clause-few
returns-in-Ok-clause-few c =
    omega (
      arith,
      c.len.ensures,
      c.if-len-gt65536.false,
      ap length (c.in-Ok.ensures.cases.0 ∙ c.deref.ensures.value),
    )
