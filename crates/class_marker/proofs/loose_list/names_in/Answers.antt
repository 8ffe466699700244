use Rattle.std.proofs.Common.{◌≡◌, ◌==◌, true, false, Err, length, map, ap, sym, ◌∙◌, refl, arith}
use Rattle.std.specs.Prelude.{string_bytes}
use Rattle.std.specs.Str.Lines.{lines}
use Rattle.std.proofs.lemmas.List.{length-map}
use Rattle.std.proofs.lemmas.Result.{err_from_is_err_and}
use Rattle.class_marker.specs.LooseLists.{names_from}
use Rattle.class_marker.proofs.LooseLineLemmas.{all_lines, gives_fault}
use Rattle.class_marker.proofs.loose_list.names_in.Goals as goal

pub loop-rest-init : goal.loop-rest-init
loop-rest-init c = record {
  so_far = rw c.new-names.ensures.items refl;
  number = omega arith;
  utf8 = search;
}

pub returns-in_err-put_name : goal.returns-in_err-put_name
returns-in_err-put_name c =
    let told = err_from_is_err_and c.from_residual.result c.from_residual.ensures.1 in
    gives_fault c.in_err-put_name.field-0.0 c.from_residual.result c.args.text.now c.loop-rest.number
    (map string_bytes c.loop-rest.names.items) (map string_bytes c.put_name.new.names.items) c.first_line.result.0.now
    (lines c.first_line.result.1.now)
    (told.1 ∙ ap Err told.2) c.in_err-put_name.ensures
    (c.loop-rest.invariant.so_far ∙ ap (names_from c.loop-rest.number (map string_bytes c.loop-rest.names.items)) c.first_line.ensures.lines)

pub loop-rest-preserved : goal.loop-rest-preserved
loop-rest-preserved c = record {
  so_far = c.loop-rest.invariant.so_far
      ∙ ap (names_from c.loop-rest.number (map string_bytes c.loop-rest.names.items)) c.first_line.ensures.lines
      ∙ c.in_ok-put_name.ensures (lines c.first_line.result.1.now);
  number = omega (arith, c.loop-rest.invariant.number, c.first_line.ensures.shorter);
  utf8 = search;
}

pub returns-then-is_empty : goal.returns-then-is_empty
returns-then-is_empty c =
    let names = map string_bytes c.loop-rest.names.items in
    let len : length c.loop-rest.names.items ≡ c.loop-rest.names.len = omega arith in
    let none : (length names == 0) ≡ true = simp length-map (ap (λ n. n == 0) len ∙ sym c.if-is_empty.ensures) in
    c.loop-rest.invariant.so_far
    ∙ (all_lines c.loop-rest.number names c.loop-rest.rest.now (sym c.loop-rest-test.ensures) ∙ rw none refl)

pub returns : goal.returns
returns c =
    let names = map string_bytes c.loop-rest.names.items in
    let len : length c.loop-rest.names.items ≡ c.loop-rest.names.len = omega arith in
    let some : (length names == 0) ≡ false = simp length-map (ap (λ n. n == 0) len ∙ sym c.if-is_empty.ensures) in
    c.loop-rest.invariant.so_far
    ∙ (all_lines c.loop-rest.number names c.loop-rest.rest.now (sym c.loop-rest-test.ensures) ∙ rw some refl)
