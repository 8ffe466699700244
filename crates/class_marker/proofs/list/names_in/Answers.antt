use Rattle.std.proofs.Common.{◌≡◌, ◌<◌, ◌+◌, ◌==◌, true, false, Err, ◌++◌, ◌∷◌, [], length, length-append, map, refl, ap, sym, ◌∙◌, arith}
use Rattle.std.specs.Prelude.{string_bytes}
use Rattle.std.proofs.lemmas.Bool.{and_parts, ltb-true}
use Rattle.std.proofs.lemmas.List.{length-map, map-append}
use Rattle.class_marker.proofs.ListLemmas.{all_names, from, from-start, no_name, one_name, wrong_name}
use Rattle.class_marker.proofs.list.names_in.Goals as goal

pub loop-rest-init : goal.loop-rest-init
loop-rest-init c = record {
  so_far = (1, rw c.new-names.ensures.items (from-start c.args.text.now));
  few = omega (arith, ap length c.new-names.ensures.items);
  utf8 = search;
}

pub returns-in_default : goal.returns-in_default
returns-in_default c =
    let names = map string_bytes c.loop-rest.names.items in
    let number : length names + 1 ≡ c.len.result + 1 = simp length-map (omega (arith, c.len.ensures)) in
    c.loop-rest.invariant.so_far.1
    ∙ (no_name _ _ names c.loop-rest.rest.now c.in_default.ensures (sym c.is_empty.ensures ∙ c.loop-rest-test.true) ∙ ap Err number)

pub returns-then-not-is_name_behind : goal.returns-then-not-is_name_behind
returns-then-not-is_name_behind c =
    let names = map string_bytes c.loop-rest.names.items in
    let number : length names + 1 ≡ c.len.result + 1 = simp length-map (omega (arith, c.len.ensures)) in
    let count : length names ≡ c.len-in-loop-rest.result = simp length-map (omega (arith, c.len-in-loop-rest.ensures)) in
    c.loop-rest.invariant.so_far.1
    ∙ (wrong_name _ _ names c.loop-rest.rest.now c.in-Some.name.now c.in-Some.behind.now c.in-Some.ensures
    (rw count (sym c.if-not-is_name_behind.ensures)) ∙ ap Err number)

pub loop-rest-preserved : goal.loop-rest-preserved
loop-rest-preserved c =
    let old = c.loop-rest.names.items in
    let names = map string_bytes old in
    let items = c.in_ok-push.ensures.items in
    let count : length names ≡ c.len-in-loop-rest.result = simp length-map (omega (arith, c.len-in-loop-rest.ensures)) in
    let few : c.len-in-loop-rest.result < 512 = ltb-true c.len-in-loop-rest.result 512 (and_parts _ _ (sym c.if-not-is_name_behind.ensures)).1 in
    let list : map string_bytes c.push.new.self.items ≡ names ++ c.in-Some.name.now ∷ [] =
    ap (map string_bytes) items ∙ (map-append string_bytes old (c.in_ok-from_str.field-0 ∷ [])
    ∙ ap (λ l. names ++ l ∷ []) c.in_ok-from_str.ensures.ok) in
    let column = c.loop-rest.invariant.so_far.0 + length (c.in-Some.name.now ++ 10 ∷ []) in
    record {
      so_far = (
        column,
        c.loop-rest.invariant.so_far.1
            ∙ (one_name _ _ names c.loop-rest.rest.now c.in-Some.name.now c.in-Some.behind.now c.in-Some.ensures
            (rw count (sym c.if-not-is_name_behind.ensures))
            ∙ ap (λ l. from c.args.text.now column l c.in-Some.behind.now) (sym list)),
      );
      few = simp (items, length-append) (omega (arith, c.len-in-loop-rest.ensures));
      utf8 = search;
    }

pub returns-then-is_empty : goal.returns-then-is_empty
returns-then-is_empty c =
    let names = map string_bytes c.loop-rest.names.items in
    let len : length c.loop-rest.names.items ≡ c.loop-rest.names.len = omega arith in
    let none : (length names == 0) ≡ true = simp length-map (ap (λ n. n == 0) len ∙ sym c.if-is_empty.ensures) in
    c.loop-rest.invariant.so_far.1 ∙ (all_names _ _ names c.loop-rest.rest.now (sym c.loop-rest-test.ensures) ∙ rw none refl)

pub returns : goal.returns
returns c =
    let names = map string_bytes c.loop-rest.names.items in
    let len : length c.loop-rest.names.items ≡ c.loop-rest.names.len = omega arith in
    let some : (length names == 0) ≡ false = simp length-map (ap (λ n. n == 0) len ∙ sym c.if-is_empty.ensures) in
    c.loop-rest.invariant.so_far.1 ∙ (all_names _ _ names c.loop-rest.rest.now (sym c.loop-rest-test.ensures) ∙ rw some refl)
