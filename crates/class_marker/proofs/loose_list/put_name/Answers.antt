use Rattle.std.proofs.Common.{◌≡◌, ◌+◌, ◌++◌, ◌∷◌, [], map, length, ap, sym, ◌∙◌, arith}
use Rattle.std.specs.Prelude.{string_bytes}
use Rattle.std.proofs.lemmas.List.{length-map, map-append}
use Rattle.class_marker.specs.LooseLists.{names_from}
use Rattle.class_marker.proofs.LooseLineLemmas.{line_at_fault, line_empty, line_named}
use Rattle.class_marker.proofs.loose_list.put_name.Goals as goal

pub returns-then-is_empty : goal.returns-then-is_empty
returns-then-is_empty c = λ more.
    line_empty c.args.number (map string_bytes c.args.names.now.items) c.args.line.now more (sym c.if-is_empty.ensures)

pub returns-then-not-may_be_name : goal.returns-then-not-may_be_name
returns-then-not-may_be_name c = λ more.
    let names = map string_bytes c.args.names.now.items in
    let count : length names ≡ c.len.result = simp length-map (omega (arith, c.len.ensures)) in
    line_at_fault c.args.number names c.args.line.now more (sym c.if-is_empty.ensures)
    (rw count (sym c.if-not-may_be_name.ensures))

pub returns : goal.returns
returns c = λ more.
    let old = c.args.names.now.items in
    let names = map string_bytes old in
    let count : length names ≡ c.len.result = simp length-map (omega (arith, c.len.ensures)) in
    let list : map string_bytes c.push.new.self.items ≡ names ++ c.args.line.now ∷ [] =
    ap (map string_bytes) c.in_ok-push.ensures.items ∙ (map-append string_bytes old (c.in_ok-from_str.field-0 ∷ [])
    ∙ ap (λ l. names ++ l ∷ []) c.in_ok-from_str.ensures.ok) in
    line_named c.args.number names c.args.line.now more (sym c.if-is_empty.ensures)
    (rw count (sym c.if-not-may_be_name.ensures)) ∙ ap (λ l. names_from (c.args.number + 1) l more) (sym list)
