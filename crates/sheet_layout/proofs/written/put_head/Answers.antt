use Rattle.std.proofs.Common.{◌++◌, ◌∷◌, [], ap, ◌∙◌}
use Rattle.sheet_layout.proofs.Pushed.{pushed}
use Rattle.sheet_layout.specs.declared.shapes.Shape.TheVariants.{At}
use Rattle.sheet_layout.specs.Notes.{dots, head_symbol, ledgers, point, signs, stems, ties}
use Rattle.sheet_layout.proofs.written.put_head.Goals as goal

pub returns : goal.returns
returns c =
    let old = c.args.shapes.now.items in
    let all = c.args.all.now in
    let place = c.args.place.now in
    let note = c.args.note.now in
    let head = c.args.head.now in
    let p1 = ledgers head.x place.middle c.args.degree in
    let p2 = p1 ++ At (head_symbol note.value.base) (point head.x head.y) ∷ [] in
    let p3 = p2 ++ stems note.value.base head in
    let p4 = p3 ++ signs note.sign head.x head.y in
    pushed old _ (ties all place note head)
    (pushed old p4 _
    (pushed old p3 (signs note.sign head.x head.y)
    (pushed old p2 (stems note.value.base head)
    (pushed old p1 _ c.in_ok-put_ledgers.ensures
    (c.in_ok-put_symbol.ensures
    ∙ ap (λ symbol. c.put_ledgers.new.shapes.items ++ At symbol (point head.x head.y) ∷ []) c.head_symbol-symbol.ensures))
    c.in_ok-put_stems.ensures)
    c.in_ok-put_signs.ensures)
    (c.in_ok-put_dots.ensures
    ∙ ap (λ y. c.put_signs.new.shapes.items ++ dots note.value.dots head.x y) c.dot_height-dot.ensures))
    c.in_ok-put_ties.ensures
