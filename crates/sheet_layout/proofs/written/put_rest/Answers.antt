use Rattle.std.proofs.Common.{◌++◌, ◌∷◌, [], ap, ◌∙◌}
use Rattle.sheet_layout.proofs.Pushed.{pushed}
use Rattle.sheet_layout.specs.declared.shapes.Shape.TheVariants.{At}
use Rattle.sheet_layout.specs.Notes.{dots, point, rest_symbol}
use Rattle.sheet_layout.proofs.written.put_rest.Goals as goal

pub returns : goal.returns
returns c =
    let old = c.args.shapes.now.items in
    let note = c.args.note.now in
    pushed old _ _
    (c.in_ok-put_symbol.ensures
    ∙ ap (λ symbol. old ++ At symbol (point c.rest_x-x.result 600) ∷ []) c.rest_symbol-symbol.ensures
    ∙ ap (λ x. old ++ At (rest_symbol note.value.base) (point x 600) ∷ []) c.rest_x-x.ensures)
    (c.in_ok-put_dots.ensures
    ∙ ap (λ x. c.put_symbol.new.shapes.items ++ dots note.value.dots x 596) c.rest_x-x.ensures)
