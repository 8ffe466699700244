use Rattle.std.proofs.Common.{lit<, ◌∷◌, ◌++◌, [], ap, length, sym, ◌∙◌, arith}
use Rattle.std.proofs.lemmas.List.{length-map, map-append}
use Rattle.fux_grid.specs.Grid.{items_of}
use Rattle.fux_grid.proofs.MenuLemmas.{first_choices, first_choices-all, first_choices-more, length-first_choices}
use Rattle.fux_grid.proofs.menus.choices.Goals as goal

pub push-requires : goal.push-requires
push-requires c = (
  lit< tt,
  omega (
    arith,
    ap length c.loop-v.invariant,
    length-map c.loop-v.choices.items (λ col. col.items),
    length-first_choices c.args.ex.now c.args.i c.loop-v.v,
  ),
)

pub loop-v-preserved : goal.loop-v-preserved
loop-v-preserved c =
    ap items_of c.push.ensures.items ∙ map-append (λ col. col.items) c.loop-v.choices.items (c.voice_cells.result ∷ [])
    ∙ ap (λ lists. lists ++ c.voice_cells.result.items ∷ []) c.loop-v.invariant
    ∙ ap (λ cells. first_choices c.args.ex.now c.args.i c.loop-v.v ++ cells ∷ []) c.voice_cells.ensures
    ∙ sym (first_choices-more c.args.ex.now c.args.i c.loop-v.v)

pub returns : goal.returns
returns c = c.loop-v.invariant ∙ first_choices-all c.args.ex.now c.args.i c.loop-v.v (omega arith)
