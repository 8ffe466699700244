use Rattle.std.proofs.Common.{lit<, Bool, ◌≡◌, suc, ◌+◌, ◌-◌, ◌<◌, ◌≤◌, ◌∷◌, ◌++◌, List, [], length, map, ap, sym, ◌∙◌, arith, append_assoc, length-append}
use Rattle.std.proofs.lemmas.List.{append-nil, length-map}
use Rattle.fux_pitch.specs.declared.pitch.Pitch.{Pitch}
use Rattle.fux_grid.specs.declared.cell.Cell.{Cell}
use Rattle.fux_grid.specs.Menus.{note_cell, pool_of}
use Rattle.fux_grid.proofs.Pools.{HasEnds, pool_from, pool_from-all, pool_from-low, pool_from-high, pool_from-pitch, pool_from-no_pitch, length-pool_of}
use Rattle.fux_grid.proofs.menus.add_pool.Goals as goal
use Rattle.fux_grid.proofs.menus.add_pool.Goals.{in-Some, in_default}

pushed : (starts : Bool) (old new : List Cell) (cell : Cell) (p : Pitch) (pool rest : List Pitch) → new ≡ old ++ cell
    ∷ [] → cell ≡ note_cell starts p → pool ≡ p ∷ rest → new ++ map (note_cell starts) rest ≡ old
    ++ map (note_cell starts) pool
pushed starts old new cell p pool rest e f g =
    ap (λ cells. cells ++ map (note_cell starts) rest) (e ∙ ap (λ cell. old ++ cell ∷ []) f)
    ∙ append_assoc old (note_cell starts p ∷ []) (map (note_cell starts) rest)
    ∙ ap (λ pool. old ++ map (note_cell starts) pool) (sym g)

has_room : (starts : Bool) (first cells : List Cell) (p : Pitch) (all pool rest : List Pitch) → cells
    ++ map (note_cell starts) pool ≡ first ++ map (note_cell starts) all → pool ≡ p ∷ rest → length all ≤ 73
    → length first + 73 ≤ 147 → length cells < 147
has_room starts first cells p all pool rest e f h k =
    omega (
      arith,
      ap length e,
      ap length f,
      length-append cells (map (note_cell starts) pool),
      length-append first
          (map (note_cell starts) all),
      length-map pool (note_cell starts),
      length-map all (note_cell starts),
    )

pub loop-key-init : goal.loop-key-init
loop-key-init c =
    let ends : HasEnds c.args.ex.now c.args.v c.args.bar c.semitone-key.result c.semitone-key-end.result = record {
      ends = c.range.result;
      is = c.range.ensures;
      least = c.semitone-key.ensures.value;
      most = c.semitone-key-end.ensures.value;
    } in
    let long : 73 ≡ (c.semitone-key.result - 24) + (97 - c.semitone-key.result) = omega arith in
    let pool : pool_from c.args.ex.now c.args.v c.args.bar c.semitone-key.result (97 - c.semitone-key.result)
    ≡ pool_of c.args.ex.now c.args.v c.args.bar =
    sym (pool_from-low c.args.ex.now c.args.v c.args.bar c.semitone-key.result c.semitone-key-end.result ends
    (c.semitone-key.result - 24) 24 (97 - c.semitone-key.result) (omega arith))
    ∙ ap (pool_from c.args.ex.now c.args.v c.args.bar 24) (sym long)
    ∙ pool_from-all c.args.ex.now c.args.v c.args.bar in
    ap (λ pool. c.args.cells.now.items ++ map (note_cell c.args.starts) pool) pool

pub push-requires : goal.push-requires
push-requires c =
    let ends : HasEnds c.args.ex.now c.args.v c.args.bar c.semitone-key.result c.semitone-key-end.result = record {
      ends = c.range.result;
      is = c.range.ensures;
      least = c.semitone-key.ensures.value;
      most = c.semitone-key-end.ensures.value;
    } in
    let more : 97 - c.loop-key.key ≡ suc (97 - (c.loop-key.key + 1)) = omega arith in
    let took = pool_from-pitch c.args.ex.now c.args.v c.args.bar _ _ c.loop-key.key _ _ c.in-Some.pitch ends more
    (omega arith) (omega arith) c.in-Some.ensures.some.0 c.in-Some.ensures.some.1 in (
      lit< tt,
      has_room c.args.starts c.args.cells.now.items c.loop-key.cells.items c.in-Some.pitch _ _ _
          c.loop-key.invariant took (length-pool_of c.args.ex.now c.args.v c.args.bar) c.requires.room,
    )

pub loop-key-preserved : goal.loop-key-preserved
loop-key-preserved c =
    let ends : HasEnds c.args.ex.now c.args.v c.args.bar c.semitone-key.result c.semitone-key-end.result = record {
      ends = c.range.result;
      is = c.range.ensures;
      least = c.semitone-key.ensures.value;
      most = c.semitone-key-end.ensures.value;
    } in
    let more : 97 - c.loop-key.key ≡ suc (97 - (c.loop-key.key + 1)) = omega arith in
    elim c.match-gamut_pitch.branch [
      | in-Some w ↦
          let took = pool_from-pitch c.args.ex.now c.args.v c.args.bar _ _ c.loop-key.key _ _ w.in-Some.pitch ends more
          (omega arith) (omega arith) w.in-Some.ensures.some.0 w.in-Some.ensures.some.1 in
          pushed c.args.starts c.loop-key.cells.items c.match-gamut_pitch.cells.items w.note_of.result w.in-Some.pitch _
          _ (ap (λ cells. cells.items) w.cells-is ∙ w.push.ensures.items) w.note_of.ensures took
          ∙ c.loop-key.invariant
      | in_default w ↦
          let skipped = pool_from-no_pitch c.args.ex.now c.args.v c.args.bar _ _ c.loop-key.key _ _ ends more
          (omega arith) (omega arith) w.in_default.ensures.none in
          ap (λ cells. cells.items ++ map (note_cell c.args.starts)
          (pool_from c.args.ex.now c.args.v c.args.bar (c.loop-key.key + 1) (97 - (c.loop-key.key + 1)))) w.cells-is
          ∙ ap (λ pool. c.loop-key.cells.items ++ map (note_cell c.args.starts) pool) (sym skipped)
          ∙ c.loop-key.invariant
    ]

pub returns : goal.returns
returns c =
    let ends : HasEnds c.args.ex.now c.args.v c.args.bar c.semitone-key.result c.semitone-key-end.result = record {
      ends = c.range.result;
      is = c.range.ensures;
      least = c.semitone-key.ensures.value;
      most = c.semitone-key-end.ensures.value;
    } in
    let none = pool_from-high c.args.ex.now c.args.v c.args.bar _ _ ends (97 - c.loop-key.key) c.loop-key.key
    (omega arith) in
    sym (append-nil c.loop-key.cells.items)
    ∙ ap (λ pool. c.loop-key.cells.items ++ map (note_cell c.args.starts) pool) (sym none) ∙ c.loop-key.invariant
