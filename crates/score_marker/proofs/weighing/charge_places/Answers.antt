use Rattle.std.proofs.Common.{◌≡◌, ◌<◌, List, [], ◌∷◌, ◌++◌, length, take, ap, sym, subst, ◌∙◌, arith, append-nil, append_assoc}
use Rattle.std.specs.List.{flat_map, range_with_len}
use Rattle.std.proofs.lemmas.List.{flat_map_more, length-take-le, take_more}
use Rattle.fux_grid.specs.declared.cell.Cell.{Cell}
use Rattle.fux_judge.specs.States.{IsPastOf}
use Rattle.score_marker.specs.Charges.{charges_at_place, charges_of_breaks, charges_of_tolls}
use Rattle.score_marker.proofs.ListLemmas.{range-more}
use Rattle.score_marker.proofs.weighing.charge_places.Goals as goal

pub loop-i-init : goal.loop-i-init
loop-i-init c =
    record { made = sym (append-nil c.args.charges.now.items); past = c.none-past.ensures c.args.ex.now }

pub loop-i-preserved : goal.loop-i-preserved
loop-i-preserved c =
    let s = c.args.score.now.columns in
    let ex = c.args.ex.now in
    let sheet = c.args.sheet.now in
    let i = c.loop-i.i in
    let P : List (List Cell) → Type 0 = λ p. IsPastOf ex p c.note.new.self in
    let here : i < length s = omega arith in
    let column = ap (λ col. take i s ++ col ∷ []) (c.as_slice.ensures.value ∙ c.column.ensures.value) in
    record {
      made =
          c.in_ok-charge_tolls.ensures ∙ ap (λ cs. cs ++ charges_of_tolls ex sheet s i) c.in_ok-charge_breaks.ensures
          ∙ append_assoc c.loop-i.charges.items (charges_of_breaks ex s i) (charges_of_tolls ex sheet s i)
          ∙ ap (λ cs. cs ++ charges_at_place ex sheet s i) c.loop-i.invariant.made
          ∙ flat_map_more (charges_at_place ex sheet s) c.args.charges.now.items (range_with_len 0 i) i
          ∙ ap (λ places. c.args.charges.now.items ++ flat_map (charges_at_place ex sheet s) places) (sym (range-more i));
      past =
          subst P (column ∙ sym (take_more s i [] here))
          (c.note.ensures (take i s) (length-take-le i s (omega (arith, here))) c.loop-i.invariant.past);
    }

pub returns : goal.returns
returns c =
    let all : c.loop-i.i ≡ length c.args.score.now.columns = omega arith in
    c.loop-i.invariant.made ∙ ap (λ n. c.args.charges.now.items
    ++ flat_map (charges_at_place c.args.ex.now c.args.sheet.now c.args.score.now.columns) (range_with_len 0 n)) all
