use Rattle.std.proofs.Common.{◌≡◌, ◌<◌, List, [], ◌∷◌, ◌++◌, length, take, ap, sym, subst, ◌∙◌, arith}
use Rattle.std.specs.List.{flat_map, range_with_len}
use Rattle.std.proofs.lemmas.List.{flat_map_more, length-take-le, take_more}
use Rattle.fux_grid.specs.declared.cell.Cell.{Cell}
use Rattle.fux_judge.specs.Rules.{rules_read}
use Rattle.fux_judge.specs.States.{IsPastOf}
use Rattle.score_marker.specs.Lists.{marks_of_place, marks_of_places}
use Rattle.score_marker.specs.Marks.{AreMarks}
use Rattle.score_marker.specs.Setting.{breaks_of, sets_in_order}
use Rattle.score_marker.proofs.ListLemmas.{range-more}
use Rattle.score_marker.proofs.SettingLemmas.{are_marks}
use Rattle.score_marker.proofs.setting.marks.Goals as goal

pub loop-i-init : goal.loop-i-init
loop-i-init c =
    record { made = c.new-marks.ensures.items; past = c.none-past.ensures c.args.ex.now }

pub loop-i-preserved : goal.loop-i-preserved
loop-i-preserved c =
    let s = c.args.score.now.columns in
    let place = marks_of_place (breaks_of c.args.ex.now s) sets_in_order rules_read in
    let P : List (List Cell) → Type 0 = λ p. IsPastOf c.args.ex.now p c.note.new.self in
    let here : c.loop-i.i < length s = omega arith in
    let column = ap (λ col. take c.loop-i.i s ++ col ∷ []) (c.as_slice.ensures.value ∙ c.column.ensures.value) in
    record {
      made =
          c.in_ok-mark_place.ensures ∙ ap (λ marks. marks ++ place c.loop-i.i) c.loop-i.invariant.made
          ∙ flat_map_more place [] (range_with_len 0 c.loop-i.i) c.loop-i.i
          ∙ ap (flat_map place) (sym (range-more c.loop-i.i));
      past =
          subst P (column ∙ sym (take_more s c.loop-i.i [] here))
          (c.note.ensures (take c.loop-i.i s) (length-take-le c.loop-i.i s (omega (arith, here)))
          c.loop-i.invariant.past);
    }

pub returns : goal.returns
returns c =
    let all : c.loop-i.i ≡ length c.args.score.now.columns = omega arith in
    subst (AreMarks c.args.ex.now c.args.score.now.columns)
    (sym (c.loop-i.invariant.made ∙ ap (λ n. marks_of_places (breaks_of c.args.ex.now c.args.score.now.columns)
    sets_in_order rules_read (range_with_len 0 n)) all))
    (are_marks c.args.ex.now c.args.score.now.columns)
