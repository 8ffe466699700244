use Rattle.std.proofs.Common.{◌≡◌, ◌*◌, ◌^◌, [], ◌∷◌, Some, length, ap, sym, subst, ◌∙◌, arith}
use Rattle.std.specs.Prelude.{slice_get}
use Rattle.std.proofs.lemmas.Option.{slice_get-get_or}
use Rattle.score_marker.specs.Cantus.{AreCantusMarks, cantus_before, cantus_rules}
use Rattle.score_marker.specs.Lists.{marks_of_places}
use Rattle.score_marker.proofs.CantusLemmas.{are_cantus_marks, bar_lines, bar_marked, cantus_test, notes_of_bar}
use Rattle.score_marker.proofs.cantus.cantus_marks.Goals as goal

pub loop-bar-preserved : goal.loop-bar-preserved
loop-bar-preserved c =
    let pitch : slice_get c.args.ex.now.cantus c.loop-bar.bar ≡ Some c.pitch-item.result =
    ap (λ cantus. slice_get cantus c.loop-bar.bar) (sym c.as_slice-pitch-items.ensures)
    ∙ slice_get-get_or c.as_slice-pitch-items.result.now c.loop-bar.bar c.pitch-item.result (omega arith)
    ∙ ap Some (sym c.pitch-item.is) in
    record {
      marks = bar_marked c.args.ex.now c.loop-bar.bar c.pitch-item.result c.loop-bar.marks.items
          c.mark_place.new.marks.items pitch c.loop-bar.invariant.marks
          (c.in_ok-mark_place.ensures (cantus_before c.args.ex.now (8 * c.loop-bar.bar)) c.loop-bar.invariant.notes);
      notes = notes_of_bar c.args.ex.now c.loop-bar.bar c.pitch-item.result c.noted-notes.result pitch
          (c.noted-notes.ensures (cantus_before c.args.ex.now (8 * c.loop-bar.bar)) c.loop-bar.invariant.notes);
    }

pub returns : goal.returns
returns c =
    let all : c.loop-bar.bar ≡ c.args.ex.now.bars = omega (arith, ap length c.as_slice-pitch-items.ensures) in
    subst (AreCantusMarks c.args.ex.now)
    (sym (c.loop-bar.invariant.marks ∙ ap (λ bars. marks_of_places (cantus_test c.args.ex.now)
    (2 ^ c.args.ex.now.cantus_voice ∷ []) cantus_rules (bar_lines bars)) all))
    (are_cantus_marks c.args.ex.now)
