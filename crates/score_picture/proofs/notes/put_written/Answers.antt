use Rattle.std.proofs.Common.{◌-◌, ◌++◌, ap, ◌∙◌, string_bytes}
use Rattle.sheet_layout.specs.Spacing.{slot_x}
use Rattle.score_picture.specs.NoteRows.{drawn, note_place, shown, spot_of}
use Rattle.score_picture.proofs.notes.put_written.Goals as goal

pub returns : goal.returns
returns c =
    let ex = c.args.marked.now.ex.now in
    let marks = c.args.marked.now.marks.now in
    let bar = c.args.bar.now in
    let all = bar.all.now in
    let staff = c.args.staff.now in
    let notes = c.args.notes.now in
    let note = c.args.note.now in
    let x = c.rules_x-x.result in
    let y = c.rules_y-y.result in
    let spot = c.spot_of-spot.result in
    let place = note_place bar.place bar.tie_end staff in
    let there = spot_of staff bar.bar note in
    c.in_ok-put_shown.ensures
    ∙ ap (λ text. string_bytes c.args.out.now ++ text)
    (ap (λ shapes. shown marks shapes x y spot) (c.deref.ensures.value ∙ c.in_ok-shapes.ensures)
    ∙ ap (λ other. shown marks (drawn ex all notes other spot) x y spot) c.note_place-place.ensures
    ∙ ap (λ other. shown marks (drawn ex all notes place other) x y other) c.spot_of-spot.ensures
    ∙ ap (λ at. shown marks (drawn ex all notes place there) at y there) c.rules_x-x.ensures
    ∙ ap (λ at. shown marks (drawn ex all notes place there) (slot_x all note.slot - 7) at there) c.rules_y-y.ensures)
