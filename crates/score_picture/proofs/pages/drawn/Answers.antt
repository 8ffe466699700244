use Rattle.std.proofs.Common.{ℕ, suc, ◌-◌, ◌<◌, All, slice_index_or, ap, sym, ◌∙◌, subst, length, arith}
use Rattle.std.specs.List.{range_with_len}
use Rattle.std.proofs.lemmas.List.Elements.{All-map}
use Rattle.std.proofs.lemmas.List.FromFn.{length-map-range_with_len}
use Rattle.written_notes.specs.Lines.{line_of}
use Rattle.sheet_layout.specs.declared.system.Staff.{Staff}
use Rattle.sheet_layout.specs.Pages.{staff_of}
use Rattle.score_picture.proofs.pages.drawn.Goals as goal

pub staves-requires-clause-lines : goal.staves-requires-clause-lines
staves-requires-clause-lines c =
    let ex = c.args.ex.now in
    ap length (c.deref.ensures.value ∙ c.in_ok-lines.ensures) ∙ length-map-range_with_len (line_of ex) 0 ex.voices

pub page-requires : goal.page-requires
page-requires c =
    let ex = c.args.ex.now in
    let marks = c.marks_of.result.now in
    let lines = c.deref.result.now in
    let is_few : Staff → Type 0 = λ staff. staff.voice < 8 in
    let few : (k : ℕ) → (staff_of ex marks lines k).voice < 8 =
    λ k. let e : ex.voices - suc k < 8 = omega (arith, c.requires) in e in
    subst (All is_few) (sym (c.deref-5.ensures.value ∙ c.in_ok-staves.ensures))
    (All-map is_few (staff_of ex marks lines) (range_with_len 0 ex.voices)
    (λ k d within. few (slice_index_or (range_with_len 0 ex.voices) k d)))
