use Rattle.std.proofs.Common.{◌≡◌, List, ap, ◌∙◌, subst}
use Rattle.std.specs.Prelude.{IfOk}
use Rattle.cert_check.specs.Listings.{Listing, listing_for}
use Rattle.cert_check.proofs.TruthLemmas.{found_of}
use Rattle.cert_law.specs.Entries.{IsTrueEntry, entry_count}
use Rattle.cert_text.specs.declared.potential.Potential.{Potential}
use Rattle.cert_check.specs.First.{IsFirstFailing}
use Rattle.fux_grid.specs.declared.exercise.Exercise.{Exercise}
use Rattle.penalty_sheet.specs.declared.sheet.Sheet.{Sheet}
use Rattle.cert_check.proofs.entries.Entries.first_false.Goals as goal

pub returns : goal.returns
returns g c =
    let it = c.args.self.now in
    let board = c.board-2.result in
    let same : c.new-trial.result ≡ it = c.new-trial.ensures
    ∙ ap (λ (x : Exercise). listing_for x board.sheet.now board.stated.now) c.board-2.ensures.exercise
    ∙ ap (λ (s : Sheet). listing_for it.exercise s board.stated.now) c.board-2.ensures.sheet
    ∙ ap (λ (e : List Potential). listing_for it.exercise it.sheet e) c.board-2.ensures.stated in
    found_of it c.first_failing.result c.requires
    (subst (λ (t : Listing). IfOk c.first_failing.result
    (IsFirstFailing (IsTrueEntry t.exercise t.sheet t.entries) (entry_count t.exercise)))
    same c.first_failing.ensures)
