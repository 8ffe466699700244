use Rattle.std.proofs.Common.{◌≡◌, ◌++◌, ◌∷◌, [], take, ap, sym, ◌∙◌, IsOk, arith}
use Rattle.std.proofs.lemmas.List.Elements.{same_from_all_zip}
use Rattle.species_space.specs.Paths.{prefix_at, alive_parts}
use Rattle.species_space.proofs.PathSteps.{number_in_menu, one_more_column}
use Rattle.species_space.proofs.ScoreSteps.{chosen_column, column_fits}
use Rattle.species_space.proofs.columns.score_of.Goals as goal

pub column-column-requires-clause-within : goal.column-column-requires-clause-within
column-column-requires-clause-within g c =
    let ex = g.S.MenuColumns.exercise c.args.space.now in
    number_in_menu ex c.args.path.now (alive_parts ex c.args.path.now c.requires).menus c.loop-i.i c.loop-i-test.true

pub loop-i-preserved : goal.loop-i-preserved
loop-i-preserved g c =
    let ex = g.S.MenuColumns.exercise c.args.space.now in
    let path = c.args.path.now in
    let i = c.loop-i.i in
    let pushed = c.in-Ok.ensures.ok in
    let copied : c.in_ok-clone.field-0.items
    ≡ c.column-column.result.now.items = same_from_all_zip _ c.column-column.result.now.items
    c.in_ok-clone.field-0.items c.in_ok-clone.ensures.cases (λ x y e. e) in
    let same = copied ∙ c.column-column.ensures in
    record {
      voices = ap (λ s. s.voices) pushed ∙ c.loop-i.invariant.voices;
      columns =
          ap (λ s. s.columns) pushed
          ∙ ap (λ cols. cols ++ c.in_ok-clone.field-0.items ∷ []) c.loop-i.invariant.columns
          ∙ ap (λ col. prefix_at ex (take i path) ++ col ∷ []) same
          ∙ sym (one_more_column ex path i c.loop-i-test.true);
    }

pub unreachable-requires : goal.unreachable-requires
unreachable-requires g c =
    let ex = g.S.MenuColumns.exercise c.args.space.now in
    let path = c.args.path.now in
    let fits = column_fits ex path c.requires c.loop-i.i c.loop-i-test.true in
    let copied : c.in_ok-clone.field-0.items
    ≡ c.column-column.result.now.items = same_from_all_zip _ c.column-column.result.now.items
    c.in_ok-clone.field-0.items c.in_ok-clone.ensures.cases (λ x y e. e) in
    let same : c.in_ok-clone.field-0.items ≡ chosen_column ex path c.loop-i.i = copied ∙ c.column-column.ensures in
    let taken : IsOk c.push.result = c.push.ensures.taken
    (rw c.loop-i.invariant.columns (omega (arith, fits.room, c.voices.ensures.short)))
    (rw (same, c.loop-i.invariant.voices) fits.full) (rw (same, c.loop-i.invariant.columns) fits.follows) in
    cc (rw c.in_default.is at taken)
