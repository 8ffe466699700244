use Rattle.std.proofs.Common.{◌≡◌, ◌<◌, ◌++◌, ◌∷◌, [], List, length, slice_index_or, ap, sym, ◌∙◌, subst}
use Rattle.cert_law.specs.Bases.{tail_by}
use Rattle.cert_law.specs.Cases.{matter_of}
use Rattle.cert_law.specs.Known.{column_after}
use Rattle.cert_law.specs.Prefixes.{IsJudged}
use Rattle.cert_law.proofs.KnownLemmas.{tail_moved}
use Rattle.fux_grid.specs.declared.cell.Cell.{Cell}
use Rattle.fux_grid.specs.declared.exercise.Exercise.{Exercise}
use Rattle.fux_grid.specs.Exercises.{columns_in}
use Rattle.fux_grid.specs.Menus.{menu_of}
use Rattle.fux_grid.proofs.MenuLemmas.{menu_of-full}
use Rattle.rule_law.specs.Prefixes.{GoesOn}
use Rattle.cert_law.proofs.tailed.known_after.Goals as goal

pub after-requires-clause-room : goal.after-requires-clause-room
after-requires-clause-room g c =
    subst (λ (ex : Exercise). c.args.known.now.judged.state.newest.len < columns_in ex) c.requires.tails.exercise
    c.requires.room

pub after-requires-clause-full : goal.after-requires-clause-full
after-requires-clause-full g c =
    let there = (g.T.Tails.basis c.args.tails.now).exercise in
    ap length c.column.ensures
    ∙ menu_of-full there c.args.known.now.judged.state.newest.len c.args.number [] c.requires.within
    ∙ ap (λ (ex : Exercise). ex.voices) c.requires.tails.exercise

pub returns : goal.returns
returns g c = λ p is on.
    let t = matter_of c.args.case.now in
    let basis = g.T.Tails.basis c.args.tails.now in
    let i = c.args.known.now.judged.state.newest.len in
    let k = c.args.number in
    let n : i ≡ length p = is.judged.state.newest.count in
    let number : slice_index_or (menu_of basis.exercise i) k [] ≡ column_after t.exercise p k =
    ap (λ (ex : Exercise). slice_index_or (menu_of ex i) k []) c.requires.tails.exercise
    ∙ ap (λ j. slice_index_or (menu_of t.exercise j) k []) n
    in
    let col : c.column.result.now.items ≡ column_after t.exercise p k = c.column.ensures ∙ number in
    record {
      judged =
          subst (λ (d : List Cell). IsJudged t (p ++ d ∷ []) c.after.result) col
          (c.after.ensures p is.judged (subst (λ (d : List Cell). GoesOn t.exercise p (d ∷ [])) (sym col) on));
      tail =
          tail_moved t basis (p ++ column_after t.exercise p k ∷ []) c.behind.result c.requires.tails
          (c.behind.ensures p (sym n) ∙ ap (λ d. tail_by basis (p ++ d ∷ [])) number);
      voices = c.none.ensures t.exercise c.after.result.state;
    }
