use Rattle.std.proofs.Common.{◌≡◌, ◌++◌, ◌∷◌, [], IsTrue, List, length, slice_index_or, refl, ap, sym, ◌∙◌, subst}
use Rattle.std.specs.Prelude.{◌↔◌}
use Rattle.std.proofs.lemmas.Bool.{OnTrue_at}
use Rattle.cert_law.specs.Alone.{IsAlone}
use Rattle.cert_law.specs.Cases.{matter_of}
use Rattle.cert_law.specs.Known.{column_after, tailed_of, tree_in}
use Rattle.cert_law.proofs.KnownLemmas.{step_column, step_full, step_goes_on, step_place, step_room, step_within}
use Rattle.cert_text.specs.declared.claim.Claim.{Claim}
use Rattle.fux_grid.specs.declared.cell.Cell.{Cell}
use Rattle.fux_grid.specs.declared.exercise.Exercise.{Exercise}
use Rattle.fux_grid.specs.Menus.{menu_of}
use Rattle.rule_law.specs.Prefixes.{GoesOn}
use Rattle.cert_law.proofs.tailed.judge_with.Goals as goal

pub column-column-requires-clause-place : goal.column-column-requires-clause-place
column-column-requires-clause-place g c =
    let basis = g.T.Tails.basis c.args.tails.now in
    step_place (tailed_of (matter_of c.args.case.now) basis) basis c.args.known.now c.args.number c.requires.case
    c.requires.tails c.requires.step

pub column-column-requires-clause-within : goal.column-column-requires-clause-within
column-column-requires-clause-within g c =
    let basis = g.T.Tails.basis c.args.tails.now in
    step_within (tailed_of (matter_of c.args.case.now) basis) basis c.args.known.now c.args.number c.requires.case
    c.requires.tails c.requires.step

pub alone-alone-requires-clause-place : goal.alone-alone-requires-clause-place
alone-alone-requires-clause-place g c =
    let basis = g.T.Tails.basis c.args.tails.now in
    step_place (tailed_of (matter_of c.args.case.now) basis) basis c.args.known.now c.args.number c.requires.case
    c.requires.tails c.requires.step

pub alone-alone-requires-clause-within : goal.alone-alone-requires-clause-within
alone-alone-requires-clause-within g c =
    let basis = g.T.Tails.basis c.args.tails.now in
    step_within (tailed_of (matter_of c.args.case.now) basis) basis c.args.known.now c.args.number c.requires.case
    c.requires.tails c.requires.step

pub is_break_told-requires-clause-alone : goal.is_break_told-requires-clause-alone
is_break_told-requires-clause-alone g c =
    let basis = g.T.Tails.basis c.args.tails.now in
    let i = c.args.known.now.judged.state.newest.len in
    let alone = c.alone-alone.result in
    subst (λ (col : List Cell). IsAlone c.args.case.now.exercise.now i col alone) (sym c.column-column.ensures)
    (subst (λ (ex : Exercise). IsAlone ex i (slice_index_or (menu_of basis.exercise i) c.args.number []) alone)
    c.requires.tails.exercise c.alone-alone.ensures)

pub is_break_told-requires-clause-room : goal.is_break_told-requires-clause-room
is_break_told-requires-clause-room g c =
    let basis = g.T.Tails.basis c.args.tails.now in
    step_room (tailed_of (matter_of c.args.case.now) basis) basis c.args.known.now c.args.number c.requires.case
    c.requires.tails c.requires.step

pub is_break_told-requires-clause-full : goal.is_break_told-requires-clause-full
is_break_told-requires-clause-full g c =
    let basis = g.T.Tails.basis c.args.tails.now in
    ap length c.column-column.ensures
    ∙ step_full (tailed_of (matter_of c.args.case.now) basis) basis c.args.known.now c.args.number c.requires.case
    c.requires.tails c.requires.step

pub returns-in-NoChain-clause-told : goal.returns-in-NoChain-clause-told
returns-in-NoChain-clause-told g c = λ p is at.
    let basis = g.T.Tails.basis c.args.tails.now in
    let t = tailed_of (matter_of c.args.case.now) basis in
    let k = c.args.number in
    subst (λ (claim : Claim). IsTrue c.ends_with.result ↔ (tree_in t).IsTrueOf (p ++ column_after t.case.exercise p k ∷ [])
    claim)
    (sym c.in-NoChain.is) (c.ends_with.ensures p is at)

pub returns-then-is_break_told-clause-told : goal.returns-then-is_break_told-clause-told
returns-then-is_break_told-clause-told g c = λ p is at.
    let basis = g.T.Tails.basis c.args.tails.now in
    let t = tailed_of (matter_of c.args.case.now) basis in
    let known = c.args.known.now in
    let k = c.args.number in
    let col : c.column-column.result.now.items ≡ column_after t.case.exercise p k =
    c.column-column.ensures ∙ step_column t basis known k c.requires.case c.requires.tails c.requires.step p is in
    let on = step_goes_on t basis known k c.requires.case c.requires.tails c.requires.step p is at in
    let told = OnTrue_at c.if-is_break_told.true c.is_break_told.ensures t.stated p is.judged
    (subst (λ (d : List Cell). GoesOn t.case.exercise p (d ∷ [])) (sym col) on)
    in
    (λ _. subst (λ (d : List Cell). (tree_in t).IsTrueOf (p ++ d ∷ []) c.args.claim) col told, λ _. refl)
