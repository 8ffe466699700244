use Rattle.std.proofs.Common.{◌≡◌, ◌++◌, ◌∷◌, [], List, length, slice_index_or, ap, sym, ◌∙◌, subst}
use Rattle.cert_law.specs.Alone.{IsAlone}
use Rattle.cert_law.specs.Cases.{matter_of}
use Rattle.cert_law.specs.Known.{column_after, own_in, tailed_of}
use Rattle.cert_law.proofs.FirstLemmas.{first_rule}
use Rattle.cert_law.proofs.KnownLemmas.{found_kept, step_column, step_full, step_goes_on, step_kept, step_place, step_room, step_within, voices_kept}
use Rattle.fux_grid.specs.declared.cell.Cell.{Cell}
use Rattle.fux_grid.specs.declared.exercise.Exercise.{Exercise}
use Rattle.fux_grid.specs.Menus.{menu_of}
use Rattle.rule_law.specs.Prefixes.{GoesOn}
use Rattle.cert_law.proofs.tailed.tell_on.Goals as goal

pub column-column-requires-clause-place : goal.column-column-requires-clause-place
column-column-requires-clause-place g c =
    let basis = g.T.Tails.basis c.args.tails.now in
    step_place (tailed_of (matter_of c.args.case.now) basis) basis c.args.known.now c.args.number c.requires.case
    c.requires.tails c.requires.step

pub column-column-requires-clause-within : goal.column-column-requires-clause-within
column-column-requires-clause-within g c =
    let basis = g.T.Tails.basis c.args.tails.now in
    step_within (tailed_of (matter_of c.args.case.now) basis) basis c.args.known.now c.args.number c.requires.case
    c.requires.tails c.requires.step

pub alone-alone-requires-clause-place : goal.alone-alone-requires-clause-place
alone-alone-requires-clause-place g c =
    let basis = g.T.Tails.basis c.args.tails.now in
    step_place (tailed_of (matter_of c.args.case.now) basis) basis c.args.known.now c.args.number c.requires.case
    c.requires.tails c.requires.step

pub alone-alone-requires-clause-within : goal.alone-alone-requires-clause-within
alone-alone-requires-clause-within g c =
    let basis = g.T.Tails.basis c.args.tails.now in
    step_within (tailed_of (matter_of c.args.case.now) basis) basis c.args.known.now c.args.number c.requires.case
    c.requires.tails c.requires.step

pub ask_voices-line-requires : goal.ask_voices-line-requires
ask_voices-line-requires g c =
    let basis = g.T.Tails.basis c.args.tails.now in
    record {
      valid = c.requires.case.valid;
      room = step_room (tailed_of (matter_of c.args.case.now) basis) basis c.args.known.now c.args.number
          c.requires.case c.requires.tails c.requires.step;
      voices = c.requires.step.is_open.is_of.voices;
    }

pub told_break-requires-clause-room : goal.told_break-requires-clause-room
told_break-requires-clause-room g c =
    let basis = g.T.Tails.basis c.args.tails.now in
    step_room (tailed_of (matter_of c.args.case.now) basis) basis c.args.known.now c.args.number c.requires.case
    c.requires.tails c.requires.step

pub told_break-requires-clause-alone : goal.told_break-requires-clause-alone
told_break-requires-clause-alone g c =
    let basis = g.T.Tails.basis c.args.tails.now in
    let i = c.args.known.now.judged.state.newest.len in
    let alone = c.alone-alone.result in
    subst (λ (col : List Cell). IsAlone c.args.case.now.exercise.now i col alone) (sym c.column-column.ensures)
    (subst (λ (ex : Exercise). IsAlone ex i (slice_index_or (menu_of basis.exercise i) c.args.number []) alone)
    c.requires.tails.exercise c.alone-alone.ensures)

pub told_break-requires-clause-full : goal.told_break-requires-clause-full
told_break-requires-clause-full g c =
    let basis = g.T.Tails.basis c.args.tails.now in
    ap length c.column-column.ensures
    ∙ step_full (tailed_of (matter_of c.args.case.now) basis) basis c.args.known.now c.args.number c.requires.case
    c.requires.tails c.requires.step

pub returns-in-Some-clause-own : goal.returns-in-Some-clause-own
returns-in-Some-clause-own g c = λ p is at.
    let basis = g.T.Tails.basis c.args.tails.now in
    let t = tailed_of (matter_of c.args.case.now) basis in
    let known = c.args.known.now in
    let k = c.args.number in
    let col : c.column-column.result.now.items ≡ column_after t.case.exercise p k =
    c.column-column.ensures ∙ step_column t basis known k c.requires.case c.requires.tails c.requires.step p is in
    let on = step_goes_on t basis known k c.requires.case c.requires.tails c.requires.step p is at in
    let told = c.in-Some.ensures p is.judged (subst (λ (d : List Cell). GoesOn t.case.exercise p (d ∷ [])) (sym col) on)
    in
    sym (ap (λ d. own_in t (p ++ d ∷ [])) (sym col)
    ∙ first_rule t.case.exercise t.case.sheet t.case.head t.stated (p ++ c.column-column.result.now.items ∷ [])
    c.in-Some.rule told.0 told.1)

pub returns-in-Some-clause-kept : goal.returns-in-Some-clause-kept
returns-in-Some-clause-kept g c =
    let t = tailed_of (matter_of c.args.case.now) (g.T.Tails.basis c.args.tails.now) in
    voices_kept t c.args.known.now c.ask_voices-line.new.voices c.ask_voices-line.ensures.voices

pub tell_whole-requires-clause-step : goal.tell_whole-requires-clause-step
tell_whole-requires-clause-step g c =
    let t = tailed_of (matter_of c.args.case.now) (g.T.Tails.basis c.args.tails.now) in
    step_kept t c.args.known.now (record c.args.known.now { voices = c.ask_voices-line.new.voices }) c.args.number
    (voices_kept t c.args.known.now c.ask_voices-line.new.voices c.ask_voices-line.ensures.voices)
    c.requires.step

pub returns-clause-own : goal.returns-clause-own
returns-clause-own g c = λ p is at.
    let t = tailed_of (matter_of c.args.case.now) (g.T.Tails.basis c.args.tails.now) in
    c.tell_whole.ensures.own p
    (voices_kept t c.args.known.now c.ask_voices-line.new.voices c.ask_voices-line.ensures.voices p is) at

pub returns-clause-found : goal.returns-clause-found
returns-clause-found g c =
    let t = tailed_of (matter_of c.args.case.now) (g.T.Tails.basis c.args.tails.now) in
    found_kept t c.args.known.now (record c.args.known.now { voices = c.ask_voices-line.new.voices }) c.args.number
    c.tell_whole.new.found
    (voices_kept t c.args.known.now c.ask_voices-line.new.voices c.ask_voices-line.ensures.voices)
    c.tell_whole.ensures.found

pub returns-clause-kept : goal.returns-clause-kept
returns-clause-kept g c =
    let t = tailed_of (matter_of c.args.case.now) (g.T.Tails.basis c.args.tails.now) in
    voices_kept t c.args.known.now c.ask_voices-line.new.voices c.ask_voices-line.ensures.voices
