use Rattle.std.proofs.Common.{◌≡◌, ◌++◌, ◌∷◌, [], List, true, sym, ◌∙◌, subst}
use Rattle.std.proofs.lemmas.Bool.{OnTrue_at, OnTrue_from}
use Rattle.cert_law.specs.Cases.{matter_of}
use Rattle.cert_law.specs.Claims.{has_break_of}
use Rattle.cert_law.specs.Known.{column_after, tailed_of, tree_in}
use Rattle.cert_law.proofs.KnownLemmas.{step_column, step_goes_on, step_place, step_room, step_within, voices_kept}
use Rattle.cert_law.proofs.SoonLemmas.{broken_more}
use Rattle.cert_text.specs.declared.claim.Claim.{Claim}
use Rattle.fux_grid.specs.declared.cell.Cell.{Cell}
use Rattle.rule_law.specs.Prefixes.{GoesOn}
use Rattle.cert_law.proofs.tailed.is_voice_told.Goals as goal

pub column-column-requires-clause-place : goal.column-column-requires-clause-place
column-column-requires-clause-place g c =
    let basis = g.T.Tails.basis c.args.tails.now in
    step_place (tailed_of (matter_of c.args.case.now) basis) basis c.args.known.now c.args.number c.requires.case
    c.requires.tails c.requires.step

pub column-column-requires-clause-within : goal.column-column-requires-clause-within
column-column-requires-clause-within g c =
    let basis = g.T.Tails.basis c.args.tails.now in
    step_within (tailed_of (matter_of c.args.case.now) basis) basis c.args.known.now c.args.number c.requires.case
    c.requires.tails c.requires.step

pub is_broken_by_voice-requires : goal.is_broken_by_voice-requires
is_broken_by_voice-requires g c =
    let basis = g.T.Tails.basis c.args.tails.now in
    record {
      valid = c.requires.case.valid;
      room = step_room (tailed_of (matter_of c.args.case.now) basis) basis c.args.known.now c.args.number
          c.requires.case c.requires.tails c.requires.step;
      voices = c.requires.step.is_open.is_of.voices;
    }

pub returns-clause-told : goal.returns-clause-told
returns-clause-told g c = OnTrue_from c.is_broken_by_voice.result _ (λ h. λ p is at.
    let basis = g.T.Tails.basis c.args.tails.now in
    let t = tailed_of (matter_of c.args.case.now) basis in
    let known = c.args.known.now in
    let k = c.args.number in
    let now : List Cell = c.column-column.result.now.items in
    let col : now ≡ column_after t.case.exercise p k =
    c.column-column.ensures ∙ step_column t basis known k c.requires.case c.requires.tails c.requires.step p is in
    let on = step_goes_on t basis known k c.requires.case c.requires.tails c.requires.step p is at in
    let told = OnTrue_at h c.is_broken_by_voice.ensures.broken p is.judged.state
    (subst (λ (d : List Cell). GoesOn t.case.exercise p (d ∷ [])) (sym col) on) in
    subst (λ (claim : Claim). (tree_in t).IsTrueOf (p ++ column_after t.case.exercise p k ∷ []) claim)
    (sym c.in-Broken.is)
    (subst (λ (d : List Cell). has_break_of t.case.exercise (p ++ d ∷ []) c.in-Broken.rule ≡ true) col
    (broken_more t.case.exercise p now c.in-Broken.rule told)))

pub returns-clause-kept : goal.returns-clause-kept
returns-clause-kept g c =
    let basis = g.T.Tails.basis c.args.tails.now in
    voices_kept (tailed_of (matter_of c.args.case.now) basis) c.args.known.now c.is_broken_by_voice.new.voices
    c.is_broken_by_voice.ensures.voices
