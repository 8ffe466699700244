use Rattle.std.proofs.Common.{◌≡◌, ◌-◌, [], ◌∷◌, ◌++◌, length, true, ap, sym, ◌∙◌, arith}
use Rattle.std.specs.Prelude.{slice_index_or}
use Rattle.std.specs.List.{sum_by}
use Rattle.std.proofs.Math.Seq.{get_or-append_seam}
use Rattle.std.proofs.lemmas.List.{length-append}
use Rattle.rule_law.specs.Quiet.{is_quiet}
use Rattle.fux_judge.specs.Steps.{toll_late}
use Rattle.fux_judge.proofs.LateLemmas.{as_far, other_late_are}
use Rattle.fux_judge.proofs.QuietTolls.{pattern_alone}
use Rattle.fux_judge.proofs.late_tolls.late_charges.Goals as goal

pub returns-then-is_quiet-clause-value : goal.returns-then-is_quiet-clause-value
returns-then-is_quiet-clause-value c = λ p col come.
    let ex = c.args.ex.now in
    let i = c.args.next.now.newest.len - 1 in
    let here : i ≡ length p = as_far ex c.args.next.now p col come in
    let newest : c.at.result.now ≡ col =
    c.at.ensures (p ++ col ∷ []) come.reached.newest (omega (arith, length-append p (col ∷ []), here))
    ∙ ap (λ n. slice_index_or (p ++ col ∷ []) n []) here
    ∙ get_or-append_seam p col [] [] in
    let quiet : is_quiet (length p) col ≡ true =
    sym (ap (λ n. is_quiet n col) here) ∙ sym (ap (is_quiet i) newest)
    ∙ sym c.is_quiet.ensures ∙ c.if-is_quiet.true in
    c.charges_of.ensures.value p col come
    ∙ pattern_alone ex c.requires.valid.cantus_there c.args.sheet.now p col come.on quiet

pub returns-clause-value : goal.returns-clause-value
returns-clause-value c = λ p col come.
    omega (
      arith,
      ap (sum_by (toll_late c.args.ex.now c.args.sheet.now p col)) other_late_are,
      c.charges_of-2.ensures.value p col come,
      c.charges_of-3.ensures.value p col come,
      c.charges_of-4.ensures.value p col come,
      c.weighed_charges_of.ensures.value p col come,
    )
