use Rattle.std.proofs.Common.{◌≡◌, ◌<◌, ◌+◌, ◌∷◌, ◌++◌, [], ℕ, length, get_or, ap, sym, ◌∙◌, arith, length-set, subst}
use Rattle.std.proofs.lemmas.List.{length-append}
use Rattle.std.proofs.lemmas.Option.{slice_get-get_or}
use Rattle.fux_grid.specs.Exercises.{IsFree}
use Rattle.fux_grid.specs.Menus.{IsInMenu}
use Rattle.fux_judge.specs.declared.ahead.LineAhead.{LineAhead}
use Rattle.fux_judge.proofs.Alive.{prefix_before}
use Rattle.fux_judge.specs.GaugeStates.{IsAheadOf}
use Rattle.fux_judge.proofs.LeastLaws.{last_in_menu}
use Rattle.rule_law.proofs.FourLemmas.{between_more}
use Rattle.fux_judge.proofs.ahead.pass_all.Goals as goal

pub loop-v-init : goal.loop-v-init
loop-v-init c = record {
  long = c.told-ahead;
  each = λ p here are valid prefix v ahead is.
      let ex = c.args.ex.now in
      let P : ℕ → Type 0 = λ n. IsAheadOf ex v n ahead in (
        λ less. absurd (omega (arith, less)),
        λ more free. subst P here (are valid (prefix_before ex p c.args.column.now prefix) v ahead free is),
      );
}

pub loop-v-preserved : goal.loop-v-preserved
loop-v-preserved c = record {
  long = length-set c.loop-v.ahead c.loop-v.v c.pass.new.ahead ∙ c.loop-v.invariant.long;
  each = λ p here are valid prefix.
      let ex = c.args.ex.now in
      let col = c.args.column.now in
      let v = c.loop-v.v in
      let ahead = c.loop-v.ahead in
      let Before : ℕ → LineAhead → Type 0 = λ w one. IsFree ex w → IsAheadOf ex w (c.args.i + 1) one in
      let From : ℕ → LineAhead → Type 0 = λ w one. IsFree ex w → IsAheadOf ex w c.args.i one in
      let M : ℕ → Type 0 = λ n. IsInMenu ex n col in
      let menu : IsInMenu ex c.args.i col = subst M here (last_in_menu ex p col prefix) in
      let before = c.loop-v.invariant.each p here are valid prefix in
      let none : LineAhead = record { starts = 0; last_high = 0; highest = 0 } in
      let old = get_or ahead v none in
      let within : v < length ahead = omega (arith, c.loop-v-test.true, valid.most_voices, c.loop-v.invariant.long) in
      between_more Before From v ahead c.pass.new.ahead within
      (λ free. c.pass.ensures col menu (sym c.cell_of-cell.ensures) free
      ((before v old (slice_get-get_or ahead v none within)).1 (omega arith) free))
      before;
}

pub returns : goal.returns
returns c = λ p here are valid prefix v ahead free is.
    let ex = c.args.ex.now in
    let col = c.args.column.now in
    let P : ℕ → Type 0 = λ n. IsAheadOf ex v n ahead in
    let size : c.args.i + 1 ≡ length (p ++ col ∷ []) = ap (λ n. n + 1) (sym here) ∙ sym (length-append p (col ∷ [])) in
    subst P size ((c.loop-v.invariant.each p here are valid prefix v ahead is).0
    (omega (arith, free.there, c.loop-v-test.false)) free)
