use Rattle.std.proofs.Common.{◌≡◌, ◌++◌, List, refl, reverse, take, ap, arith, subst, sym, ◌∙◌}
use Rattle.fux_pitch.specs.declared.pitch.Pitch.{Pitch}
use Rattle.cantus_space.specs.declared.plan.CantusPlan.{CantusPlan}
use Rattle.cantus_space.specs.Known.{IsKnownOf}
use Rattle.cantus_space.specs.Charges.{charges_of_line, charges_of_notes, note_charges}
use Rattle.cantus_space.proofs.BillLemmas.{bill_sum, front-count, front-more, front-whole}
use Rattle.cantus_space.proofs.bill.bill_of.Goals as goal

pub put_note-requires : goal.put_note-requires
put_note-requires c =
    let cantus = c.args.cantus.now in
    let i = c.loop-i.i in
    let known = c.longer-next.ensures (reverse (take i cantus)) c.loop-i.invariant.known in
    omega (
      arith,
      known.kept.count,
      front-count cantus i (omega (arith, c.loop-i-test.true)),
      c.loop-i-test.true,
      c.requires.most,
    )

pub loop-i-preserved : goal.loop-i-preserved
loop-i-preserved c =
    let cantus = c.args.cantus.now in
    let sheet = c.args.sheet.now in
    let prices = c.args.prices.now in
    let i = c.loop-i.i in
    let p = c.index-cantus-i.result in
    let behind = reverse (take i cantus) in
    let before = c.loop-i.invariant in
    let known = c.longer-next.ensures behind before.known in
    let front = front-more cantus i p c.loop-i-test.true c.index-cantus-i.is in
    let Pays : CantusPlan → Type 0 = λ plan.
    c.put_note.new.charges.items ≡ c.loop-i.charges.items ++ note_charges plan.sheet plan.prices behind p in
    let paid = subst Pays (c.plan.ensures.value ∙ c.new-space.ensures)
    (c.in_ok-put_note.ensures behind before.known.kept known.kept) in
    record {
      known = subst (λ (ps : List Pitch). IsKnownOf c.new-space.result ps c.longer-next.result) (sym front) known;
      made =
          paid ∙ ap (λ items. items ++ note_charges sheet prices behind p) before.made
          ∙ ap (charges_of_notes sheet prices) (sym front);
    }

pub returns : goal.returns
returns c =
    let cantus = c.args.cantus.now in
    let sheet = c.args.sheet.now in
    let prices = c.args.prices.now in
    let all = front-whole cantus c.loop-i.i (omega (arith, c.loop-i-test.false)) in
    let known = subst (λ (ps : List Pitch). IsKnownOf c.new-space.result ps c.loop-i.node) all c.loop-i.invariant.known in
    let Pays : CantusPlan → Type 0 = λ plan.
    c.put_line.new.charges.items ≡ c.loop-i.charges.items ++ charges_of_line plan.sheet plan.prices (reverse cantus) in
    let paid = subst Pays (c.plan-2.ensures.value ∙ c.new-space.ensures)
    (c.in_ok-put_line.ensures (reverse cantus) known.kept) in
    record {
      charges =
          paid ∙ ap (λ items. items ++ charges_of_line sheet prices (reverse cantus))
          (c.loop-i.invariant.made ∙ ap (charges_of_notes sheet prices) all);
      penalty =
          bill_sum c.new-space.result _ cantus c.floor-penalty.result c.new-space.ensures refl
          (c.floor-penalty.ensures (reverse cantus) known);
    }

pub floor-penalty-requires : goal.floor-penalty-requires
floor-penalty-requires c =
    let cantus = c.args.cantus.now in
    let i = c.loop-i.i in
    record {
      behind = reverse (take i cantus);
      is_of = c.loop-i.invariant.known;
      few = omega (
        arith,
        front-count cantus i c.loop-i.auto.i-end,
        c.loop-i.auto.i-end,
        ap (λ (plan : CantusPlan). plan.bars) c.new-space.ensures,
        c.requires.most,
      );
    }
