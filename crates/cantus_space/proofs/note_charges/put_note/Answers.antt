use Rattle.std.proofs.Common.{◌≡◌, ◌++◌, OnOk, ap, subst, ◌∙◌}
use Rattle.melody_rules.specs.Rows.{pitches}
use Rattle.cantus_space.specs.Nodes.{started}
use Rattle.cantus_space.specs.Charges.{move_charges, open_charge, price_charges}
use Rattle.cantus_space.proofs.BillLemmas.{joined_three, note_by}
use Rattle.cantus_space.proofs.note_charges.put_note.Goals as goal

pub returns : goal.returns
returns c = λ behind kept more.
    let sheet = c.args.plan.now.sheet in
    let prices = c.args.plan.now.prices in
    let node = c.args.node.now in
    let next = c.args.next.now in
    let p = c.args.pitch in
    let old = c.args.charges.now.items in
    subst (λ items. OnOk c.put_prices.result (c.put_prices.new.charges.items ≡ items))
    (joined_three old (move_charges sheet next.len node.notes.last p)
    (open_charge sheet next.len (pitches (started behind)) p)
    (price_charges prices next.len next.moves node.notes.before node.notes.last p) c.put_moves.new.charges.items
    c.put_open.new.charges.items c.in_ok-put_moves.ensures (c.in_ok-put_open.ensures (started behind) kept.notes)
    ∙ ap (λ items. old ++ items) (note_by sheet prices behind node kept p next more))
    c.put_prices.ensures
