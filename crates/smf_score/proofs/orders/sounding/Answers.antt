use Rattle.std.proofs.Common.{ℕ, [], sym, ap, ◌∙◌}
use Rattle.std.specs.Prelude.{slice_index_or}
use Rattle.smf_score.specs.Orders.{sounds}
use Rattle.smf_score.proofs.OrdersLemmas.{filter_more}
use Rattle.smf_score.proofs.orders.sounding.Goals as goal

pub loop-v-preserved : goal.loop-v-preserved
loop-v-preserved c =
    let cantus = c.args.cantus.now in
    let here = λ (v : ℕ). sounds cantus (slice_index_or c.args.voices.now v []) in
    rw c.in_ok-push_if.ensures
    (rw (c.loop-v.invariant, c.sounds-is_here.ensures ∙ ap (sounds cantus) c.voice_at.ensures)
    (sym (filter_more here c.loop-v.v)))
