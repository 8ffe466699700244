use Rattle.std.proofs.Common.{refl}
use Rattle.smf_score.proofs.PlayedLemmas.{early_none, ends_none}
use Rattle.smf_score.proofs.played.notes_of.Goals as goal

pub notes_backward-requires-clause-ends : goal.notes_backward-requires-clause-ends
notes_backward-requires-clause-ends c = rw c.deref_mut.ensures.value
    (ends_none 2048 c.in_ok-ends.ends.items refl (c.in_ok-ends.ensures.items_if_clones_equal (λ y e. e)))

pub notes_backward-requires-clause-early : goal.notes_backward-requires-clause-early
notes_backward-requires-clause-early c =
    rw c.deref_mut.ensures.value
    (early_none 2048 c.in_ok-ends.ends.items refl (c.in_ok-ends.ensures.items_if_clones_equal (λ y e. e)))
