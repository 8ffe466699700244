use Rattle.std.proofs.Common.{ℕ, rules}
use Rattle.std.proofs.lemmas.List.Sorted.{answers_always, All-permutation}
use Rattle.smf_score.specs.declared.played.Played.{Played}
use Rattle.smf_score.specs.Played.{IsPlayed}
use Rattle.smf_score.proofs.order.put_in_order.Goals as goal

pub returns-clause-order : goal.returns-clause-order
returns-clause-order c =
    let key : Played → ℕ × ℕ = λ note. (note.rank, note.start) in
    record {
      sorted = c.in_ok-sort_by_key.ensures.sorted key (answers_always _ _ _ (λ f a r g h. search rules));
      stable = c.in_ok-sort_by_key.ensures.stable key (answers_always _ _ _ (λ f a r g h. search rules));
    }

pub returns-clause-bounds : goal.returns-clause-bounds
returns-clause-bounds c =
    All-permutation IsPlayed _ _ c.in_ok-sort_by_key.ensures.permutation c.requires
