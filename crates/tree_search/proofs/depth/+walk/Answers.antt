use Rattle.std.proofs.Common.{ℕ, ◌≡◌, ◌+◌, ◌-◌, ◌<◌, ◌≤◌, ◌^◌, ◌++◌, ◌∷◌, [], take, set, length, length-append, refl, sym, ap, subst, ◌∙◌, arith, rules}
use Rattle.std.proofs.lemmas.Bool.{OnTrue_at, OnTrue_from, OnFalse_at, OnFalse_from}
use Rattle.std.proofs.lemmas.List.{take_more_set, take_at, take-take, take_all, length-take-le, length-set}
use Rattle.tree_search.specs.Answer.{Many}
use Rattle.tree_search.specs.Walks.{IsOpenedBelow, HasOpened}
use Rattle.tree_search.proofs.Floors.{best_first, best_passed, best_dead, best_up, best_pruned, best_leaf_at}
use Rattle.tree_search.proofs.Counts.{Exactly-none}
use Rattle.tree_search.proofs.Opened.{many_more, many_wider, many_itself, many_from, opened_child, none_dead, none_pruned, exactly_more, exactly_leaf, exactly_passed, exactly_from}
use Rattle.tree_search.proofs.depth.+walk.Goals as goal

pub descend-loop-from-init : goal.descend-loop-from-init
descend-loop-from-init g t c =
    let space = g.S.Space in
    let walk = c.args.walk.now in
    let path = take c.args.level walk.path.items in
    let short : length path < space.height c.args.space.now = omega (
      arith,
      length-take-le c.args.level walk.path.items (omega (arith, c.requires.lengths.0, c.requires.above)),
      c.requires.above,
    ) in
    record {
      within = omega arith;
      same_path = refl;
      lengths = c.requires.lengths;
      best = best_first (g.met.S.Space.floors_grow c.args.space.now) path walk.best walk.best_path.items short
          c.requires.best;
      told = λ j e. absurd (omega (arith, e));
      opened = (omega arith, Exactly-none _ _ (omega arith) (λ x it. absurd (omega (arith, it.1.1))));
    }

pub descend-returns-then-k-count-clause-best : goal.descend-returns-then-k-count-clause-best
descend-returns-then-k-count-clause-best g t c =
    let width = c.count-count.ensures.value _ c.requires.node in
    let skipped = c.next_child-k.ensures.passed _ c.requires.node in
    best_passed (g.met.S.Space.floors_grow c.args.space.now) _ c.loop-from.from _ _ _
    (omega (arith, width, c.loop-from.invariant.within))
    (λ child floor low high. skipped child floor low (omega (arith, high, width, c.if-k-count.true)))
    c.loop-from.invariant.best

pub descend-returns-then-k-count-clause-opened : goal.descend-returns-then-k-count-clause-opened
descend-returns-then-k-count-clause-opened g t c =
    let width = c.count-count.ensures.value _ c.requires.node in
    let skipped = c.next_child-k.ensures.passed _ c.requires.node in (
      c.loop-from.invariant.opened.0,
      exactly_passed (g.met.S.Space.floors_grow c.args.space.now) _ c.loop-from.from _ _ _ _ _
          (omega (arith, width, c.loop-from.invariant.within)) refl
          (λ child floor low high. skipped child floor low (omega (arith, high, width, c.if-k-count.true)))
          c.loop-from.invariant.best c.loop-from.invariant.opened.1,
    )

pub descend-enter-requires : goal.descend-enter-requires
descend-enter-requires g t c =
    let same = c.loop-from.invariant.same_path in
    let here = rw (← same) at c.requires.node in
    let skipped = c.next_child-k.ensures.passed _ c.requires.node in
    let walk = c.loop-from.walk in
    let past = best_passed (g.met.S.Space.floors_grow c.args.space.now) (take c.args.level c.args.walk.now.path.items) _
    _ walk.best walk.best_path.items c.next_child-k.ensures.onward skipped c.loop-from.invariant.best in
    let best = rw (← same) at past in
    let lengths = c.loop-from.invariant.lengths in
    let width = c.count-count.ensures.value _ here in
    let within : c.next_child-k.result < g.S.Space.width c.args.space.now
    (take c.args.level c.loop-from.walk.path.items) = omega (arith, width) in
    let small : c.next_child-k.result < 2 ^ 16 = omega arith in
    let told = c.next_child-k.ensures.told _ c.requires.node
    (omega (arith, c.count-count.ensures.value _ c.requires.node, c.if-k-count.false)) in
    search rules

pub descend-returns-then-not-enter-clause-spent : goal.descend-returns-then-not-enter-clause-spent
descend-returns-then-not-enter-clause-spent g t c =
    let kept = c.loop-from.invariant in
    let live = g.S.Space.live c.args.space.now in
    let height = g.S.Space.height c.args.space.now in
    let path = take c.args.level c.args.walk.now.path.items in
    let skipped = c.next_child-k.ensures.passed _ c.requires.node in
    let before = exactly_passed (g.met.S.Space.floors_grow c.args.space.now) path _ _ _ _ _ _
    c.next_child-k.ensures.onward refl skipped kept.best kept.opened.1 in
    let more = rw kept.same_path at c.if-not-enter.ensures.spent in
    let width = c.count-count.ensures.value _ c.requires.node in
    many_wider live height path (c.next_child-k.result + 1) _ (c.args.walk.now.left + 1) _
    (omega (arith, width, c.if-k-count.false)) refl
    (many_more live height path c.next_child-k.result _ _ _ (omega (arith, kept.opened.0)) before.many more)

pub descend-loop-from-preserved : goal.descend-loop-from-preserved
descend-loop-from-preserved g t c =
    let kept = c.loop-from.invariant in
    let path = take c.args.level c.args.walk.now.path.items in
    let skipped = c.next_child-k.ensures.passed _ c.requires.node in
    let before = exactly_passed (g.met.S.Space.floors_grow c.args.space.now) path _ _ _ _ _ _
    c.next_child-k.ensures.onward refl skipped kept.best kept.opened.1 in
    let more = rw kept.same_path at c.if-not-enter.ensures.opened.1 in
    record {
      within = omega (arith, c.if-k-count.false);
      same_path = c.if-not-enter.ensures.path ∙ kept.same_path;
      lengths = c.if-not-enter.ensures.lengths;
      best = rw kept.same_path at c.if-not-enter.ensures.best;
      told = λ j e.
          let same : c.next_child-k.result ≡ j = omega (arith, e) in
          subst (λ (n : ℕ). g.S.Space.is_told c.args.space.now c.args.node.now n) same
          (c.next_child-k.ensures.told _ c.requires.node
          (omega (arith, c.count-count.ensures.value _ c.requires.node, c.if-k-count.false)));
      opened = (
        omega (arith, kept.opened.0, c.if-not-enter.ensures.opened.0),
        exactly_more (g.S.Space.live c.args.space.now) (g.S.Space.height c.args.space.now) path c.next_child-k.result _
            _ _
            (omega (arith, kept.opened.0, c.if-not-enter.ensures.opened.0)) before more,
      );
    }

pub descend-returns-clause-opened : goal.descend-returns-clause-opened
descend-returns-clause-opened g t c =
    let width = c.count-count.ensures.value _ c.requires.node in
    let all : c.loop-from.from ≡ g.S.Space.width c.args.space.now (take c.args.level c.args.walk.now.path.items) =
    omega (arith, width, c.loop-from.invariant.within, c.loop-from-test.false) in
    rw all at c.loop-from.invariant.opened

pub enter-returns-in_default-clause-best : goal.enter-returns-in_default-clause-best
enter-returns-in_default-clause-best g t c =
    best_dead (g.met.S.Space.floors_grow c.args.space.now) (take c.args.level c.args.walk.now.path.items) c.args.k _ _
    (c.in_default.ensures _ c.requires.node) c.requires.best

pub enter-returns-in_default-clause-opened : goal.enter-returns-in_default-clause-opened
enter-returns-in_default-clause-opened g t c = (
  omega arith,
  none_dead (g.met.S.Space.floors_grow c.args.space.now) _ _ (omega arith)
      (c.in_default.ensures _ c.requires.node),
)

pub enter-returns-then-is_no_better-clause-best : goal.enter-returns-then-is_no_better-clause-best
enter-returns-then-is_no_better-clause-best g t c =
    best_pruned (g.met.S.Space.floors_grow c.args.space.now) (take c.args.level c.args.walk.now.path.items) c.args.k _ _
    _
    (c.in-Some.ensures _ c.requires.node).1 c.if-is_no_better.ensures.worse c.requires.best

pub enter-returns-then-is_no_better-clause-opened : goal.enter-returns-then-is_no_better-clause-opened
enter-returns-then-is_no_better-clause-opened g t c = (
  omega arith,
  none_pruned (g.met.S.Space.floors_grow c.args.space.now) _ _ _ _ _ (omega arith)
      (c.in-Some.ensures _ c.requires.node).1 c.if-is_no_better.ensures.worse
      c.requires.best,
)

pub enter-returns-then-walk-eq0-clause-spent : goal.enter-returns-then-walk-eq0-clause-spent
enter-returns-then-walk-eq0-clause-spent g t c =
    let is = opened_child (g.met.S.Space.floors_grow c.args.space.now) (take c.args.level c.args.walk.now.path.items)
    c.args.k _ _ _
    (c.in-Some.ensures _ c.requires.node).1 c.if-is_no_better.ensures.better c.requires.best in
    many_itself _ _ _ _ (omega (arith, c.if-walk-eq0.true)) is

pub enter-returns-then-level-len-clause-path : goal.enter-returns-then-level-len-clause-path
enter-returns-then-level-len-clause-path g t c =
    let level = c.args.level in
    let path = c.args.walk.now.path.items in
    let within : level < length path = omega (arith, c.requires.lengths.0, c.requires.above) in
    let spot = take_more_set path level c.args.k within in
    sym (take-take level (level + 1) c.descend.new.walk.path.items (omega arith))
    ∙ ap (take level) (c.descend.ensures.path ∙ spot)
    ∙ take_at (take level path) (c.args.k ∷ []) level (length-take-le level path (omega arith))

pub enter-returns-then-level-len-clause-best : goal.enter-returns-then-level-len-clause-best
enter-returns-then-level-len-clause-best g t c =
    let space = g.S.Space in
    let level = c.args.level in
    let path = c.args.walk.now.path.items in
    let within : level < length path = omega (arith, c.requires.lengths.0, c.requires.above) in
    let start = take level path in
    let spot = take_more_set path level c.args.k within in
    let short : length (start ++ c.args.k ∷ []) < space.height c.args.space.now =
    omega (
      arith,
      length-append start (c.args.k ∷ []),
      length-take-le level path (omega arith),
      c.requires.lengths.0,
      c.len.ensures,
      c.if-level-len.true,
    ) in
    let after = rw spot at c.descend.ensures.best in
    OnTrue_from c.descend.result _ (λ yes.
    best_up (g.met.S.Space.floors_grow c.args.space.now) start c.args.k c.descend.new.walk.best
    c.descend.new.walk.best_path.items short
    (OnTrue_at yes after))

pub enter-returns-then-level-len-clause-opened : goal.enter-returns-then-level-len-clause-opened
enter-returns-then-level-len-clause-opened g t c =
    let space = g.S.Space in
    let level = c.args.level in
    let path = c.args.walk.now.path.items in
    let within : level < length path = omega (arith, c.requires.lengths.0, c.requires.above) in
    let start = take level path in
    let live = space.live c.args.space.now in
    let height = space.height c.args.space.now in
    let child = start ++ c.args.k ∷ [] in
    let spot = take_more_set path level c.args.k within in
    let after = rw spot at c.descend.ensures.opened in
    let grows = g.met.S.Space.floors_grow c.args.space.now in
    let is = opened_child grows start c.args.k _ _ _ (c.in-Some.ensures _ c.requires.node).1
    c.if-is_no_better.ensures.better c.requires.best in
    OnTrue_from c.descend.result _ (λ yes.
    let h = OnTrue_at {P = HasOpened (IsOpenedBelow live height child (space.width c.args.space.now child))
    (c.args.walk.now.left - 1) c.descend.new.walk.left} yes after in (
      omega (arith, h.0, c.if-walk-eq0.false),
      exactly_from grows child _ _ (omega (arith, h.0, c.if-walk-eq0.false)) is h.1,
    ))

pub enter-returns-then-level-len-clause-spent : goal.enter-returns-then-level-len-clause-spent
enter-returns-then-level-len-clause-spent g t c =
    let space = g.S.Space in
    let level = c.args.level in
    let path = c.args.walk.now.path.items in
    let within : level < length path = omega (arith, c.requires.lengths.0, c.requires.above) in
    let start = take level path in
    let live = space.live c.args.space.now in
    let height = space.height c.args.space.now in
    let child = start ++ c.args.k ∷ [] in
    let spot = take_more_set path level c.args.k within in
    let after = rw spot at c.descend.ensures.spent in
    let grows = g.met.S.Space.floors_grow c.args.space.now in
    let is = opened_child grows start c.args.k _ _ _ (c.in-Some.ensures _ c.requires.node).1
    c.if-is_no_better.ensures.better c.requires.best in
    OnFalse_from c.descend.result _ (λ no.
    let h = OnFalse_at {P = Many (IsOpenedBelow live height child (space.width c.args.space.now child))
    (c.args.walk.now.left - 1 + 1)} no after in
    many_from live height child (space.width c.args.space.now child) _ _ (omega (arith, c.if-walk-eq0.false)) is h)

pub enter-returns-clause-best : goal.enter-returns-clause-best
enter-returns-clause-best g t c =
    let space = g.S.Space in
    let level = c.args.level in
    let path = c.args.walk.now.path.items in
    let within : level < length path = omega (arith, c.requires.lengths.0, c.requires.above) in
    let start = take level path in
    let child = start ++ c.args.k ∷ [] in
    let own = (c.in-Some.ensures _ c.requires.node).1 in
    let long : length child ≡ space.height c.args.space.now =
    omega (
      arith,
      length-append start (c.args.k ∷ []),
      length-take-le level path (omega arith),
      c.requires.lengths.0,
      c.len.ensures,
      c.if-level-len.false,
    ) in
    let full : length (set path level c.args.k) ≤ level + 1 = omega
    (arith, length-set path level c.args.k, c.len.ensures, c.if-level-len.false, c.args.walk.now.path.ok.0) in
    let copied = c.copy_from_slice.ensures.items ∙ c.deref.ensures.value
    ∙ sym (take_all (level + 1) (set path level c.args.k) full) ∙ take_more_set path level c.args.k within in
    best_leaf_at (g.met.S.Space.floors_grow c.args.space.now) start c.args.k _ _ _ _ copied long own
    c.if-is_no_better.ensures.better c.requires.best

pub enter-returns-clause-opened : goal.enter-returns-clause-opened
enter-returns-clause-opened g t c =
    let level = c.args.level in
    let path = c.args.walk.now.path.items in
    let within : level < length path = omega (arith, c.requires.lengths.0, c.requires.above) in
    let start = take level path in
    let long : length (start ++ c.args.k ∷ []) ≡ g.S.Space.height c.args.space.now =
    omega (
      arith,
      length-append start (c.args.k ∷ []),
      length-take-le level path (omega arith),
      c.requires.lengths.0,
      c.len.ensures,
      c.if-level-len.false,
    ) in
    let grows = g.met.S.Space.floors_grow c.args.space.now in
    let is = opened_child grows start c.args.k _ _ _ (c.in-Some.ensures _ c.requires.node).1
    c.if-is_no_better.ensures.better c.requires.best in
    (omega arith, exactly_leaf grows _ _ (omega (arith, c.if-walk-eq0.false)) long is)
