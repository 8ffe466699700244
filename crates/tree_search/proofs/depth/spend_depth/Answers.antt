use Rattle.std.proofs.Common.{◌≡◌, ℕ, ◌<◌, ◌≤◌, [], Some, refl, sym, ◌∙◌, arith}
use Rattle.tree_search.proofs.Floors.{none_from, floor_from, all_seen_none, all_seen_some}
use Rattle.tree_search.proofs.Counts.{AtMost-from, no_more}
use Rattle.tree_search.proofs.Opened.{all_left, many_live, many_opened, exactly_opened, none_opened_dead, none_opened_leaf}
use Rattle.tree_search.proofs.depth.spend_depth.Goals as goal

pub returns-in_default-clause-nothing : goal.returns-in_default-clause-nothing
returns-in_default-clause-nothing g c = λ path value leaf. none_from (g.met.S.Space.floors_grow c.args.space.now) []
    path value c.in_default.ensures leaf.1 (path, refl)

pub returns-in_default-clause-opened : goal.returns-in_default-clause-opened
returns-in_default-clause-opened g c =
    let none = none_opened_dead (g.met.S.Space.floors_grow c.args.space.now) c.in_default.ensures in
    (λ h. absurd h, no_more _ 0 _ (omega arith) (AtMost-from _ 0 none))

pub returns-in_default-clause-charged : goal.returns-in_default-clause-charged
returns-in_default-clause-charged g c =
    λ _. all_left _ c.args.budget (none_opened_dead (g.met.S.Space.floors_grow c.args.space.now) c.in_default.ensures)

pub returns-then-depth-eq0-clause-opened : goal.returns-then-depth-eq0-clause-opened
returns-then-depth-eq0-clause-opened g c =
    let low : g.S.Space.height c.args.space.now ≡ 0 = omega (arith, c.depth-depth.ensures.value, c.if-depth-eq0.true) in
    let none = none_opened_leaf (g.met.S.Space.floors_grow c.args.space.now) low in
    (λ h. absurd h, no_more _ 0 _ (omega arith) (AtMost-from _ 0 none))

pub returns-then-depth-eq0-clause-charged : goal.returns-then-depth-eq0-clause-charged
returns-then-depth-eq0-clause-charged g c =
    let low : g.S.Space.height c.args.space.now ≡ 0 = omega (arith, c.depth-depth.ensures.value, c.if-depth-eq0.true) in
    λ _. all_left _ c.args.budget (none_opened_leaf (g.met.S.Space.floors_grow c.args.space.now) low)

pub returns-then-not-descend-clause-spent : goal.returns-then-not-descend-clause-spent
returns-then-not-descend-clause-spent g c = many_live _ _ _ _ c.if-not-descend.ensures.spent

pub returns-then-not-descend-clause-bound : goal.returns-then-not-descend-clause-bound
returns-then-not-descend-clause-bound g c = λ path value leaf. floor_from (g.met.S.Space.floors_grow c.args.space.now)
    [] path _ value c.in-Some.ensures.1 leaf.1 (path, refl)

pub returns-then-not-descend-clause-floor : goal.returns-then-not-descend-clause-floor
returns-then-not-descend-clause-floor g c = λ floor live. no_lower _ floor (sym c.in-Some.ensures.1 ∙ live)
  where
    no_lower : (a b : ℕ) → Some a ≡ Some b → b ≤ a
    no_lower a b e = let same : a ≡ b = cc in omega (arith, same)

pub returns-then-not-descend-clause-enough : goal.returns-then-not-descend-clause-enough
returns-then-not-descend-clause-enough g c =
    λ enough _. no_more _ c.args.budget _ (omega arith) enough (many_live _ _ _ _ c.if-not-descend.ensures.spent)

pub returns-then-not-descend-clause-opened : goal.returns-then-not-descend-clause-opened
returns-then-not-descend-clause-opened g c = (λ _. many_opened _ _ _ _ c.if-not-descend.ensures.spent, λ _. tt)

pub returns-then-not-descend-clause-charged : goal.returns-then-not-descend-clause-charged
returns-then-not-descend-clause-charged g c = λ unspent. absurd (unspent tt)

pub returns-in-None-clause-nothing : goal.returns-in-None-clause-nothing
returns-in-None-clause-nothing g c =
    let high : 0 < g.S.Space.height c.args.space.now = omega (arith, c.depth-depth.ensures.value, c.if-depth-eq0.false)
    in
    all_seen_none (g.met.S.Space.floors_grow c.args.space.now) [] high
    (rw c.in-None.is at c.if-not-descend.ensures.best)

pub returns-in-None-clause-opened : goal.returns-in-None-clause-opened
returns-in-None-clause-opened g c =
    let opened = c.if-not-descend.ensures.opened in (
      λ h. absurd h,
      no_more _ _ _ (omega (arith, opened.0))
          (AtMost-from _ _ (exactly_opened (g.met.S.Space.floors_grow c.args.space.now) _ opened.1)),
    )

pub returns-in-None-clause-charged : goal.returns-in-None-clause-charged
returns-in-None-clause-charged g c =
    let opened = c.if-not-descend.ensures.opened in
    λ _. (opened.0, exactly_opened (g.met.S.Space.floors_grow c.args.space.now) _ opened.1)

pub returns-in-None-clause-left : goal.returns-in-None-clause-left
returns-in-None-clause-left g c = c.if-not-descend.ensures.opened.0

pub returns-clause-found : goal.returns-clause-found
returns-clause-found g c =
    let high : 0 < g.S.Space.height c.args.space.now = omega (arith, c.depth-depth.ensures.value, c.if-depth-eq0.false)
    in
    rw c.new-in-Some-best.ensures (all_seen_some (g.met.S.Space.floors_grow c.args.space.now) _ _ high
    (rw c.in-Some-best.is at c.if-not-descend.ensures.best))

pub returns-clause-opened : goal.returns-clause-opened
returns-clause-opened g c =
    let opened = c.if-not-descend.ensures.opened in (
      λ h. absurd h,
      no_more _ _ _ (omega (arith, opened.0))
          (AtMost-from _ _ (exactly_opened (g.met.S.Space.floors_grow c.args.space.now) _ opened.1)),
    )

pub returns-clause-charged : goal.returns-clause-charged
returns-clause-charged g c =
    let opened = c.if-not-descend.ensures.opened in
    λ _. (opened.0, exactly_opened (g.met.S.Space.floors_grow c.args.space.now) _ opened.1)

pub returns-clause-left : goal.returns-clause-left
returns-clause-left g c = c.if-not-descend.ensures.opened.0
