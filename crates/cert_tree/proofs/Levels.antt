-- Levels: what one is that was taken away (`level_parts`).
use Rattle.std.specs.Prelude.{◌≡◌, ℕ, ◌+◌, ◌-◌, ◌<◌, Bool, List, [], ◌∷◌, ◌++◌, Option, length, reverse, slice_index_or, slice_set, refl, if◌then◌else◌}
use Rattle.std.proofs.Common.{arith, ap, sym, ◌∙◌, subst}
use Rattle.std.proofs.lemmas.List.{length-append, length-reverse, reverse-append}
use Rattle.cert_tree.specs.Trees.{Tree, owed_by}
use Rattle.cert_tree.specs.Walks.{AreLevels, AreWays, IsLevel, IsOpen, Ways, node_at, owed_at, owed_later, steps_of}
use Rattle.cert_tree.specs.declared.walk.Level.{Level}

-- as many steps lead to the node as there are levels
steps-levels : {X C K : Type 0} (tree : Tree X C) (root : X) (ways : Ways X) → AreWays tree root ways
    → (levels : List (Level K)) → ways.steps (node_at ways levels) ≡ length levels
steps-levels tree root ways are [] = ap ways.steps are.start ∙ are.no_steps
steps-levels tree root ways are (level ∷ older) =
    let before : ways.steps (node_at ways older) ≡ length older = steps-levels tree root ways are older in
    let here : ways.steps (ways.child (node_at ways older) level.number) ≡ ways.steps (node_at ways older) + 1 =
    are.one_step (node_at ways older) level.number
    in
    omega (arith, before, here)

-- so there is room for one level more where the node is open
pub few_levels : {X C K : Type 0} (tree : Tree X C) (root : X) (ways : Ways X) (IsOf : K → X → Type 0)
    → AreWays tree root ways → (levels : List (Level K)) (known : K)
    → IsOpen tree IsOf (node_at ways (reverse levels)) known → length levels < ways.height
few_levels tree root ways IsOf are levels known is_open =
    let few : ways.steps (node_at ways (reverse levels)) < ways.height =
    are.few_steps (node_at ways (reverse levels)) is_open.claim is_open.says is_open.holds
    in
    omega (arith, few, steps-levels tree root ways are (reverse levels), length-reverse levels)

pub level_parts : {X C K : Type 0} (tree : Tree X C) (IsOf : K → X → Type 0) (ways : Ways X)
    (old new : List (Level K)) (level : Level K) → old ≡ new ++ level ∷ [] → AreLevels tree IsOf ways (reverse old)
    → IsLevel tree IsOf ways (node_at ways (reverse new)) level × AreLevels tree IsOf ways (reverse new)
level_parts tree IsOf ways old new level e are =
    subst (λ levels. AreLevels tree IsOf ways levels) (ap reverse e ∙ reverse-append new (level ∷ [])) are

pub reverse-level : {K : Type 0} (old new : List (Level K)) (level : Level K) → new ≡ old ++ level ∷ []
    → reverse new ≡ level ∷ reverse old
reverse-level old new level e = ap reverse e ∙ reverse-append old (level ∷ [])

-- where there is no level, nothing is owed later
pub none_later : {X K : Type 0} (ways : Ways X) (levels : List (Level K)) → levels ≡ [] → owed_later ways (reverse levels) ≡ []
none_later ways levels e = ap (λ ls. owed_later ways (reverse ls)) e

-- what a claim owes, by what is found of it
pub owed-taken : {X C : Type 0} (tree : Tree X C) (root : X) (ways : Ways X) → AreWays tree root ways → (p : X) (claim : C)
    (b : Bool) → b ≡ tree.is_open claim → (if b then ways.longer_from p 0 else []) ≡ owed_by tree p claim
owed-taken tree root ways are p claim b e =
    ap (λ ps. if b then ps else []) (are.all p) ∙ ap (λ t. if t then tree.longer p else []) e

-- ---- levels with the same steps

-- what levels lead to, and what is owed behind that, depends on the numbers of their steps alone
pub same_steps : {X K : Type 0} (ways : Ways X) (new old : List (Level K)) → steps_of new ≡ steps_of old
    → (node_at ways new ≡ node_at ways old) × (owed_later ways new ≡ owed_later ways old)
same_steps ways [] [] e = (refl, refl)
same_steps ways [] (m ∷ older) e = cc
same_steps ways (l ∷ older) [] e = cc
same_steps ways (l ∷ ls) (m ∷ ms) e =
    let both : l.number ∷ steps_of ls ≡ m.number ∷ steps_of ms = e in
    let n : l.number ≡ m.number = cc in
    let older : steps_of ls ≡ steps_of ms = cc in
    let behind = same_steps ways ls ms older in (
      ap (λ k. ways.child (node_at ways ls) k) n ∙ ap (λ p. ways.child p m.number) behind.0,
      ap (λ k. ways.longer_from (node_at ways ls) (k + 1) ++ owed_later ways ls) n
          ∙ ap (λ p. ways.longer_from p (m.number + 1) ++ owed_later ways ls) behind.0
          ∙ ap (λ ps. ways.longer_from (node_at ways ms) (m.number + 1) ++ ps) behind.1,
    )

pub same_owed : {X K : Type 0} (ways : Ways X) (new old : List (Level K)) (root before : Option K)
    → steps_of new ≡ steps_of old → root ≡ before → owed_at ways new root ≡ owed_at ways old before
same_owed ways [] [] root before e same = ap (λ r. owed_at ways [] r) same
same_owed ways [] (m ∷ ms) root before e same = cc
same_owed ways (l ∷ ls) [] root before e same = cc
same_owed ways (l ∷ ls) (m ∷ ms) root before e same =
    let are = same_steps ways (l ∷ ls) (m ∷ ms) e in
    ap (λ p. p ∷ owed_later ways (l ∷ ls)) are.0 ∙ ap (λ ps. node_at ways (m ∷ ms) ∷ ps) are.1

-- ---- the newest level with another number

set_last : {A : Type 0} (xs : List A) (x y : A) → slice_set (xs ++ x ∷ []) (length xs) y ≡ xs ++ y ∷ []
set_last [] x y = refl
set_last (z ∷ xs) x y = ap (λ l. z ∷ l) (set_last xs x y)

last_read : {A : Type 0} (xs : List A) (x d : A) → slice_index_or (xs ++ x ∷ []) (length xs) d ≡ x
last_read [] x d = refl
last_read (z ∷ xs) x d = last_read xs x d

pub renumbered : {K : Type 0} (items older : List (Level K)) (level it : Level K) (top number : ℕ)
    → items ≡ older ++ level ∷ [] → top ≡ length older → it ≡ slice_index_or items top it
    → slice_set items top (record { parent = it.parent; number = number })
    ≡ older ++ record { parent = level.parent; number = number } ∷ []
renumbered items older level it top number e at read =
    let same : it ≡ level = read ∙ ap (λ l. slice_index_or l top it) e
    ∙ ap (λ k. slice_index_or (older ++ level ∷ []) k it) at ∙ last_read older level it in
    ap (λ l. slice_set l top (record { parent = it.parent; number = number })) e
    ∙ ap (λ k. slice_set (older ++ level ∷ []) k (record { parent = it.parent; number = number })) at
    ∙ set_last older level (record { parent = it.parent; number = number })
    ∙ ap (λ l. older ++ record { parent = l.parent; number = number } ∷ []) same

-- ---- the newest level with more that is known

split_last : {A : Type 0} (x : A) (xs : List A)
    → (older : List A) × (last : A) × (x ∷ xs ≡ older ++ last ∷ [])
split_last x [] = ([], x, refl)
split_last x (y ∷ ys) = let parts = split_last y ys in (x ∷ parts.0, parts.1, ap (λ l. x ∷ l) parts.2)

pub noted : {X C K : Type 0} (tree : Tree X C) (IsOf : K → X → Type 0) (ways : Ways X) (items : List (Level K))
    (it : Level K) (known : K) (top : ℕ) → 0 < length items → top ≡ length items - 1
    → it ≡ slice_index_or items top it → ((p : X) → IsOf it.parent p → IsOf known p)
    → AreLevels tree IsOf ways (reverse items)
    → AreLevels tree IsOf ways (reverse (slice_set items top (record { parent = known; number = it.number })))
    × (steps_of (reverse (slice_set items top (record { parent = known; number = it.number }))) ≡ steps_of (reverse items))
noted tree IsOf ways [] it known top some at read kept are = absurd (omega (arith, some))
noted {X} {C} {K} tree IsOf ways (x ∷ xs) it known top some at read kept are =
    let parts = split_last x xs in
    let older : List (Level K) = parts.0 in
    let last : Level K = parts.1 in
    let level : Level K = record { parent = known; number = it.number } in
    let here : top ≡ length older = omega (arith, at, ap length parts.2, length-append older (last ∷ [])) in
    let same : it ≡ last = read ∙ ap (λ l. slice_index_or l top it) parts.2
    ∙ ap (λ k. slice_index_or (older ++ last ∷ []) k it) here ∙ last_read older last it in
    let set : slice_set (x ∷ xs) top level ≡ older ++ level ∷ [] = ap (λ l. slice_set l top level) parts.2
    ∙ ap (λ k. slice_set (older ++ last ∷ []) k level) here ∙ set_last older last level in
    let new : reverse (slice_set (x ∷ xs) top level) ≡ level ∷ reverse older = reverse-level older (slice_set (x ∷ xs) top level) level set in
    let old : reverse (x ∷ xs) ≡ last ∷ reverse older = reverse-level older (x ∷ xs) last parts.2 in
    let p : X = node_at ways (reverse older) in
    let levels = level_parts tree IsOf ways (x ∷ xs) older last parts.2 are in
    let first : IsLevel tree IsOf ways p level = record {
      is_open = record {
        is_of = kept p (subst (λ (l : Level K). IsOf l.parent p) (sym same) levels.0.is_open.is_of);
        claim = levels.0.is_open.claim;
        says = levels.0.is_open.says;
        holds = levels.0.is_open.holds;
      };
      within = subst (λ (l : Level K). l.number < 8192) (sym same) levels.0.within;
      step = ap (λ (l : Level K). ways.is_step p l.number) same ∙ levels.0.step;
    } in (
      subst (λ ls. AreLevels tree IsOf ways ls) (sym new) (first, levels.1),
      ap steps_of new ∙ ap (λ (l : Level K). l.number ∷ steps_of (reverse older)) same ∙ sym (ap steps_of old),
    )
