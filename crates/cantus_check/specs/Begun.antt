-- What begins a lawful cantus: no rule is broken in it (`begun-unbroken`), its floor is at most the
-- penalty (`begun-low`), and where it isn't whole, the cantus goes on by a pitch of the next pool
-- (`begun-longer`).
use Rattle.std.specs.Prelude.{◌≡◌, ◌⊎◌, ℕ, zero, suc, ◌+◌, ◌<◌, ◌≤◌, ◌==◌, Bool, true, false, cond, not, ◌||◌, if◌then◌else◌, List, [], ◌∷◌, ◌++◌, length, map, reverse, refl}
use Rattle.std.specs.List.{filter, list_any, range_with_len}
use Rattle.std.proofs.Common.{arith, inl, inr, ap, sym, ◌∙◌}
use Rattle.std.proofs.lemmas.Bool.{and_parts, cases_lt, eqb-true, not-true, or_cases, or_left, or_right, true≢false}
use Rattle.std.proofs.lemmas.List.{length-append, length-reverse, reverse-append}
use Rattle.cert_tree.specs.Trees.{IsBegunByOne}
use Rattle.fux_pitch.specs.declared.pitch.Pitch.{Pitch}
use Rattle.fux_pitch.specs.Modes.{is_in_gamut}
use Rattle.cantus_space.specs.declared.plan.CantusPlan.{CantusPlan}
use Rattle.cantus_space.specs.Ahead.{floor_ends}
use Rattle.cantus_space.specs.Broken.{breaks_rule, is_broken_by, is_broken_in, rules_claimed}
use Rattle.cantus_space.specs.Cantus.{is_in_pool, is_in_range}
use Rattle.cantus_space.specs.Grows.{Comes, comes, floor_grows}
use Rattle.cantus_space.specs.Known.{pool_from}
use Rattle.cantus_space.specs.Lawful.{IsLawful, penalty_of}
use Rattle.cantus_space.specs.Numbers.{WIDTH, numbered_pitch}
use Rattle.cantus_space.specs.Order.{has_number, pool_sounds}
use Rattle.cantus_space.specs.Rules.{breaks, breaks_some_rule, floor_of, is_live, may_come, rules}
use Rattle.cantus_check.specs.Certificates.{Begins}
use Rattle.cantus_check.specs.Claims.{has_break_of, longer_lists}

-- ---- what is behind

module _ (plan : CantusPlan) where
  -- what is live keeps being so without its newest pitches
  pub live_behind : (newer behind : List Pitch) → is_live plan (newer ++ behind) ≡ true → is_live plan behind ≡ true
  live_behind [] behind h = h
  live_behind (p ∷ newer) behind h =
      live_behind newer behind (and_parts (is_live plan (newer ++ behind)) (may_come plan (newer ++ behind) p) h).0

  low_behind : (newer behind : List Pitch) → is_live plan (newer ++ behind) ≡ true
      → floor_of plan behind ≤ floor_of plan (newer ++ behind)
  low_behind [] behind h = omega arith
  low_behind (p ∷ newer) behind h =
      let parts = and_parts (is_live plan (newer ++ behind)) (may_come plan (newer ++ behind) p) h in
      omega (arith, low_behind newer behind parts.0, floor_grows plan (newer ++ behind) p parts.1)

  -- the floor of a whole cantus is its penalty
  pub floor_at_end : (t : List Pitch) → length t ≡ plan.bars → floor_of plan (reverse t) ≡ penalty_of plan t
  floor_at_end t whole =
      let long : plan.bars ≤ length (reverse t) = omega (arith, whole, length-reverse t) in
      floor_ends plan (reverse t) long

-- ---- rules

-- where no rule passes, one that is among them doesn't
some_breaks : (behind : List Pitch) (p : Pitch) (rule : ℕ) (read : List ℕ)
    → list_any (λ r. rule == r) read ≡ true → breaks behind p rule ≡ true → list_any (breaks behind p) read ≡ true
some_breaks behind p rule [] among h = cc
some_breaks behind p rule (r ∷ read) among h =
    at (or_cases (rule == r) (list_any (λ s. rule == s) read) among) (λ later. some_breaks behind p rule read later h)
  where
    at : ((rule == r) ≡ true) ⊎ (list_any (λ s. rule == s) read ≡ true)
        → (list_any (λ s. rule == s) read ≡ true → list_any (breaks behind p) read ≡ true)
        → list_any (breaks behind p) (r ∷ read) ≡ true
    at (inl e) more =
        or_left (breaks behind p r) (list_any (breaks behind p) read)
        (ap (breaks behind p) (sym (eqb-true rule r e)) ∙ h)
    at (inr later) more = or_right (breaks behind p r) (list_any (breaks behind p) read) (more later)

module _ (plan : CantusPlan) where
  unbroken_by : (behind : List Pitch) (p : Pitch) (rule : ℕ) → may_come plan behind p ≡ true
      → is_broken_by plan behind p rule ≡ true → ⊥
  unbroken_by behind p rule may broken = at (rule == 2) refl claimed.0 claimed.1
    where
      on : Comes plan behind p
      on = comes plan behind p may

      claimed : (list_any (λ r. rule == r) rules_claimed ≡ true) × (breaks_rule plan behind p rule ≡ true)
      claimed = and_parts (list_any (λ r. rule == r) rules_claimed) (breaks_rule plan behind p rule) broken

      at : (b : Bool) → (rule == 2) ≡ b → (b || list_any (λ r. rule == r) rules) ≡ true
          → (if b then not (is_in_gamut plan.mode (length behind + 1) plan.bars p) else breaks behind p rule) ≡ true → ⊥
      at true e among outside =
          let within : is_in_gamut plan.mode (length behind + 1) plan.bars p ≡ true =
          (and_parts (is_in_gamut plan.mode (length behind + 1) plan.bars p) (is_in_range plan p)
          (pool_sounds plan (length behind + 1) p on.pool)).0
          in
          true≢false (sym within ∙ not-true (is_in_gamut plan.mode (length behind + 1) plan.bars p) outside)
      at false e among h =
          true≢false (sym (some_breaks behind p rule rules among h)
          ∙ not-true (breaks_some_rule behind p) on.unbroken)

  live-unbroken : (behind : List Pitch) (rule : ℕ) → is_live plan behind ≡ true → is_broken_in plan behind rule ≡ true
      → ⊥
  live-unbroken [] rule live broken = cc
  live-unbroken (p ∷ behind) rule live broken =
      at (or_cases (is_broken_in plan behind rule) (is_broken_by plan behind p rule) broken)
      (live-unbroken behind rule (and_parts (is_live plan behind) (may_come plan behind p) live).0)
    where
      at : (is_broken_in plan behind rule ≡ true) ⊎ (is_broken_by plan behind p rule ≡ true)
          → (is_broken_in plan behind rule ≡ true → ⊥) → ⊥
      at (inl h) before = before h
      at (inr h) before = unbroken_by behind p rule (and_parts (is_live plan behind) (may_come plan behind p) live).1 h

-- ---- what begins a lawful cantus

reverse-middle : (ps : List Pitch) (q : Pitch) (rest : List Pitch)
    → reverse (ps ++ q ∷ rest) ≡ reverse rest ++ q ∷ reverse ps
reverse-middle ps q rest =
    reverse-append ps (q ∷ rest) ∙ ap (λ r. r ++ reverse ps) (reverse-append (q ∷ []) rest)
    ∙ moved (reverse rest) (reverse ps)
  where
    moved : (xs ys : List Pitch) → (xs ++ q ∷ []) ++ ys ≡ xs ++ q ∷ ys
    moved [] ys = refl
    moved (x ∷ xs) ys = ap (λ zs. x ∷ zs) (moved xs ys)

append-middle : (ps : List Pitch) (q : Pitch) (rest : List Pitch) → (ps ++ q ∷ []) ++ rest ≡ ps ++ q ∷ rest
append-middle [] q rest = refl
append-middle (p ∷ ps) q rest = ap (λ r. p ∷ r) (append-middle ps q rest)

-- the lists that are longer by a pitch that passes, of those with these numbers
longer_by : CantusPlan → List Pitch → (Pitch → Bool) → ℕ → ℕ → List (List Pitch)
longer_by plan ps test from n =
    map (λ p. ps ++ p ∷ []) (filter test (map (numbered_pitch plan) (range_with_len from n)))

-- one of them begins what goes on by such a pitch
among_passing : (plan : CantusPlan) (ps : List Pitch) (test : Pitch → Bool) (q : Pitch) (rest : List Pitch) (from n k : ℕ)
    → from ≤ k → k < from + n → numbered_pitch plan k ≡ q → test q ≡ true
    → IsBegunByOne Begins (longer_by plan ps test from n) (ps ++ q ∷ rest)
unfolding longer_by
among_passing plan ps test q rest from zero k low high e passes = absurd (omega (arith, low, high))
among_passing plan ps test q rest from (suc n) k low high e passes =
    at (test (numbered_pitch plan from)) refl (cases_lt from k)
    (λ h. among_passing plan ps test q rest (from + 1) n k (omega (arith, h)) (omega (arith, high)) e passes)
  where
    later : List (List Pitch)
    later = map (λ p. ps ++ p ∷ []) (filter test (map (numbered_pitch plan) (range_with_len (from + 1) n)))

    same : k ≤ from → numbered_pitch plan from ≡ q
    same h = let one : from ≡ k = omega (arith, low, h) in ap (numbered_pitch plan) one ∙ e

    at : (b : Bool) → test (numbered_pitch plan from) ≡ b → (from < k) ⊎ (k ≤ from)
        → (from < k → IsBegunByOne Begins (longer_by plan ps test (from + 1) n) (ps ++ q ∷ rest))
        → IsBegunByOne Begins (map (λ p. ps ++ p ∷ [])
        (cond b (numbered_pitch plan from ∷ filter test (map (numbered_pitch plan) (range_with_len (from + 1) n)))
        (filter test (map (numbered_pitch plan) (range_with_len (from + 1) n))))) (ps ++ q ∷ rest)
    at true t (inl h) more = inr (more h)
    at true t (inr h) more = inl record {
      rest = rest;
      is = ap (λ p. ps ++ p ∷ rest) (sym (same h)) ∙ sym (append-middle ps (numbered_pitch plan from) rest);
    }
    at false t (inl h) more = more h
    at false t (inr h) more = absurd (true≢false (sym passes ∙ ap test (sym (same h)) ∙ t))

module _ (plan : CantusPlan) (ps rest : List Pitch) (lawful : IsLawful plan (ps ++ rest)) where
  sides : reverse (ps ++ rest) ≡ reverse rest ++ reverse ps
  sides = reverse-append ps rest

  live_all : is_live plan (reverse rest ++ reverse ps) ≡ true
  live_all = sym (ap (is_live plan) sides) ∙ lawful.live

  pub begun-unbroken : (rule : ℕ) → has_break_of plan ps rule ≡ true → ⊥
  begun-unbroken rule broken =
      live-unbroken plan (reverse ps) rule (live_behind plan (reverse rest) (reverse ps) live_all) broken

  pub begun-low : floor_of plan (reverse ps) ≤ penalty_of plan (ps ++ rest)
  begun-low =
      let low = low_behind plan (reverse rest) (reverse ps) live_all in
      let all : floor_of plan (reverse rest ++ reverse ps) ≡ penalty_of plan (ps ++ rest) =
      sym (ap (floor_of plan) sides) ∙ floor_at_end plan (ps ++ rest) lawful.whole
      in
      omega (arith, low, all)

pub begun-longer : (plan : CantusPlan) (ps rest : List Pitch) → length ps < plan.bars → IsLawful plan (ps ++ rest)
    → IsBegunByOne Begins (longer_lists plan ps) (ps ++ rest)
unfolding pool_from longer_by
begun-longer plan ps [] shorter lawful =
    let size : length (ps ++ []) ≡ length ps + 0 = length-append ps [] in
    absurd (omega (arith, shorter, size, lawful.whole))
begun-longer plan ps (q ∷ rest) shorter lawful =
    let live : is_live plan (reverse rest ++ q ∷ reverse ps) ≡ true =
    sym (ap (is_live plan) (reverse-middle ps q rest)) ∙ lawful.live
    in
    let here = live_behind plan (reverse rest) (q ∷ reverse ps) live in
    let on = comes plan (reverse ps) q (and_parts (is_live plan (reverse ps)) (may_come plan (reverse ps) q) here).1 in
    let pool : is_in_pool plan (length ps + 1) q ≡ true =
    ap (λ n. is_in_pool plan (n + 1) q) (sym (length-reverse ps)) ∙ on.pool
    in
    let own = has_number plan (length ps + 1) q pool in
    among_passing plan ps (is_in_pool plan (length ps + 1)) q rest 0 WIDTH own.number (omega arith)
    (omega (arith, own.small)) own.is pool
