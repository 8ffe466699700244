-- What is read at the places of a late rule, and of a late toll.
use Rattle.std.proofs.Common.{◌≡◌, ℕ, ◌+◌, ◌-◌, ◌*◌, ◌<◌, ◌≤◌, ◌==◌, ◌&&◌, ◌||◌, zero, suc, Bool, true, false, List, [], ◌∷◌, ◌++◌, length, refl, ap, sym, ◌∙◌, subst, true≢false, arith}
use Rattle.std.specs.Prelude.{if◌then◌else◌}
use Rattle.std.specs.List.{list_all, list_any, sum_by}
use Rattle.std.proofs.lemmas.List.{length-append}
use Rattle.fux_grid.specs.declared.cell.Cell.{Cell}
use Rattle.fux_grid.specs.declared.exercise.Exercise.{Exercise}
use Rattle.std.proofs.lemmas.Bool.{both_ways, eqb-true, or_left, or_right}
use Rattle.std.proofs.lemmas.Bool.Decides.{nat_tests}
use Rattle.std.proofs.lemmas.Nat.Bits.{bit_at-zero}
use Rattle.rule_law.specs.Growth.{any_below, newly, sum_by-none}
use Rattle.rule_law.specs.Law.{first_true, second_true}
use Rattle.rule_law.specs.Prefixes.{GoesOn}
use Rattle.rule_law.specs.Rulebooks.{IsAmong, newly_breaks}
use Rattle.rule_law.specs.Voices.{has_rule}
use Rattle.penalty_sheet.specs.declared.sheet.Sheet.{Sheet}
use Rattle.penalty_sheet.specs.Weights.{weight_of}
use Rattle.fux_judge.specs.declared.state.State.{State}
use Rattle.fux_judge.proofs.Facts.{rule_keeps}
use Rattle.fux_judge.specs.Late.{HaveNoPlace, SettleNothing}
use Rattle.fux_judge.specs.Links.{other_late_tolls}
use Rattle.fux_judge.specs.Penalties.{is_strict_at, new_price, new_toll, newly_broken_at}
use Rattle.fux_judge.specs.Rules.{all_rules, cost_at, is_cost_settled, is_late, late_rules, late_tolls, rule_at, rules_read, toll_at, tolls_read}
use Rattle.fux_judge.specs.States.{HasCome}
use Rattle.fux_judge.specs.Steps.{any_among, breaks_late, prices_late, sets_of_rule, toll_late}
use Rattle.fux_judge.proofs.StepPlaces.{any_among-alone, zero_below}
use Rattle.fux_judge.proofs.SetLemmas.{priceless}

-- the place before the newest column is as far as the prefix goes
pub as_far : (ex : Exercise) (next : State) (p : List (List Cell)) (col : List Cell) → HasCome ex next p col
    → next.newest.len - 1 ≡ length p
as_far ex next p col come = omega (arith, come.reached.newest.count, length-append p (col ∷ []))

-- the places of a rule or a toll, by its first and its count
module _ (first_of count_of : Exercise → ℕ → ℕ) (ex : Exercise) (next : State) (p : List (List Cell)) (col : List Cell)
    (come : HasCome ex next p col) (first count : ℕ) (f : first ≡ first_of ex (next.newest.len - 1))
    (c : count ≡ count_of ex (next.newest.len - 1)) where
  pub first_is : first ≡ first_of ex (length p)
  first_is = f ∙ ap (first_of ex) (as_far ex next p col come)

  pub count_is : count ≡ count_of ex (length p)
  count_is = c ∙ ap (count_of ex) (as_far ex next p col come)

  pub is_among : (k : ℕ) → k < count → IsAmong (first_of ex (length p)) (count_of ex (length p)) (first + k)
  is_among k h = record { from = omega (arith, first_is); to = omega (arith, first_is, count_is) }

-- a late rule's places, or those of them among which all is that it newly breaks, tell the same of
-- a break
module _ (rule : ℕ) (ex : Exercise) (p : List (List Cell)) (col : List Cell) where
  abbrev Newly : ℕ → ℕ → Type 0
  Newly voices i = newly_breaks (rule_at rule) ex voices p col i ≡ true

  abbrev pub some_at : ℕ → Bool
  some_at i = list_any (λ voices. newly_broken_at rule ex voices p col i) (sets_of_rule rule ex)

  fresh_among : (first count i : ℕ) → ((voices : ℕ) → Newly voices i → IsAmong first count i) → (sets : List ℕ)
      → list_any (λ voices. newly_broken_at rule ex voices p col i) sets ≡ true → IsAmong first count i
  fresh_among first count i all [] h = cc
  fresh_among first count i all (voices ∷ sets) h =
      at (newly_broken_at rule ex voices p col i) refl h (fresh_among first count i all sets)
    where
      at : (b : Bool) → newly_broken_at rule ex voices p col i ≡ b
          → (b || list_any (λ voices. newly_broken_at rule ex voices p col i) sets) ≡ true
          → (list_any (λ voices. newly_broken_at rule ex voices p col i) sets ≡ true → IsAmong first count i)
          → IsAmong first count i
      at true e k later =
          all voices (first_true (newly_breaks (rule_at rule) ex voices p col i) (is_strict_at rule ex voices i) e)
      at false e k later = later k

  among_alone : (first count : ℕ) → first + count ≤ length p + 1
      → ((voices i : ℕ) → Newly voices i → IsAmong first count i) → any_below some_at (length p + 1)
      ≡ any_among first count some_at
  among_alone first count within all = any_among-alone some_at first count (length p + 1) within
      (λ i h. fresh_among first count i (λ voices. all voices i) (sets_of_rule rule ex) h)

  pub among_places : is_late rule ≡ true → GoesOn ex p (col ∷ []) → (voices i : ℕ) → Newly voices i
      → IsAmong ((rule_at rule).first ex (length p)) ((rule_at rule).count ex (length p)) i
  among_places late on voices i h = (rule_keeps rule).places late ex voices p col i on h

  pub breaks_among : is_late rule ≡ true → GoesOn ex p (col ∷ []) → (first count : ℕ) → first + count ≤ length p + 1
      → ((voices i : ℕ) → Newly voices i → IsAmong first count i) → any_among first count some_at
      ≡ breaks_late ex p col rule
  breaks_among late on first count within all =
      sym (among_alone first count within all)
      ∙ among_alone ((rule_at rule).first ex (length p)) ((rule_at rule).count ex (length p))
      ((rule_keeps rule).within ex (length p)) (among_places late on)

-- the empty set has no rule
pub none_idle : (ex : Exercise) (i : ℕ) → HaveNoPlace ex i 0
none_idle ex i rule h = absurd (true≢false (sym h ∙ ap (λ n. n == 1) (bit_at-zero rule)))

-- of a rule without a place nothing is settled
pub placeless_settle : (ex : Exercise) (i set : ℕ) → HaveNoPlace ex i set → SettleNothing ex i set
placeless_settle ex i set none rule on p col at going =
    let count : (rule_at rule).count ex (length p) ≡ 0 = ap ((rule_at rule).count ex) at ∙ none rule on in
    ap (λ n. any_among ((rule_at rule).first ex (length p)) n (some_at rule ex p col)) count

-- nor of one that the column newly breaks at none of its places
pub none_settled : (rule : ℕ) (ex : Exercise) (p : List (List Cell)) (col : List Cell) → is_late rule ≡ true
    → GoesOn ex p (col ∷ [])
    → ((voices i : ℕ) → IsAmong ((rule_at rule).first ex (length p)) ((rule_at rule).count ex (length p)) i
    → newly_breaks (rule_at rule) ex voices p col i ≡ false) → breaks_late ex p col rule ≡ false
none_settled rule ex p col late on none =
    sym (breaks_among rule ex p col late on 0 0 (omega arith)
    (λ voices i h. absurd (both_ways (newly_breaks (rule_at rule) ex voices p col i)
    (none voices i (among_places rule ex p col late on voices i h)) h)))

-- what holds of the rules of a set, and of one more, holds of those of the set with it
pub one_more : (P : ℕ → Type 0) (set rule more : ℕ) (on : Bool) → ((r : ℕ) → has_rule set r ≡ true → P r)
    → (on ≡ true → P rule) → ((r : ℕ) → has_rule more r ≡ (has_rule set r || (on && r == rule)))
    → (r : ℕ) → has_rule more r ≡ true → P r
one_more P set rule more on old new is r h = at (has_rule set r) on (r == rule) refl refl refl (sym (is r) ∙ h)
  where
    at : (a b t : Bool) → has_rule set r ≡ a → on ≡ b → (r == rule) ≡ t → (a || (b && t)) ≡ true → P r
    at true b t e f g k = old r e
    at false true true e f g k = subst P (sym (eqb-true r rule g)) (new f)
    at false true false e f g k = cc
    at false false t e f g k = cc

-- what is found below a number is found
pub any_below-found : (f : ℕ → Bool) (k n : ℕ) → k < n → f k ≡ true → any_below f n ≡ true
any_below-found f k zero h e = absurd (omega arith)
any_below-found f k (suc n) h e = at (k == n) refl (λ q. any_below-found f k n q e)
  where
    or_true : (b : Bool) → (b || true) ≡ true
    or_true true = refl
    or_true false = refl

    below : (k == n) ≡ false → k < n
    below q = grind (arith, nat_tests)

    at : (t : Bool) → (k == n) ≡ t → (k < n → any_below f n ≡ true) → (any_below f n || f n) ≡ true
    at true q later = ap (λ b. any_below f n || b) (sym (ap f (eqb-true k n q)) ∙ e) ∙ or_true (any_below f n)
    at false q later = ap (λ b. b || f n) (later (below q))

-- without relax lines no late rule has a price
pub no_late_prices : (ex : Exercise) (p : List (List Cell)) (col : List Cell) → ex.relax ≡ [] → 0
    ≡ sum_by (prices_late ex p col) late_rules
no_late_prices ex p col e =
    sym (sum_by-none (prices_late ex p col) late_rules
    (λ rule. zero_below (λ k. sum_by (new_price ex p col ((rule_at rule).first ex (length p) + k) rule)
    (sets_of_rule rule ex)) ((rule_at rule).count ex (length p))
    (λ k h. sum_by-none (new_price ex p col ((rule_at rule).first ex (length p) + k) rule) (sets_of_rule rule ex)
    (λ voices. free _ _ (priceless rule ex voices ((rule_at rule).first ex (length p) + k) e)))))
  where
    free : (n b : Bool) {x : ℕ} → x ≡ 0 → (if n then (if b then x else 0) else 0) ≡ 0
    free true true h = h
    free true false h = refl
    free false b h = refl

-- where an item of one list passes a test, and each item of it is in another list, one of that list
-- passes
any_within : (test : ℕ → Bool) (xs ys : List ℕ) → list_all (λ x. list_any (λ y. y == x) ys) xs ≡ true
    → list_any test xs ≡ true → list_any test ys ≡ true
any_within test [] ys within h = cc
any_within test (x ∷ xs) ys within h =
    at (test x) refl h
    (any_within test xs ys (second_true (list_any (λ y. y == x) ys) (list_all (λ z. list_any (λ y. y == z) ys) xs) within))
  where
    found : (zs : List ℕ) → test x ≡ true → list_any (λ y. y == x) zs ≡ true → list_any test zs ≡ true
    found [] e k = cc
    found (z ∷ zs) e k = here (z == x) refl k (found zs e)
      where
        here : (b : Bool) → (z == x) ≡ b → (b || list_any (λ y. y == x) zs) ≡ true
            → (list_any (λ y. y == x) zs ≡ true → list_any test zs ≡ true) → (test z || list_any test zs) ≡ true
        here true q m later = or_left (test z) (list_any test zs) (ap test (eqb-true z x q) ∙ e)
        here false q m later = or_right (test z) (list_any test zs) (later m)

    at : (b : Bool) → test x ≡ b → (b || list_any test xs) ≡ true → (list_any test xs ≡ true → list_any test ys ≡ true)
        → list_any test ys ≡ true
    at true e k later = found ys e
        (first_true (list_any (λ y. y == x) ys) (list_all (λ z. list_any (λ y. y == z) ys) xs) within)
    at false e k later = later k

-- the books ask of late rules alone
pub all_late : list_all is_late all_rules.late_rules ≡ true
unfolding rule_at
all_late = refl

asked_are_late : list_all (λ x. list_any (λ y. y == x) late_rules) all_rules.late_rules ≡ true
unfolding late_rules rules_read rule_at
asked_are_late = refl

late_are_asked : list_all (λ x. list_any (λ y. y == x) all_rules.late_rules) late_rules ≡ true
unfolding late_rules rules_read rule_at
late_are_asked = refl

-- and of each of them: some late rule passes a test where one does in the order in which they are
-- asked
pub any_asked : (test : ℕ → Bool) → list_any test all_rules.late_rules ≡ list_any test late_rules
any_asked test = alike (list_any test all_rules.late_rules) (list_any test late_rules)
    (any_within test all_rules.late_rules late_rules asked_are_late)
    (any_within test late_rules all_rules.late_rules late_are_asked)
  where
    alike : (b c : Bool) → (b ≡ true → c ≡ true) → (c ≡ true → b ≡ true) → b ≡ c
    alike true c f g = sym (f refl)
    alike false true f g = g refl
    alike false false f g = refl

-- a column settles nothing of a toll that weighs nothing
pub weightless : (ex : Exercise) (sheet : Sheet) (p : List (List Cell)) (col : List Cell) (toll : ℕ)
    → weight_of sheet toll ≡ 0 → toll_late ex sheet p col toll ≡ 0
weightless ex sheet p col toll e =
    zero_below (λ k. new_toll ex sheet p col ((toll_at toll).first ex (length p) + k) toll)
    ((toll_at toll).count ex (length p))
    (λ k h. free (newly (is_cost_settled toll ex) p col ((toll_at toll).first ex (length p) + k))
    (cost_at toll ex (p ++ col ∷ []) ((toll_at toll).first ex (length p) + k)))
  where
    none : (n : ℕ) → n * 0 ≡ 0
    none n = omega arith

    free : (b : Bool) (n : ℕ) → (if b then n * weight_of sheet toll else 0) ≡ 0
    free true n = ap (λ w. n * w) e ∙ none n
    free false n = refl

-- the late tolls
pub tolls_are : late_tolls ≡ 3 ∷ 4 ∷ 5 ∷ 6 ∷ 12 ∷ 14 ∷ 15 ∷ 16 ∷ 21 ∷ []
unfolding late_tolls tolls_read toll_at
tolls_are = refl

-- without those that a column decides by itself
pub other_late_are : other_late_tolls ≡ 12 ∷ 14 ∷ 16 ∷ 21 ∷ []
unfolding other_late_tolls late_tolls tolls_read toll_at
other_late_are = refl
