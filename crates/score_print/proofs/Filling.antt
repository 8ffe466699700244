-- Systems that are begun anew where the next bar doesn't fit have all bars, and hold the most.
use Rattle.std.proofs.Common.{◌≡◌, ℕ, zero, suc, ◌+◌, ◌-◌, ◌<◌, ◌≤◌, Bool, true, false, cond, List, [], ◌∷◌, ◌++◌, length, get_or, refl, ap, sym, ◌∙◌, append-nil, subst, arith}
use Rattle.std.specs.List.{concat, flat_map, range_with_len}
use Rattle.std.proofs.lemmas.List.FromFn.{length-range_with_len}
use Rattle.fux_grid.specs.declared.exercise.Exercise.{Exercise}
use Rattle.score_print.specs.Shown.{slots_shown}
use Rattle.score_print.specs.Systems.{HoldMost, HoldsMost, IsWrapped, fits, printed_system}
use Rattle.score_print.proofs.RowSteps.{range-last}

-- the systems from the one that begins with a bar and has those before another, where so many bars
-- are left
abbrev pub systems_from : (List ℕ → Bool) → ℕ → ℕ → ℕ → List (List ℕ)
systems_from fits first bar zero = range_with_len first (bar - first) ∷ []
systems_from fits first bar (suc left) =
    cond (fits (range_with_len first ((bar + 1) - first))) (systems_from fits first (bar + 1) left)
    (range_with_len first (bar - first) ∷ systems_from fits bar (bar + 1) left)

-- ---- they have all bars

-- a range, and the range behind it
range-append : (a n m : ℕ) → range_with_len a n ++ range_with_len (a + n) m ≡ range_with_len a (n + m)
range-append a zero m =
    let e : a + 0 ≡ a = omega arith in
    let k : 0 + m ≡ m = omega arith in
    ap (λ b. range_with_len b m) e ∙ ap (range_with_len a) (sym k)
range-append a (suc n) m =
    let e : a + suc n ≡ (a + 1) + n = omega arith in
    let k : suc n + m ≡ suc (n + m) = omega arith in
    ap (λ b. a ∷ (range_with_len (a + 1) n ++ range_with_len b m)) e
    ∙ ap (λ t. a ∷ t) (range-append (a + 1) n m) ∙ ap (range_with_len a) (sym k)

whole-next : (first bar left : ℕ) (more anew : List (List ℕ)) → first ≤ bar
    → concat more ≡ range_with_len first (((bar + 1) - first) + left) → concat anew ≡ range_with_len bar (1 + left)
    → (t : Bool)
    → concat (cond t more (range_with_len first (bar - first) ∷ anew)) ≡ range_with_len first ((bar - first) + suc left)
whole-next first bar left more anew h kept begun true =
    let e : ((bar + 1) - first) + left ≡ (bar - first) + suc left = omega (arith, h) in
    kept ∙ ap (range_with_len first) e
whole-next first bar left more anew h kept begun false =
    let e : bar ≡ first + (bar - first) = omega (arith, h) in
    let k : 1 + left ≡ suc left = omega arith in
    ap (λ t. range_with_len first (bar - first) ++ t)
    (begun ∙ ap (λ b. range_with_len b (1 + left)) e ∙ ap (range_with_len (first + (bar - first))) k)
    ∙ range-append first (bar - first) (suc left)

pub systems-whole : (fits : List ℕ → Bool) (first bar left : ℕ) → first ≤ bar
    → concat (systems_from fits first bar left) ≡ range_with_len first ((bar - first) + left)
systems-whole fits first bar zero h =
    let e : (bar - first) + 0 ≡ bar - first = omega arith in
    append-nil (range_with_len first (bar - first)) ∙ ap (range_with_len first) (sym e)
systems-whole fits first bar (suc left) h =
    let one : ((bar + 1) - bar) + left ≡ 1 + left = omega arith in
    whole-next first bar left (systems_from fits first (bar + 1) left) (systems_from fits bar (bar + 1) left) h
    (systems-whole fits first (bar + 1) left (omega (arith, h)))
    (systems-whole fits bar (bar + 1) left (omega arith) ∙ ap (range_with_len bar) one)
    (fits (range_with_len first ((bar + 1) - first)))

-- ---- they hold the most

-- one of them, where the first bar behind it doesn't fit
most-held : (fits : List ℕ → Bool) (first bar : ℕ) (behind : List ℕ) → first < bar
    → (2 ≤ bar - first → fits (range_with_len first (bar - first)) ≡ true)
    → ((next : ℕ) (more : List ℕ) → behind ≡ next ∷ more
    → (bar ≡ next) × (fits (range_with_len first ((bar + 1) - first)) ≡ false))
    → HoldsMost fits (range_with_len first (bar - first)) behind
most-held fits first bar behind h fit stops =
    let size : length (range_with_len first (bar - first)) ≡ bar - first = length-range_with_len first (bar - first) in record {
      least = omega (arith, h, size);
      fit = λ two. fit (omega (arith, two, size));
      most = λ next more same.
          let k : (bar + 1) - first ≡ suc (bar - first) = omega (arith, h) in
          let at : first + (bar - first) ≡ bar = omega (arith, h) in
          ap (λ n. fits (range_with_len first (bar - first) ++ n ∷ [])) (sym (stops next more same).0 ∙ sym at)
          ∙ ap fits (sym (range-last first (bar - first)))
          ∙ ap (λ n. fits (range_with_len first n)) (sym k) ∙ (stops next more same).1;
    }

full-next : (fits : List ℕ → Bool) (first bar left : ℕ) (more anew : List (List ℕ)) → first < bar
    → (2 ≤ bar - first → fits (range_with_len first (bar - first)) ≡ true)
    → concat anew ≡ range_with_len bar (suc left) → HoldMost fits anew
    → (t : Bool) → fits (range_with_len first ((bar + 1) - first)) ≡ t → (t ≡ true → HoldMost fits more)
    → HoldMost fits (cond t more (range_with_len first (bar - first) ∷ anew))
full-next fits first bar left more anew h fit whole begun true e kept = kept refl
full-next fits first bar left more anew h fit whole begun false e kept = (
  most-held fits first bar (concat anew) h fit
      (λ next behind same. (ap (λ xs. get_or xs 0 0) (sym whole ∙ same), e)),
  begun,
)

pub systems-full : (fits : List ℕ → Bool) (first bar left : ℕ) → first < bar
    → (2 ≤ bar - first → fits (range_with_len first (bar - first)) ≡ true)
    → HoldMost fits (systems_from fits first bar left)
systems-full fits first bar zero h fit =
    (most-held fits first bar [] h fit (λ next more same. absurd (omega (arith, ap length same))), tt)
systems-full fits first bar (suc left) h fit =
    let one : ((bar + 1) - bar) + left ≡ suc left = omega arith in
    full-next fits first bar left (systems_from fits first (bar + 1) left) (systems_from fits bar (bar + 1) left) h fit
    (systems-whole fits bar (bar + 1) left (omega arith) ∙ ap (range_with_len bar) one)
    (systems-full fits bar (bar + 1) left (omega arith) (λ two. absurd (omega (arith, two))))
    (fits (range_with_len first ((bar + 1) - first))) refl
    (λ e. systems-full fits first (bar + 1) left (omega (arith, h)) (λ two. e))

-- ---- one step

-- the next bar stands in the same system where it fits
pub kept-on : (fits : List ℕ → Bool) (first bar left : ℕ) → fits (range_with_len first ((bar + 1) - first)) ≡ true
    → systems_from fits first bar (suc left) ≡ systems_from fits first (bar + 1) left
kept-on fits first bar left e =
    ap (λ t. cond t (systems_from fits first (bar + 1) left)
    (range_with_len first (bar - first) ∷ systems_from fits bar (bar + 1) left)) e

-- else it begins the next one
pub begun-anew : (fits : List ℕ → Bool) (first bar left : ℕ) → fits (range_with_len first ((bar + 1) - first)) ≡ false
    → systems_from fits first bar (suc left) ≡ range_with_len first (bar - first) ∷ systems_from fits bar (bar + 1) left
begun-anew fits first bar left e =
    ap (λ t. cond t (systems_from fits first (bar + 1) left)
    (range_with_len first (bar - first) ∷ systems_from fits bar (bar + 1) left)) e

-- what is written of these systems, from the one of the first bar, is the printed score in systems
pub all-wrapped : (ex : Exercise) (columns slots : ℕ) (text : List ℕ) → slots ≡ slots_shown ex → 3 ≤ ex.bars
    → text ≡ flat_map (printed_system ex slots) (systems_from (fits ex columns slots) 1 2 ((ex.bars + 1) - 2))
    → IsWrapped ex columns text
all-wrapped ex columns slots text same few written =
    let all : (2 - 1) + ((ex.bars + 1) - 2) ≡ ex.bars = omega (arith, few) in record {
      systems = systems_from (fits ex columns (slots_shown ex)) 1 2 ((ex.bars + 1) - 2);
      whole = systems-whole (fits ex columns (slots_shown ex)) 1 2 ((ex.bars + 1) - 2) (omega arith)
          ∙ ap (range_with_len 1) all;
      full = systems-full (fits ex columns (slots_shown ex)) 1 2 ((ex.bars + 1) - 2) (omega arith)
          (λ two. absurd (omega (arith, two)));
      written = subst (λ k. text ≡ flat_map (printed_system ex k) (systems_from (fits ex columns k) 1 2 ((ex.bars + 1) - 2)))
          same written;
    }
