-- The latest turning note of a voice, said of its notes alone: `latest_turning` is it
-- (`latest_turning_is`), and there is no other (`latest_turning_is_one`).
use Rattle.std.specs.Prelude.{◌≡◌, ℕ, zero, suc, ◌+◌, ◌<◌, Bool, true, false, List, [], ◌∷◌, length, IsTrue, MatchOption, Option, Some, None, if◌then◌else◌, refl, slice_get}
use Rattle.std.proofs.Common.{ap, ◌∙◌, subst, arith, inl, inr}
use Rattle.std.proofs.lemmas.Bool.{cases_lt}
use Rattle.std.proofs.lemmas.Option.{slice_get_within}
use Rattle.fux_pitch.specs.declared.pitch.Pitch.{Pitch}
use Rattle.fux_pitch.specs.Size.{interval_between}
use Rattle.rule_law.specs.Terms.{opposite_ways}
use Rattle.melody_rules.specs.Rows.{latest_turning}

-- a note of a voice, whose notes stand the latest first, is a turning note: it is an inner note,
-- the one at place k came next, and its own move and the next note's move go opposite ways
pub record IsTurning (ps : List Pitch) (k : ℕ) (turning : Pitch) : Type 0 where
  pub before : Pitch
  pub next : Pitch
  pub came_next : slice_get ps k ≡ Some next
  pub here : slice_get ps (k + 1) ≡ Some turning
  pub came_before : slice_get ps (k + 2) ≡ Some before
  pub turns : IsTrue (opposite_ways (interval_between before turning) (interval_between turning next))

-- it is one, and no later note is
pub record IsLastTurning (ps : List Pitch) (turning : Pitch) : Type 0 where
  pub place : ℕ
  pub is_turning : IsTurning ps place turning
  pub latest : (k : ℕ) (other : Pitch) → k < place → IsTurning ps k other → ⊥

-- no note is one
abbrev pub NoneTurns : List Pitch → Type 0
NoneTurns ps = (k : ℕ) (other : Pitch) → IsTurning ps k other → ⊥

-- the latest turning note, where there is one
abbrev pub IsLatestTurning : List Pitch → Option Pitch → Type 0
IsLatestTurning ps turning = MatchOption turning (NoneTurns ps) (IsLastTurning ps)

-- a note more
one_more : (c : Pitch) (ps : List Pitch) (k : ℕ) (p : Pitch) → IsTurning ps k p → IsTurning (c ∷ ps) (suc k) p
one_more c ps k p t =
    let one : suc k + 1 ≡ suc (k + 1) = omega arith in
    let two : suc k + 2 ≡ suc (k + 2) = omega arith in
    record {
      before = t.before;
      next = t.next;
      came_next = t.came_next;
      here = ap (slice_get (c ∷ ps)) one ∙ t.here;
      came_before = ap (slice_get (c ∷ ps)) two ∙ t.came_before;
      turns = t.turns;
    }

one_less : (c : Pitch) (ps : List Pitch) (k : ℕ) (p : Pitch) → IsTurning (c ∷ ps) (suc k) p → IsTurning ps k p
one_less c ps k p t =
    let one : suc (k + 1) ≡ suc k + 1 = omega arith in
    let two : suc (k + 2) ≡ suc k + 2 = omega arith in
    record {
      before = t.before;
      next = t.next;
      came_next = t.came_next;
      here = ap (slice_get (c ∷ ps)) one ∙ t.here;
      came_before = ap (slice_get (c ∷ ps)) two ∙ t.came_before;
      turns = t.turns;
    }

-- of two notes none turns
too_few : (ps : List Pitch) → length ps < 3 → NoneTurns ps
too_few ps h k p t = absurd (omega (arith, h, slice_get_within ps (k + 2) t.before t.came_before))

module _ (c q r : Pitch) (ps : List Pitch) where
  abbrev now : Bool
  now = opposite_ways (interval_between r q) (interval_between q c)

  turned : now ≡ true → IsLastTurning (c ∷ q ∷ r ∷ ps) q
  turned e =
      record {
        place = 0;
        is_turning = record { before = r; next = c; came_next = refl; here = refl; came_before = refl; turns = e };
        latest = λ k p lt. absurd (omega (arith, lt));
      }

  -- by the newest note none turned
  not_now : now ≡ false → (p : Pitch) → IsTurning (c ∷ q ∷ r ∷ ps) 0 p → ⊥
  not_now e p t = let first = t.came_before in let here = t.here in let next = t.came_next in let turns = t.turns in cc

  none : now ≡ false → NoneTurns (q ∷ r ∷ ps) → NoneTurns (c ∷ q ∷ r ∷ ps)
  none e h zero p t = not_now e p t
  none e h (suc k) p t = h k p (one_less c (q ∷ r ∷ ps) k p t)

  still : now ≡ false → (turning : Option Pitch) → IsLatestTurning (q ∷ r ∷ ps) turning
      → IsLatestTurning (c ∷ q ∷ r ∷ ps) turning
  still e None h = none e h
  still e (Some p) h =
      record { place = suc h.place; is_turning = one_more c (q ∷ r ∷ ps) h.place p h.is_turning; latest = later }
    where
      later : (k : ℕ) (other : Pitch) → k < suc h.place → IsTurning (c ∷ q ∷ r ∷ ps) k other → ⊥
      later zero other lt t = not_now e other t
      later (suc k) other lt t = h.latest k other (omega (arith, lt)) (one_less c (q ∷ r ∷ ps) k other t)

  grown : (b : Bool) → now ≡ b → IsLatestTurning (q ∷ r ∷ ps) (latest_turning (q ∷ r ∷ ps))
      → IsLatestTurning (c ∷ q ∷ r ∷ ps) (if b then Some q else latest_turning (q ∷ r ∷ ps))
  grown true e h = turned e
  grown false e h = still e (latest_turning (q ∷ r ∷ ps)) h

-- the fold finds it
pub latest_turning_is : (ps : List Pitch) → IsLatestTurning ps (latest_turning ps)
latest_turning_is [] = too_few [] (omega arith)
latest_turning_is (c ∷ []) = too_few (c ∷ []) (omega arith)
latest_turning_is (c ∷ q ∷ []) = too_few (c ∷ q ∷ []) (omega arith)
latest_turning_is (c ∷ q ∷ r ∷ ps) = grown c q r ps (now c q r ps) refl (latest_turning_is (q ∷ r ∷ ps))

-- there is one at most
same_place : (ps : List Pitch) (k : ℕ) (p q : Pitch) → IsTurning ps k p → IsTurning ps k q → p ≡ q
same_place ps k p q t u = let one = t.here in let other = u.here in cc

one_last : (ps : List Pitch) (p q : Pitch) → IsLastTurning ps p → IsLastTurning ps q → p ≡ q
one_last ps p q a b =
    elim (cases_lt a.place b.place) [
      | inl h ↦ absurd (b.latest a.place p h a.is_turning)
      | inr h ↦ elim (cases_lt b.place a.place) [
        | inl g ↦ absurd (a.latest b.place q g b.is_turning)
        | inr g ↦ (let same : b.place ≡ a.place = omega (arith, h, g) in
            let P : ℕ → Type 0 = λ k. IsTurning ps k q in
            same_place ps a.place p q a.is_turning (subst P same b.is_turning))
      ]
    ]

pub latest_turning_is_one : (ps : List Pitch) (s t : Option Pitch) → IsLatestTurning ps s → IsLatestTurning ps t → s ≡ t
latest_turning_is_one ps None None a b = refl
latest_turning_is_one ps None (Some t) a b = absurd (a b.place t b.is_turning)
latest_turning_is_one ps (Some s) None a b = absurd (b a.place s a.is_turning)
latest_turning_is_one ps (Some s) (Some t) a b = ap Some (one_last ps s t a b)
