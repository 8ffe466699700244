-- Where shapes rest: only in the first bar, and there only before any note.
use Rattle.std.proofs.Common.{◌≡◌, ℕ, ◌==◌, Bool, true, false, ◌&&◌, ◌||◌, List, [], ◌∷◌, ◌++◌, refl, sym, subst, inl, inr}
use Rattle.std.specs.Prelude.{nat_eq, codes, not, if◌then◌else◌}
use Rattle.std.specs.List.{list_all, starts_with}
use Rattle.std.proofs.lemmas.Bool.{and_parts, or_cases, both_ways, cond_both, eqb-true}
use Rattle.fux_grid.specs.Shapes.{begins_shape, shapes_in, whole_note, second_shapes, third_shapes, fourth_shapes, fifth_shapes, florid_starts}

-- no letter is a rest's
abbrev pub has_no_rest : List ℕ → Bool
has_no_rest [] = true
has_no_rest (l ∷ letters) = not (l == 82) && has_no_rest letters

-- rests stand only before the other letters
abbrev pub rests_lead : List ℕ → Bool
rests_lead [] = true
rests_lead (l ∷ letters) = if l == 82 then rests_lead letters else has_no_rest letters

-- all letters are rests'
abbrev pub all_rest : List ℕ → Bool
all_rest = list_all (λ l. l == 82)

-- what holds of each table holds of the shapes of every species
of_tables : (test : List ℕ → Bool) (species bar bars : ℕ) → list_all test whole_note ≡ true
    → list_all test (second_shapes bar) ≡ true → list_all test (third_shapes bar) ≡ true
    → list_all test (fourth_shapes bar) ≡ true → list_all test (fifth_shapes bar) ≡ true
    → list_all test (shapes_in species bar bars) ≡ true
of_tables test species bar bars a b c d e =
    let P : List (List ℕ) → Type 0 = λ shapes. list_all test shapes ≡ true in
    cond_both ((species == 1) || (bar == bars)) _ _ P (λ _. a)
    (λ _. cond_both (species == 2) _ _ P (λ _. b)
    (λ _. cond_both (species == 3) _ _ P (λ _. c)
    (λ _. cond_both (species == 4) _ _ P (λ _. d) (λ _. e))))

-- in every shape rests lead
shapes_lead : (species bar bars : ℕ) → list_all rests_lead (shapes_in species bar bars) ≡ true
shapes_lead species bar bars =
    of_tables rests_lead species bar bars refl
    (cond_both (bar == 1) _ _ (λ others. list_all rests_lead (codes "SHHHSHHH" ∷ others) ≡ true) (λ _. refl)
    (λ _. refl))
    (cond_both (bar == 1) _ _ (λ others. list_all rests_lead (codes "SHSHSHSH" ∷ others) ≡ true) (λ _. refl)
    (λ _. refl))
    (cond_both (bar == 1) _ _ (λ shapes. list_all rests_lead shapes ≡ true) (λ _. refl) (λ _. refl))
    (cond_both (bar == 1) _ _ (λ others. list_all rests_lead (florid_starts ++ others) ≡ true) (λ _. refl) (λ _. refl))

-- behind the first bar no shape rests
later_shapes_sound : (species bar bars : ℕ) → (bar == 1) ≡ false → list_all has_no_rest (shapes_in species bar bars)
    ≡ true
later_shapes_sound species bar bars later =
    of_tables has_no_rest species bar bars refl
    (cond_both (bar == 1) _ _ (λ others. list_all has_no_rest (codes "SHHHSHHH" ∷ others) ≡ true)
    (λ e. absurd (both_ways (bar == 1) later e)) (λ _. refl))
    (cond_both (bar == 1) _ _ (λ others. list_all has_no_rest (codes "SHSHSHSH" ∷ others) ≡ true)
    (λ e. absurd (both_ways (bar == 1) later e)) (λ _. refl))
    (cond_both (bar == 1) _ _ (λ shapes. list_all has_no_rest shapes ≡ true)
    (λ e. absurd (both_ways (bar == 1) later e)) (λ _. refl))
    (cond_both (bar == 1) _ _ (λ others. list_all has_no_rest (florid_starts ++ others) ≡ true)
    (λ e. absurd (both_ways (bar == 1) later e)) (λ _. refl))

-- a shape without rests begins with no letters that end with one
no_rest_in : (shape letters : List ℕ) → has_no_rest shape ≡ true → starts_with nat_eq shape (letters ++ 82 ∷ []) ≡ true
    → ⊥
no_rest_in [] [] sound h = cc
no_rest_in [] (l ∷ letters) sound h = cc
no_rest_in (s ∷ shape) [] sound h =
    let same : 82 ≡ s = eqb-true 82 s (and_parts (nat_eq 82 s) true h).0 in
    let P : ℕ → Type 0 = λ n. (not (n == 82) && has_no_rest shape) ≡ true in
    let e : false ≡ true = subst P (sym same) sound in cc
no_rest_in (s ∷ shape) (l ∷ letters) sound h =
    no_rest_in shape letters (and_parts (not (s == 82)) (has_no_rest shape) sound).1
    (and_parts (nat_eq l s) (starts_with nat_eq shape (letters ++ 82 ∷ [])) h).1

-- where rests lead, all letters before a rest are rests'
led_by_rests : (shape letters : List ℕ) → rests_lead shape ≡ true → starts_with nat_eq shape (letters ++ 82 ∷ []) ≡ true
    → all_rest letters ≡ true
led_by_rests shape [] lead h = refl
led_by_rests [] (l ∷ letters) lead h = cc
led_by_rests (s ∷ shape) (l ∷ letters) lead h =
    let both = and_parts (nat_eq l s) (starts_with nat_eq shape (letters ++ 82 ∷ [])) h in
    let P : ℕ → Type 0 = λ n. (if n == 82 then rests_lead shape else has_no_rest shape) ≡ true in
    rest_or_not (l == 82) (rests_lead shape) (has_no_rest shape) (all_rest letters)
    (subst P (sym (eqb-true l s both.0)) lead)
    (λ lead. led_by_rests shape letters lead both.1) (λ sound. no_rest_in shape letters sound both.1)
  where
    rest_or_not : (b x y all : Bool) → (if b then x else y) ≡ true → (x ≡ true → all ≡ true) → (y ≡ true → ⊥)
        → (b && all) ≡ true
    rest_or_not true x y all e f g = f e
    rest_or_not false x y all e f g = absurd (g e)

-- what each shape that begins so shows, the letters show
from_some_shape : (test : List ℕ → Bool) (shapes : List (List ℕ)) (letters : List ℕ) (P : Type 0) → list_all test shapes
    ≡ true → begins_shape shapes letters ≡ true
    → ((shape : List ℕ) → test shape ≡ true → starts_with nat_eq shape letters ≡ true → P) → P
from_some_shape test [] letters P all h f = cc
from_some_shape test (shape ∷ shapes) letters P all h f =
    let parts = and_parts (test shape) (list_all test shapes) all in
    elim (or_cases (starts_with nat_eq shape letters) (begins_shape shapes letters) h) [
      | inl e ↦ f shape parts.0 e
      | inr e ↦ from_some_shape test shapes letters P parts.1 e f
    ]

-- in no bar but the first do letters that begin a shape end with a rest
pub no_later_rest : (species bar bars : ℕ) (letters : List ℕ) → (bar == 1) ≡ false
    → begins_shape (shapes_in species bar bars) (letters ++ 82 ∷ []) ≡ true → ⊥
no_later_rest species bar bars letters later h =
    from_some_shape has_no_rest (shapes_in species bar bars) (letters ++ 82 ∷ []) ⊥
    (later_shapes_sound species bar bars later) h (λ shape. no_rest_in shape letters)

-- where letters that begin a shape end with a rest, all of them are rests'
pub rests_before_rest : (species bar bars : ℕ) (letters : List ℕ)
    → begins_shape (shapes_in species bar bars) (letters ++ 82 ∷ []) ≡ true → all_rest letters ≡ true
rests_before_rest species bar bars letters h =
    from_some_shape rests_lead (shapes_in species bar bars) (letters ++ 82 ∷ []) (all_rest letters ≡ true)
    (shapes_lead species bar bars) h (λ shape. led_by_rests shape letters)
