-- One element more of those that are read in turn (`each_next`, `each_fails`, `each_done`), what
-- was read of the first (`each_ok`), and what is read of each of a list (`each_map`).
use Rattle.std.proofs.Common.{◌≡◌, List, [], ◌∷◌, ◌++◌, map, Result, Ok, Err, refl, sym, ◌∙◌, ap, append_assoc, subst}
use Rattle.std.proofs.lemmas.List.{append-nil}
use Rattle.smf_score.specs.declared.fault.SmfFault.{SmfFault}
use Rattle.smf_score.specs.declared.fault.SmfFault.TheVariants as faults
use Rattle.smf_score.specs.Faults.{◌>>=◌, Fails, each}

-- a fault that reading gives is a fault of the answer
pub fails_from : {Y : Type 0} (e : SmfFault) (read : Result Y SmfFault) → read ≡ Err e → Fails e read
fails_from faults.Memory read h = tt
fails_from e read h = h

bind_fails : {A B : Type 0} (e : SmfFault) (r : Result A SmfFault) (f : A → Result B SmfFault) → Fails e r
    → Fails e (r >>= f)
bind_fails faults.Memory r f h = tt
bind_fails e r f h = ap (λ (s : Result _ SmfFault). s >>= f) h

abbrev answer : {A : Type 0} → A → Result A SmfFault
answer x = Ok x

pub ok_is : {A : Type 0} (x y : A) → answer x ≡ answer y → x ≡ y
ok_is x y e = cc

pub bind_ok : {A B : Type 0} (r : Result A SmfFault) (f : A → Result B SmfFault) (y : B) → (r >>= f) ≡ Ok y
    → (x : A) × (r ≡ Ok x) × (f x ≡ Ok y)
bind_ok (Ok x) f y e = (x, refl, e)
bind_ok (Err d) f y e = absurd cc

-- a step that has this value goes on with it
pub value_then : {A B : Type 0} (r : Result A SmfFault) (f : A → Result B SmfFault) (x : A) → r ≡ Ok x
    → (r >>= f) ≡ f x
value_then r f x e = ap (λ (s : Result _ SmfFault). s >>= f) e

module _ {X Y : Type 0} (read : X → Result Y SmfFault) where
  -- what was read before, and what is still read
  abbrev pub with_front : List Y → List X → Result (List Y) SmfFault
  with_front front xs = each read xs >>= λ ys. Ok (front ++ ys)

  regroup : (front : List Y) (y : Y) (r : Result (List Y) SmfFault)
      → (r >>= λ ys. answer (front ++ y ∷ [] ++ ys)) ≡ (r >>= (λ ys. answer (y ∷ ys)) >>= λ ys. answer (front ++ ys))
  regroup front y (Ok ys) = ap answer (append_assoc front (y ∷ []) ys)
  regroup front y (Err f) = refl

  each_more : (x : X) (xs : List X) (front : List Y) (y : Y) → Ok y ≡ read x
      → with_front (front ++ y ∷ []) xs ≡ with_front front (x ∷ xs)
  unfolding each
  each_more x xs front y e = rw (← e) (regroup front y (each read xs))

  pub each_next : (x : X) (xs rest : List X) (front : List Y) (y : Y) (all : Result (List Y) SmfFault)
      → with_front front xs ≡ all → xs ≡ x ∷ rest → Ok y ≡ read x → with_front (front ++ y ∷ []) rest ≡ all
  each_next x xs rest front y all so_far next e =
      each_more x rest front y e ∙ ap (with_front front) (sym next) ∙ so_far

  each_fault : (x : X) (xs : List X) (front : List Y) (f : SmfFault) → Fails f (read x)
      → Fails f (with_front front (x ∷ xs))
  unfolding each
  each_fault x xs front f h = bind_fails f (each read (x ∷ xs)) _ (bind_fails f (read x) _ h)

  pub each_fails : (x : X) (xs rest : List X) (front : List Y) (f : SmfFault) (all : Result (List Y) SmfFault)
      → with_front front xs ≡ all → xs ≡ x ∷ rest → Fails f (read x) → Fails f all
  each_fails x xs rest front f all so_far next h =
      subst (Fails f) (ap (with_front front) (sym next) ∙ so_far) (each_fault x rest front f h)

  pub each_done : (xs : List X) (front : List Y) (all : Result (List Y) SmfFault) → with_front front xs ≡ all → xs ≡ []
      → all ≡ Ok front
  unfolding each
  each_done xs front all so_far none =
      sym so_far ∙ ap (with_front front) none ∙ ap answer (append-nil front)

  -- what was read of the first element, and of those behind it
  pub each_ok : (x : X) (xs : List X) (ys : List Y) → each read (x ∷ xs) ≡ Ok ys
      → (first : Y) × (others : List Y) × (read x ≡ Ok first) × (each read xs ≡ Ok others) × (first ∷ others ≡ ys)
  unfolding each
  each_ok x xs ys e =
      let first = bind_ok (read x) _ ys e in
      let others = bind_ok (each read xs) _ ys first.2 in
      (first.0, others.0, first.1, others.1, ok_is (first.0 ∷ others.0) ys others.2)

  -- where this is read of an element
  pub each_then : (x : X) (xs : List X) (y : Y) (ys : List Y) → read x ≡ Ok y → each read xs ≡ Ok ys
      → each read (x ∷ xs) ≡ Ok (y ∷ ys)
  unfolding each
  each_then x xs y ys first others = rw (first, others) refl

  pub each_map : {A : Type 0} (f : A → X) (g : A → Y) (xs : List A) → ((x : A) → read (f x) ≡ Ok (g x))
      → each read (map f xs) ≡ Ok (map g xs)
  unfolding each
  each_map f g [] h = refl
  each_map f g (x ∷ xs) h = each_then (f x) (map f xs) (g x) (map g xs) (h x) (each_map f g xs h)
