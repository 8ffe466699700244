-- How many paths there are of a kind.
use Rattle.std.proofs.Common.{◌≡◌, ◌≢◌, ℕ, ◌+◌, ◌<◌, ◌≤◌, ◌⊎◌, inl, inr, ⊎_elim, List, [], ◌∷◌, ◌++◌, length, refl, sym, ◌∙◌, arith, length-append}
use Rattle.std.specs.List.{AllByRecursion}
use Rattle.tree_search.specs.Answer.{AllDiffer, Many, AtMost}
use Rattle.tree_search.specs.Walks.{IsAmong, Exactly}

pub each_by : (P Q : List ℕ → Type 0) → ((x : List ℕ) → P x → Q x) → (xs : List (List ℕ)) → AllByRecursion P xs
    → AllByRecursion Q xs
each_by P Q f [] h = tt
each_by P Q f (x ∷ xs) h = (f x h.0, each_by P Q f xs h.1)

each_both : (P Q R : List ℕ → Type 0) → ((x : List ℕ) → P x → Q x → R x) → (xs : List (List ℕ)) → AllByRecursion P xs
    → AllByRecursion Q xs → AllByRecursion R xs
each_both P Q R f [] h k = tt
each_both P Q R f (x ∷ xs) h k = (f x h.0 k.0, each_both P Q R f xs h.1 k.1)

each_append : (P : List ℕ → Type 0) (xs ys : List (List ℕ)) → AllByRecursion P xs → AllByRecursion P ys
    → AllByRecursion P (xs ++ ys)
each_append P [] ys h k = k
each_append P (x ∷ xs) ys h k = (h.0, each_append P xs ys h.1 k)

AllDiffer-append : (P Q : List ℕ → Type 0) → ((x y : List ℕ) → P x → Q y → x ≢ y) → (xs ys : List (List ℕ)) →
    AllDiffer xs → AllDiffer ys → AllByRecursion P xs → AllByRecursion Q ys → AllDiffer (xs ++ ys)
AllDiffer-append P Q apart [] ys d e p q = e
AllDiffer-append P Q apart (x ∷ xs) ys d e p q = (
  each_append (λ y. x ≢ y) xs ys d.0 (each_by Q (λ y. x ≢ y) (λ y. apart x y p.0) ys q),
  AllDiffer-append P Q apart
      xs ys d.1 e p.1 q,
)

IsAmong-left : (xs ys : List (List ℕ)) (path : List ℕ) → IsAmong xs path → IsAmong (xs ++ ys) path
IsAmong-left [] ys path h = absurd h
IsAmong-left (x ∷ xs) ys path (inl same) = inl same
IsAmong-left (x ∷ xs) ys path (inr h) = inr (IsAmong-left xs ys path h)

IsAmong-right : (xs ys : List (List ℕ)) (path : List ℕ) → IsAmong ys path → IsAmong (xs ++ ys) path
IsAmong-right [] ys path h = h
IsAmong-right (x ∷ xs) ys path h = inr (IsAmong-right xs ys path h)

-- a list without one of its paths
without : (xs : List (List ℕ)) (path : List ℕ) → IsAmong xs path →
    (rest : List (List ℕ)) × (length xs ≡ length rest + 1)
    × ((other : List ℕ) → path ≢ other → IsAmong xs other → IsAmong rest other)
without [] path h = absurd h
without (x ∷ xs) path (inl same) =
    (xs, omega arith, λ other apart h. ⊎_elim (λ e. absurd (apart (same ∙ sym e))) (λ more. more) h)
without (x ∷ xs) path (inr h) =
    let less = without xs path h in
    (x ∷ less.0, omega (arith, less.1), λ other apart h. ⊎_elim (λ e. inl e) (λ more. inr (less.2 other apart more)) h)

-- paths that differ, each of which is among others, are at most as many
pub length-le-among : (xs ys : List (List ℕ)) → AllDiffer xs → AllByRecursion (IsAmong ys) xs → length xs ≤ length ys
length-le-among [] ys differ among = omega arith
length-le-among (x ∷ xs) ys differ among =
    let rest = without ys x among.0 in
    omega (
      arith,
      rest.1,
      length-le-among xs rest.0 differ.1
          (each_both (λ y. x ≢ y) (IsAmong ys) (IsAmong rest.0) (λ y apart h. rest.2 y apart h) xs differ.0 among.1),
    )

pub Many-one : (Kind : List ℕ → Type 0) (path : List ℕ) → Kind path → Many Kind 1
Many-one Kind path is = record { paths = path ∷ []; counted = refl; differ = (tt, tt); kind = (is, tt) }

pub Many-by : (P Q : List ℕ → Type 0) → ((x : List ℕ) → P x → Q x) → (n m : ℕ) → n ≡ m → Many P n → Many Q m
Many-by P Q f n m same h =
    record { paths = h.paths; counted = h.counted ∙ same; differ = h.differ; kind = each_by P Q f h.paths h.kind }

pub Many-add : (P Q R : List ℕ → Type 0) → ((x y : List ℕ) → P x → Q y → x ≢ y) → ((x : List ℕ) → P x → R x)
    → ((x : List ℕ) → Q x → R x) →
    (a b n : ℕ) → n ≡ a + b → Many P a → Many Q b → Many R n
Many-add P Q R apart left right a b n sum h k = record {
  paths = h.paths ++ k.paths;
  counted = omega (arith, length-append h.paths k.paths, h.counted, k.counted);
  differ = AllDiffer-append P Q apart h.paths k.paths h.differ k.differ h.kind k.kind;
  kind = each_append R h.paths k.paths (each_by P R left h.paths h.kind) (each_by Q R right k.paths k.kind);
}

pub Exactly-none : (Kind : List ℕ → Type 0) (n : ℕ) → n ≡ 0 → ((x : List ℕ) → Kind x → ⊥) → Exactly Kind n
Exactly-none Kind n zero none =
    record { many = record { paths = []; counted = sym zero; differ = tt; kind = tt }; all = none }

pub Exactly-one : (Kind : List ℕ → Type 0) (path : List ℕ) (n : ℕ) → n ≡ 1 → Kind path
    → ((x : List ℕ) → Kind x → x ≡ path) → Exactly Kind n
Exactly-one Kind path n one is alone = record {
  many = record { paths = path ∷ []; counted = sym one; differ = (tt, tt); kind = (is, tt) };
  all = λ x h. inl (alone x h);
}

pub Exactly-by : (P Q : List ℕ → Type 0) → ((x : List ℕ) → P x → Q x) → ((x : List ℕ) → Q x → P x) → (n m : ℕ) → n ≡ m
    → Exactly P n → Exactly Q m
unfolding Many-by
Exactly-by P Q f g n m same h = record { many = Many-by P Q f n m same h.many; all = λ x is. h.all x (g x is) }

pub Exactly-add : (P Q R : List ℕ → Type 0) → ((x y : List ℕ) → P x → Q y → x ≢ y) → ((x : List ℕ) → P x → R x)
    → ((x : List ℕ) → Q x → R x) →
    ((x : List ℕ) → R x → P x ⊎ Q x) → (a b n : ℕ) → n ≡ a + b → Exactly P a → Exactly Q b → Exactly R n
unfolding Many-add
Exactly-add P Q R apart left right parts a b n sum h k = record {
  many = Many-add P Q R apart left right a b n sum h.many k.many;
  all = λ x is. ⊎_elim
      (λ p. IsAmong-left h.many.paths k.many.paths x (h.all x p))
      (λ q. IsAmong-right h.many.paths k.many.paths x (k.all x q))
      (parts x is);
}

pub AtMost-from : (Kind : List ℕ → Type 0) (n : ℕ) → Exactly Kind n → AtMost Kind n
AtMost-from Kind n h paths differ kind =
    omega (
      arith,
      h.many.counted,
      length-le-among paths h.many.paths differ
          (each_by Kind (IsAmong h.many.paths) h.all paths kind),
    )

-- at most as many, and more, are not both
pub no_more : (Kind : List ℕ → Type 0) (n m : ℕ) → n < m → AtMost Kind n → Many Kind m → ⊥
no_more Kind n m less most many = omega (arith, most many.paths many.differ many.kind, many.counted)
