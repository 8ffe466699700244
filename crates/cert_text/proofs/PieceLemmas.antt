-- A text of two pieces is read piece by piece: it is read where both are (`reads-then`), and
-- reading stops where it stops at the first one (`stops-first`) or at the second (`stops-behind`).
-- No text of a set begins another one where none of its pieces does (`then-alone`).
use Rattle.std.proofs.Common.{◌≡◌, ◌≢◌, ◌⊎◌, inl, inr, ℕ, ◌+◌, ◌-◌, ◌≤◌, ◌<◌, List, [], ◌∷◌, ◌++◌, length, length-append, length-drop, take, drop, get_or, refl, sym, ap, subst, ◌∙◌, append_assoc, append-nil, arith}
use Rattle.std.specs.Prelude.{IfErr, IfOk, Result, Ok, Err}
use Rattle.std.proofs.lemmas.List.{append_cancel_left, drop_more, length-take-le, take-append-drop}
use Rattle.cert_text.specs.Pieces.{Fixed, Literal, OneByte, Reads, Stops, StopsAt, Then}

-- ---- sets of texts

-- no text begins another one, and each says one thing
abbrev pub Alone : {A : Type 0} → (A → List ℕ → Type 0) → Type 0
Alone {A = A} L =
    (x y : A) (f g a b : List ℕ) → L x f → L y g → f ++ a ≡ g ++ b → (x ≡ y) × (f ≡ g)

-- there is a text
abbrev pub Live : {A : Type 0} → (A → List ℕ → Type 0) → Type 0
Live {A = A} L = (x : A) × (t : List ℕ) × L x t

-- one of two lists that begin alike begins the other
pub two_fronts : (xs ys us vs : List ℕ) → xs ++ ys ≡ us ++ vs
    → ((m : List ℕ) × (us ≡ xs ++ m) × (ys ≡ m ++ vs)) ⊎ ((m : List ℕ) × (xs ≡ us ++ m) × (vs ≡ m ++ ys))
two_fronts [] ys us vs e = inl (us, refl, e)
two_fronts (x ∷ xs) ys [] vs e = inr (x ∷ xs, refl, sym e)
two_fronts (x ∷ xs) ys (u ∷ us) vs e =
    let same : x ≡ u = cc in
    let later : xs ++ ys ≡ us ++ vs = cc in
    by same (two_fronts xs ys us vs later)
  where
    by : x ≡ u → ((m : List ℕ) × (us ≡ xs ++ m) × (ys ≡ m ++ vs)) ⊎ ((m : List ℕ) × (xs ≡ us ++ m) × (vs ≡ m ++ ys))
        → ((m : List ℕ) × (u ∷ us ≡ x ∷ xs ++ m) × (ys ≡ m ++ vs))
        ⊎ ((m : List ℕ) × (x ∷ xs ≡ u ∷ us ++ m) × (vs ≡ m ++ ys))
    by same (inl (m, a, b)) = inl (m, ap (λ t. u ∷ t) a ∙ ap (λ c. c ∷ xs ++ m) (sym same), b)
    by same (inr (m, a, b)) = inr (m, ap (λ t. x ∷ t) a ∙ ap (λ c. c ∷ us ++ m) same, b)

pub none_behind : (f m : List ℕ) → f ≡ f ++ m → m ≡ []
none_behind f [] e = refl
none_behind f (x ∷ m) e = absurd (omega (arith, ap length e, length-append f (x ∷ m)))

pub then-alone : {A B : Type 0} (L : A → List ℕ → Type 0) (M : A → B → List ℕ → Type 0) → Alone L
    → ((x : A) → Alone (M x)) → Alone (Then L M)
then-alone L M one others y z f g a b s t e =
    let whole : s.front ++ (s.rest ++ a) ≡ t.front ++ (t.rest ++ b) =
    sym (append_assoc s.front s.rest a) ∙ ap (λ w. w ++ a) (sym s.parts) ∙ e ∙ ap (λ w. w ++ b) t.parts
    ∙ append_assoc t.front t.rest b in
    let first = one s.said t.said s.front t.front (s.rest ++ a) (t.rest ++ b) s.first t.first whole in
    let later : s.rest ++ a ≡ t.rest ++ b =
    append_cancel_left s.front (s.rest ++ a) (t.rest ++ b)
    (whole ∙ ap (λ w. w ++ (t.rest ++ b)) (sym first.1)) in
    let second =
    others t.said y z s.rest t.rest a b (subst (λ x. M x y s.rest) first.0 s.behind) t.behind later in
    (second.0, s.parts ∙ ap (λ w. w ++ s.rest) first.1 ∙ ap (λ w. t.front ++ w) second.1 ∙ sym t.parts)

pub then-live : {A B : Type 0} (L : A → List ℕ → Type 0) (M : A → B → List ℕ → Type 0) (x : A) (t : List ℕ) → L x t
    → Live (M x) → Live (Then L M)
then-live L M x t first (y, u, behind) =
    (y, t ++ u, record { said = x; front = t; rest = u; parts = refl; first = first; behind = behind })

pub fixed-alone : {A : Type 0} (a : A) (text : List ℕ) → Alone (Fixed a text)
fixed-alone a text x y f g u v s t e = (s.0 ∙ sym t.0, s.1 ∙ sym t.1)

pub byte-alone : (Is : ℕ → Type 0) → Alone (OneByte Is)
byte-alone Is x y f g a b s t e =
    let whole : x ∷ a ≡ y ∷ b = ap (λ w. w ++ a) (sym s.1) ∙ e ∙ ap (λ w. w ++ b) t.1 in
    let same : x ≡ y = cc in
    (same, s.1 ∙ ap (λ c. c ∷ []) same ∙ sym t.1)

-- both: no text begins another one, and there is a text
pub record Plain {A : Type 0} (L : A → List ℕ → Type 0) : Type 0 where
  pub alone : Alone L
  pub live : Live L

pub fixed-plain : {A : Type 0} (a : A) (text : List ℕ) → Plain (Fixed a text)
fixed-plain a text = record { alone = fixed-alone a text; live = (a, text, (refl, refl)) }

pub byte-plain : (Is : ℕ → Type 0) (c : ℕ) → Is c → Plain (OneByte Is)
byte-plain Is c some = record { alone = byte-alone Is; live = (c, c ∷ [], (some, refl)) }

pub then-plain : {A B : Type 0} (L : A → List ℕ → Type 0) (M : A → B → List ℕ → Type 0) → Plain L → ((x : A) → Plain (M x))
    → Plain (Then L M)
then-plain L M first behind = record {
  alone = then-alone L M first.alone (λ x. (behind x).alone);
  live = then-live L M first.live.0 first.live.1 first.live.2 (behind first.live.0).live;
}

-- ---- reading

pub reads-then : {A B : Type 0} (L : A → List ℕ → Type 0) (M : A → B → List ℕ → Type 0) (bytes mid rest : List ℕ) (x : A)
    (y : B) → Reads L bytes x mid → Reads (M x) mid y rest → Reads (Then L M) bytes y rest
reads-then L M bytes mid rest x y (f, e, first) (g, e', behind) = (
  f ++ g,
  e ∙ ap (λ w. f ++ w) e' ∙ sym (append_assoc f g rest),
  record { said = x; front = f; rest = g; parts = refl; first = first; behind = behind },
)

-- no text stands at the front of what begins one and is none
pub none_before : {A : Type 0} (L : A → List ℕ → Type 0) (front rest : List ℕ) → Alone L → StopsAt L front rest → (x : A)
    (f m : List ℕ) → L x f → front ≡ f ++ m → ⊥
none_before L front rest alone stop x f m text e =
    let begun = stop.begins in
    let whole : (front ++ begun.1) ++ [] ≡ f ++ (m ++ begun.1) =
    append-nil (front ++ begun.1) ∙ ap (λ w. w ++ begun.1) e ∙ append_assoc f m begun.1 in
    let same = alone begun.0 x (front ++ begun.1) f [] (m ++ begun.1) begun.2 text whole in
    let none : begun.1 ≡ [] = none_behind front begun.1 (front_is (sym same.1)) in
    stop.open_ begun.0 (subst (λ w. L begun.0 w) (ap (λ r. front ++ r) none ∙ append-nil front) begun.2)
  where
    empty : (r : List ℕ) → length r ≤ 0 → r ≡ []
    empty [] h = refl
    empty (x ∷ r) h = absurd (omega (arith, h))

    front_is : f ≡ front ++ stop.begins.1 → front ≡ front ++ stop.begins.1
    front_is same =
        let long : length front ≡ length f + length m = ap length e ∙ length-append f m in
        let size : length f ≡ length front + length stop.begins.1 =
        ap length same ∙ length-append front stop.begins.1 in
        let none : stop.begins.1 ≡ [] = empty stop.begins.1 (omega (arith, long, size)) in
        sym (append-nil front) ∙ ap (λ w. front ++ w) (sym none)

pub first-stops : {A B : Type 0} (L : A → List ℕ → Type 0) (M : A → B → List ℕ → Type 0) (front rest : List ℕ)
    → Alone L → ((x : A) (t : List ℕ) → L x t → Live (M x)) → StopsAt L front rest → StopsAt (Then L M) front rest
first-stops {B = B} L M front rest alone live stop = record {
  begins = let begun = stop.begins in
      let goes = live begun.0 (front ++ begun.1) begun.2 in (
        goes.0,
        begun.1 ++ goes.1,
        record {
          said = begun.0;
          front = front ++ begun.1;
          rest = goes.1;
          parts = sym (append_assoc front begun.1 goes.1);
          first = begun.2;
          behind = goes.2;
        },
      );
  open_ = λ y s. none_before L front rest alone stop s.said s.front s.rest s.first s.parts;
  longest = λ b more e (y, r, s).
      next b more e s (two_fronts front (b ∷ r) s.front s.rest (sym (append_assoc front (b ∷ []) r) ∙ s.parts));
}
  where
    next : (b : ℕ) (more : List ℕ) → rest ≡ b ∷ more → {y : B} {r : List ℕ} (s : Then L M y ((front ++ b ∷ []) ++ r))
        → ((m : List ℕ) × (s.front ≡ front ++ m) × (b ∷ r ≡ m ++ s.rest))
        ⊎ ((m : List ℕ) × (front ≡ s.front ++ m) × (s.rest ≡ m ++ b ∷ r))
        → ⊥
    next b more e s (inl ([], same, behind)) =
        stop.open_ s.said (subst (λ w. L s.said w) (same ∙ append-nil front) s.first)
    next b more e s (inl (c ∷ m, same, behind)) =
        let byte : c ≡ b = cc in
        stop.longest b more e (
          s.said,
          m,
          subst (λ w. L s.said w)
              (same ∙ ap (λ d. front ++ d ∷ m) byte ∙ sym (append_assoc front (b ∷ []) m)) s.first,
        )
    next b more e s (inr (m, same, behind)) = none_before L front rest alone stop s.said s.front m s.first same

pub behind-stops : {A B : Type 0} (L : A → List ℕ → Type 0) (M : A → B → List ℕ → Type 0) (f front rest : List ℕ) (x : A)
    → Alone L → L x f → StopsAt (M x) front rest → StopsAt (Then L M) (f ++ front) rest
behind-stops {B = B} L M f front rest x alone first stop = record {
  begins = let begun = stop.begins in (
    begun.0,
    begun.1,
    record {
      said = x;
      front = f;
      rest = front ++ begun.1;
      parts = append_assoc f front begun.1;
      first = first;
      behind = begun.2;
    },
  );
  open_ = λ y s. stop.open_ y (own y front s);
  longest = λ b more e (y, r, s). stop.longest b more e (
    y,
    r,
    own y ((front ++ b ∷ []) ++ r)
        (subst (λ w. Then L M y w)
        (ap (λ w. w ++ r) (append_assoc f front (b ∷ [])) ∙ append_assoc f (front ++ b ∷ []) r) s),
  );
}
  where
    -- what stands behind the first piece
    own : (y : B) (t : List ℕ) → Then L M y (f ++ t) → M x y t
    own y t s =
        let same = alone x s.said f s.front t s.rest first s.first s.parts in
        let later : t ≡ s.rest =
        append_cancel_left f t s.rest (s.parts ∙ ap (λ w. w ++ s.rest) (sym same.1)) in
        subst (λ z. M z y t) (sym same.0) (subst (λ w. M s.said y w) (sym later) s.behind)

-- ---- where so many bytes are left

pub stops-first : {A B : Type 0} (L : A → List ℕ → Type 0) (M : A → B → List ℕ → Type 0) (bytes : List ℕ) (left : ℕ)
    → Alone L → ((x : A) (t : List ℕ) → L x t → Live (M x)) → Stops L bytes left → Stops (Then L M) bytes left
stops-first L M bytes left alone live stop = record {
  front = stop.front;
  rest = stop.rest;
  parts = stop.parts;
  count = stop.count;
  here = first-stops L M stop.front stop.rest alone live stop.here;
}

pub stops-behind : {A B : Type 0} (L : A → List ℕ → Type 0) (M : A → B → List ℕ → Type 0) (bytes mid : List ℕ) (left : ℕ)
    (x : A) → Alone L → Reads L bytes x mid → Stops (M x) mid left → Stops (Then L M) bytes left
stops-behind L M bytes mid left x alone (f, e, first) stop = record {
  front = f ++ stop.front;
  rest = stop.rest;
  parts = e ∙ ap (λ w. f ++ w) stop.parts ∙ sym (append_assoc f stop.front stop.rest);
  count = stop.count;
  here = behind-stops L M f stop.front stop.rest x alone first stop.here;
}

pub stops-at : {A : Type 0} (L : A → List ℕ → Type 0) (bytes front rest : List ℕ) (left : ℕ) → bytes ≡ front ++ rest
    → length rest ≡ left → StopsAt L front rest → Stops L bytes left
stops-at L bytes front rest left parts count here =
    record { front = front; rest = rest; parts = parts; count = count; here = here }

-- ---- one byte

-- no byte of these comes next
pub byte-stops : (Is : ℕ → Type 0) (bytes : List ℕ) (c : ℕ) → Is c
    → ((b : ℕ) (more : List ℕ) → bytes ≡ b ∷ more → Is b → ⊥) → Stops (OneByte Is) bytes (length bytes)
byte-stops Is bytes c some none = record {
  front = [];
  rest = bytes;
  parts = refl;
  count = refl;
  here = record {
    begins = (c, c ∷ [], (some, refl));
    open_ = λ b s. no_text b s.1;
    longest = λ b more e (d, r, s). none b more e (subst Is (first b d r s.1) s.0);
  };
}
  where
    no_text : (b : ℕ) → [] ≡ b ∷ [] → ⊥
    no_text b e = absurd (omega (arith, ap length e))

    first : (b d : ℕ) (r : List ℕ) → b ∷ r ≡ d ∷ [] → d ≡ b
    first b d r e = cc

pub byte-stops_at_end : (Is : ℕ → Type 0) (bytes : List ℕ) (c : ℕ) → Is c → bytes ≡ [] → Stops (OneByte Is) bytes 0
byte-stops_at_end Is bytes c some none =
    subst (Stops (OneByte Is) bytes) (ap length none)
    (byte-stops Is bytes c some (λ b more e is. let both : [] ≡ b ∷ more = sym none ∙ e in absurd (grind (arith, both))))

-- ---- this text

-- so many bytes of it come next, and then another one or none
pub literal-stops : (text bytes : List ℕ) (i : ℕ) → i < length text → i ≤ length bytes → take i bytes ≡ take i text
    → ((b : ℕ) (more : List ℕ) → drop i bytes ≡ b ∷ more → get_or text i 0 ≢ b)
    → Stops (Literal text) bytes (length bytes - i)
literal-stops text bytes i here within same other = record {
  front = take i text;
  rest = drop i bytes;
  parts = sym (take-append-drop i bytes) ∙ ap (λ w. w ++ drop i bytes) same;
  count = length-drop i bytes;
  here = record {
    begins = (tt, drop i text, (refl, take-append-drop i text));
    open_ = λ x s. omega (arith, ap length s.1, length-take-le i text (omega (arith, here)), here);
    longest = λ b more e (x, r, s). other b more e (next b r s.1);
  };
}
  where
    next : (b : ℕ) (r : List ℕ) → (take i text ++ b ∷ []) ++ r ≡ text → get_or text i 0 ≡ b
    next b r e =
        let behind : b ∷ r ≡ drop i text =
        append_cancel_left (take i text) (b ∷ r) (drop i text)
        (sym (append_assoc (take i text) (b ∷ []) r) ∙ e ∙ sym (take-append-drop i text)) in
        let first : drop i text ≡ get_or text i 0 ∷ drop (i + 1) text = drop_more text i 0 here in
        let both : get_or text i 0 ∷ drop (i + 1) text ≡ b ∷ r = sym first ∙ sym behind in
        cc

-- another byte comes next
pub literal-differs : (text bytes : List ℕ) (i : ℕ) → i < length text → i < length bytes → take i bytes ≡ take i text
    → get_or bytes i 0 ≢ get_or text i 0 → Stops (Literal text) bytes (length bytes - i)
literal-differs text bytes i here within same other =
    literal-stops text bytes i here (omega (arith, within)) same
    (λ b more e f.
    let whole : get_or bytes i 0 ∷ drop (i + 1) bytes ≡ b ∷ more = sym (drop_more bytes i 0 within) ∙ e in
    let first : get_or bytes i 0 ≡ b = cc in
    other (first ∙ sym f))

-- the bytes end
pub literal-ends : (text bytes : List ℕ) (i : ℕ) → i < length text → i ≡ length bytes → take i bytes ≡ take i text
    → Stops (Literal text) bytes 0
literal-ends text bytes i here all same =
    let none : length bytes - i ≡ 0 = omega (arith, all) in
    subst (Stops (Literal text) bytes) none
    (literal-stops text bytes i here (omega (arith, all)) same
    (λ b more e f. omega (arith, ap length e, length-drop i bytes, all)))

-- ---- answers

pub IfOk-map : {A E : Type 0} {P Q : A → Type 0} (r : Result A E) → ((x : A) → P x → Q x) → IfOk r P → IfOk r Q
IfOk-map (Ok x) f h = f x h
IfOk-map (Err e) f h = tt

pub IfErr-map : {A E : Type 0} {P Q : E → Type 0} (r : Result A E) → ((e : E) → P e → Q e) → IfErr r P → IfErr r Q
IfErr-map (Ok x) f h = tt
IfErr-map (Err e) f h = f e h
