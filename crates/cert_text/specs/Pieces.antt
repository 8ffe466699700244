-- Texts of pieces that stand one behind the other, and where bytes stop being the front of one.
use Rattle.std.specs.Prelude.{◌≡◌, ℕ, ◌≤◌, List, [], ◌∷◌, ◌++◌, length, take}

-- ---- which texts there are: a set of them tells what each of its texts says

-- this text, which says this
abbrev pub Fixed : {A : Type 0} → A → List ℕ → A → List ℕ → Type 0
Fixed a text x t = (x ≡ a) × (t ≡ text)

-- this text, which says nothing
abbrev pub Literal : List ℕ → Unit {0} → List ℕ → Type 0
Literal text = Fixed tt text

-- a byte of these, which says itself
abbrev pub OneByte : (ℕ → Type 0) → ℕ → List ℕ → Type 0
OneByte Is b t = Is b × (t ≡ b ∷ [])

-- a text of one set, and behind it one of those that stand behind what it says
pub record Then {A B : Type 0} (L : A → List ℕ → Type 0) (M : A → B → List ℕ → Type 0) (y : B) (text : List ℕ)
    : Type 0 where
  pub said : A
  pub front : List ℕ
  pub rest : List ℕ
  pub parts : text ≡ front ++ rest
  pub first : L said front
  pub behind : M said y rest

-- ---- what is read of bytes

-- the bytes are the front of a text
abbrev pub Begins : {A : Type 0} → (A → List ℕ → Type 0) → List ℕ → Type 0
Begins {A = A} L front = (x : A) × (rest : List ℕ) × L x (front ++ rest)

-- a text stands at the front of the bytes and says this, and these bytes stand behind it
abbrev pub Reads : {A : Type 0} → (A → List ℕ → Type 0) → List ℕ → A → List ℕ → Type 0
Reads L bytes x rest = (front : List ℕ) × (bytes ≡ front ++ rest) × L x front

-- the front of the bytes begins a text and is none, and with the next byte it begins none
pub record StopsAt {A : Type 0} (L : A → List ℕ → Type 0) (front rest : List ℕ) : Type 0 where
  pub begins : Begins L front
  pub open_ : (x : A) → L x front → ⊥
  pub longest : (b : ℕ) (more : List ℕ) → rest ≡ b ∷ more → Begins L (front ++ b ∷ []) → ⊥

-- so it is where so many bytes are left
pub record Stops {A : Type 0} (L : A → List ℕ → Type 0) (bytes : List ℕ) (left : ℕ) : Type 0 where
  pub front : List ℕ
  pub rest : List ℕ
  pub parts : bytes ≡ front ++ rest
  pub count : length rest ≡ left
  pub here : StopsAt L front rest

-- ---- texts at the front of bytes

-- a text that says this stands at the front of the bytes, and has so many of them
pub record Stands {A : Type 0} (L : A → List ℕ → Type 0) (bytes : List ℕ) (x : A) (used : ℕ) : Type 0 where
  pub within : used ≤ length bytes
  pub text : L x (take used bytes)

-- no text stands there, and so many of the bytes are the longest front by which one goes on
pub record GoesTo {A : Type 0} (L : A → List ℕ → Type 0) (bytes : List ℕ) (at : ℕ) : Type 0 where
  pub within : at ≤ length bytes
  pub begins : Begins L (take at bytes)
  pub longest : (n : ℕ) → n ≤ length bytes → Begins L (take n bytes) → n ≤ at
  pub unfinished : (x : A) (n : ℕ) → Stands L bytes x n → ⊥
