-- What is asked of a word that stands where a fault is.
use Rattle.std.specs.Prelude.{ℕ, length, ◌==◌, ◌&&◌, Bool, false, List, [], ◌∷◌, if◌then◌else◌, nat_eq, nat_le}
use Rattle.std.specs.List.{list_any, starts_with}

-- nothing stands there
abbrev pub is_empty : List ℕ → Bool
is_empty text = length text == 0

-- it begins with these bytes
unfoldable pub begins : List ℕ → List ℕ → Bool
begins front text = starts_with nat_eq text front

-- its first byte lies within two others
unfoldable pub begins_within : ℕ → ℕ → List ℕ → Bool
begins_within least most [] = false
begins_within least most (b ∷ bs) = nat_le least b && nat_le b most

-- this byte is in it
unfoldable pub has : ℕ → List ℕ → Bool
has byte text = list_any (λ b. b == byte) text

-- a digit is in it
unfoldable pub has_digit : List ℕ → Bool
has_digit text = list_any (λ b. nat_le 48 b && nat_le b 57) text

-- the sentence of the first row of a table that fits, or another one: a row has a test of what
-- stands somewhere, and what would be right where the test holds
abbrev pub first_fit : {A : Type 0} → List ((List ℕ → Bool) × A) → A → List ℕ → A
first_fit [] other text = other
first_fit (row ∷ rows) other text = if row.0 text then row.1 else first_fit rows other text
