-- The lines of a text by their numbers, rows of spaces, one after the other, as a loop does; and
-- how many columns bytes take.
use Rattle.std.proofs.Common.{◌≡◌, ℕ, suc, ◌+◌, ◌-◌, ◌<◌, Bool, true, false, List, ◌∷◌, length, replicate, refl, arith}
use Rattle.std.specs.Prelude.{chars}
use Rattle.std.specs.List.{after_first}
use Rattle.std.specs.Str.{IsUtf8, is_utf8}
use Rattle.std.proofs.lemmas.Str.{IsUtf8-from_is_utf8, is_utf8-from_IsUtf8}
use Rattle.unicode_width.specs.Width.{str_width}
use Rattle.text_faults.specs.MarkedLines.{behind_feeds, columns_of, is_feed}

-- a line feed more
pub feeds-next : (a b : ℕ) (text : List ℕ) → a < b
    → behind_feeds (b - a) text ≡ behind_feeds (b - (a + 1)) (after_first is_feed text)
feeds-next a b text h =
    let k : b - a ≡ suc (b - (a + 1)) = omega arith in
    rw k refl

-- the spaces that are left
pub spaces-next : (a b : ℕ) → a < b → replicate {A = ℕ} (b - a) 32 ≡ 32 ∷ replicate {A = ℕ} (b - (a + 1)) 32
spaces-next a b h =
    let k : b - a ≡ suc (b - (a + 1)) = omega arith in
    rw k refl

-- the columns of a text, and those of bytes that are none
pub columns-text : (bytes : List ℕ) → IsUtf8 bytes → columns_of bytes ≡ str_width false (chars bytes)
unfolding columns_of
columns-text bytes utf8 = rw (is_utf8-from_IsUtf8 bytes utf8) refl

no_utf8 : (bytes : List ℕ) (b : Bool) → is_utf8 bytes ≡ b → (IsUtf8 bytes → ⊥) → b ≡ false
no_utf8 bytes true e none = absurd (none (IsUtf8-from_is_utf8 bytes e))
no_utf8 bytes false e none = refl

pub columns-bytes : (bytes : List ℕ) → (IsUtf8 bytes → ⊥) → columns_of bytes ≡ length bytes
unfolding columns_of
columns-bytes bytes none = rw (no_utf8 bytes (is_utf8 bytes) refl none) refl
