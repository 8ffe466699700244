-- What is read of bytes that are UTF-8, and of others.
use Rattle.std.proofs.Common.{◌≡◌, ℕ, ◌≤◌, Bool, true, false, List, length, Ok, Err, refl}
use Rattle.std.specs.Str.{IsUtf8, is_utf8}
use Rattle.std.proofs.lemmas.Bool.{le-ltb}
use Rattle.std.proofs.lemmas.Str.{IsUtf8-from_is_utf8, is_utf8-from_IsUtf8}
use Rattle.text_lines.specs.Lines.{lines_in}
use Rattle.text_lines.specs.Utf8.{fault_of_utf8, text_in}

-- a text of UTF-8 that isn't too long
pub text_in-ok : {K : Type 0} (too_long not_utf8 : K) (bytes : List ℕ) → length bytes ≤ 65536 → IsUtf8 bytes → text_in too_long not_utf8 bytes ≡ Ok (lines_in bytes)
unfolding text_in
text_in-ok too_long not_utf8 bytes short utf8 = rw (le-ltb 65536 (length bytes) short, is_utf8-from_IsUtf8 bytes utf8) refl

no_utf8 : (bytes : List ℕ) (b : Bool) → is_utf8 bytes ≡ b → (IsUtf8 bytes → ⊥) → b ≡ false
no_utf8 bytes true e none = absurd (none (IsUtf8-from_is_utf8 bytes e))
no_utf8 bytes false e none = refl

-- a text that is no UTF-8
pub text_in-utf8 : {K : Type 0} (too_long not_utf8 : K) (bytes : List ℕ) → length bytes ≤ 65536 → (IsUtf8 bytes → ⊥)
    → text_in too_long not_utf8 bytes ≡ Err (fault_of_utf8 not_utf8 bytes)
unfolding text_in
text_in-utf8 too_long not_utf8 bytes short none = rw (le-ltb 65536 (length bytes) short, no_utf8 bytes (is_utf8 bytes) refl none) refl
