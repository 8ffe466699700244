-- Bytes go wrong just where reading them tells their first fault.
use Rattle.std.proofs.Common.{◌≡◌, ℕ, ◌<◌, ◌≤◌, Bool, true, false, List, length, Result, Ok, Err, refl, sym, ap, ◌∙◌, take, arith}
use Rattle.std.specs.Prelude.{nat_lt, if◌then◌else◌}
use Rattle.std.specs.Str.{IsUtf8, is_utf8}
use Rattle.std.proofs.lemmas.Bool.{ltb-false, lt-ltb, ltb-true}
use Rattle.std.proofs.lemmas.Str.{IsUtf8-from_is_utf8, is_utf8-from_IsUtf8}
use Rattle.text_lines.specs.Faults.{Fault, ◌>>=◌}
use Rattle.text_lines.specs.Lines.{TextLines, lines_in}
use Rattle.text_lines.specs.Tables.{Format, IsTable, IsTextFault, table_in, text_read}
use Rattle.text_lines.specs.Utf8.{begun_text, fault_behind, fault_of_utf8, text_in}
use Rattle.text_lines.proofs.Faulty.{text_in-ok, text_in-utf8}
use Rattle.text_lines.proofs.Fronts.{longest_front, one_front}
use Rattle.text_lines.proofs.TableLemmas.{table-fails, table-right, table-wrong}

-- what the lines say alone
abbrev value : {K R : Type 0} → Result (R × TextLines) (Fault K) → Result R (Fault K)
value r = r >>= λ x. Ok x.0

no_value : {K R : Type 0} (r : Result (R × TextLines) (Fault K)) (f : Fault K) → value r ≡ Err f → r ≡ Err f
no_value (Ok x) f e = absurd (grind (arith, e))
no_value (Err g) f e = ap Err (grind (arith, e))

one_value : {K R : Type 0} (r : Result (R × TextLines) (Fault K)) (x : R) → value r ≡ Ok x
    → (rest : TextLines) × (r ≡ Ok (x, rest))
one_value (Ok y) x e = let same : y.0 ≡ x = grind (arith, e) in (y.1, ap (λ z. Ok (z, y.1)) same)
one_value (Err g) x e = absurd (grind (arith, e))

long_text : {K : Type 0} (too_long not_utf8 : K) (bytes : List ℕ) → 65536 < length bytes
    → text_in too_long not_utf8 bytes ≡ Err (record { kind = too_long; line = 1; column = 1 })
unfolding text_in
long_text too_long not_utf8 bytes long = rw (lt-ltb 65536 (length bytes) long) refl

pub text-wrong : {K R : Type 0} (format : Format K R) (bytes : List ℕ) (f : Fault K) → text_read format bytes ≡ Err f
    → IsTextFault format bytes f
unfolding text_in text_read fault_of_utf8
text-wrong format bytes f e = by (nat_lt 65536 (length bytes)) refl (is_utf8 bytes) refl e
  where
    not_text : is_utf8 bytes ≡ false → IsUtf8 bytes → ⊥
    not_text u is = grind (arith, u, is_utf8-from_IsUtf8 bytes is)

    by : (long : Bool) → nat_lt 65536 (length bytes) ≡ long → (utf8 : Bool) → is_utf8 bytes ≡ utf8
        → ((if long then Err (record { kind = format.too_long; line = 1; column = 1 })
        else (if utf8 then Ok (lines_in bytes) else Err (fault_of_utf8 format.not_utf8 bytes)))
        >>= λ text. value (table_in format.lines text)) ≡ Err f
        → IsTextFault format bytes f
    by true l u v e =
        let same : record { kind = format.too_long; line = 1; column = 1 } ≡ f = grind (arith, e) in
        IsTextFault.too_long (ltb-true 65536 (length bytes) l) (sym same)
    by false l true u e =
        IsTextFault.in_lines (ltb-false 65536 (length bytes) l) (IsUtf8-from_is_utf8 bytes u)
        (table-wrong format.lines (lines_in bytes) f (no_value (table_in format.lines (lines_in bytes)) f e))
    by false l false u e =
        let same : fault_of_utf8 format.not_utf8 bytes ≡ f = grind (arith, e) in
        IsTextFault.not_utf8 (ltb-false 65536 (length bytes) l) (not_text u) (begun_text bytes)
        (longest_front bytes (not_text u)) (sym same)

pub text-fails : {K R : Type 0} (format : Format K R) (bytes : List ℕ) (f : Fault K) → IsTextFault format bytes f
    → text_read format bytes ≡ Err f
unfolding text_read fault_of_utf8
text-fails format bytes f (IsTextFault.too_long long e) = rw (long_text format.too_long format.not_utf8 bytes long) (ap Err (sym e))
text-fails format bytes f (IsTextFault.not_utf8 short none at longest e) =
    rw (text_in-utf8 format.too_long format.not_utf8 bytes short none) (ap Err (ap (λ n. fault_behind format.not_utf8 (take n bytes))
    (one_front IsUtf8 bytes (begun_text bytes) at (longest_front bytes none) longest) ∙ sym e))
text-fails format bytes f (IsTextFault.in_lines short utf8 fault) =
    rw (text_in-ok format.too_long format.not_utf8 bytes short utf8, table-fails format.lines (lines_in bytes) f fault) refl

-- bytes that are read are short, and UTF-8, and their lines are right
pub record IsRead {K R : Type 0} (format : Format K R) (bytes : List ℕ) (x : R) : Type 0 where
  pub short : length bytes ≤ 65536
  pub utf8 : IsUtf8 bytes
  pub rest : TextLines
  pub lines : IsTable format.lines (lines_in bytes) x rest

pub text-right : {K R : Type 0} (format : Format K R) (bytes : List ℕ) (x : R) → text_read format bytes ≡ Ok x
    → IsRead format bytes x
unfolding text_in text_read
text-right format bytes x e = by (nat_lt 65536 (length bytes)) refl (is_utf8 bytes) refl e
  where
    by : (long : Bool) → nat_lt 65536 (length bytes) ≡ long → (utf8 : Bool) → is_utf8 bytes ≡ utf8
        → ((if long then Err (record { kind = format.too_long; line = 1; column = 1 })
        else (if utf8 then Ok (lines_in bytes) else Err (fault_of_utf8 format.not_utf8 bytes)))
        >>= λ text. value (table_in format.lines text)) ≡ Ok x
        → IsRead format bytes x
    by true l u v e = absurd (grind (arith, e))
    by false l true u e =
        let found = one_value (table_in format.lines (lines_in bytes)) x e in
        record {
          short = ltb-false 65536 (length bytes) l;
          utf8 = IsUtf8-from_is_utf8 bytes u;
          rest = found.0;
          lines = table-right format.lines (lines_in bytes) x found.0 found.1;
        }
    by false l false u e = absurd (grind (arith, e))
