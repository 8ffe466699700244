-- Where bytes stop being UTF-8.
use Rattle.std.specs.Prelude.{ℕ, ◌+◌, ◌==◌, List, [], ◌∷◌, Option, Some, None, Result, Ok, Err, drop, length, nat_lt, take, slice_index, if◌then◌else◌}
use Rattle.std.specs.Int.{is_in_range}
use Rattle.std.specs.Str.{is_utf8}
use Rattle.std.specs.Str.Lossy.{utf8_valid_len, utf8_error_len}
use Rattle.text_lines.specs.Faults.{Fault}
use Rattle.text_lines.specs.Lines.{TextLines, lines_in}

-- of bytes that begin with no character, how many may begin one: none where the first may not, else
-- all but the last of those at fault, or all where the bytes end too soon
abbrev pub begun : List ℕ → Option ℕ → ℕ
begun rest None = length rest
begun rest (Some n) = if is_in_range 0xC2 0xF4 (slice_index rest 0) then n else 0

-- how many bytes at the front UTF-8 text may begin with
unfoldable pub begun_text : List ℕ → ℕ
begun_text bytes =
    let rest = drop (utf8_valid_len bytes) bytes in
    utf8_valid_len bytes + begun rest (utf8_error_len rest)

-- the line and the column behind bytes, from a line and a column on
abbrev pub place_behind : ℕ → ℕ → List ℕ → ℕ × ℕ
place_behind line column [] = (line, column)
place_behind line column (b ∷ bs) =
    if b == 10 then place_behind (line + 1) 1 bs else place_behind line (column + 1) bs

-- the fault of this kind behind the bytes that stand before it
abbrev pub fault_behind : {K : Type 0} → K → List ℕ → Fault K
fault_behind kind before = record {
  kind = kind;
  line = (place_behind 1 1 before).0;
  column = (place_behind 1 1 before).1;
}

-- the fault of bytes that are no UTF-8
unfoldable pub fault_of_utf8 : {K : Type 0} → K → List ℕ → Fault K
fault_of_utf8 kind bytes = fault_behind kind (take (begun_text bytes) bytes)

-- the lines of a text: it has at most 65,536 bytes, and they are UTF-8. The kinds are of the faults
-- of one that is longer or isn't
unfoldable pub text_in : {K : Type 0} → K → K → List ℕ → Result TextLines (Fault K)
text_in too_long not_utf8 bytes =
    if nat_lt 65536 (length bytes) then Err (record { kind = too_long; line = 1; column = 1 })
    else (if is_utf8 bytes then Ok (lines_in bytes) else Err (fault_of_utf8 not_utf8 bytes))
