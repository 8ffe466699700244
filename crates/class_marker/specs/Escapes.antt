-- Text in HTML.
use Rattle.std.specs.Prelude.{ℕ, ◌==◌, ◌||◌, ◌&&◌, Bool, not, nat_lt, List, [], ◌∷◌, codes, if◌then◌else◌}
use Rattle.std.specs.List.{flat_map}

-- a control character other than a line feed
abbrev pub is_control : ℕ → Bool
is_control byte = (nat_lt byte 32 && not (byte == 10)) || (byte == 127)

-- how a byte of a text stands in HTML: what HTML would read as its own has a name, and in place of
-- a control character stands the sign for what can't be shown
abbrev pub escaped_byte : ℕ → List ℕ
escaped_byte byte =
    if byte == 38 then codes "&amp;"
    else (if byte == 60 then codes "&lt;"
    else (if byte == 62 then codes "&gt;"
    else (if byte == 34 then codes "&quot;"
    else (if is_control byte then codes "&#65533;" else byte ∷ []))))

-- how a text stands in HTML
abbrev pub escaped : List ℕ → List ℕ
escaped text = flat_map escaped_byte text
