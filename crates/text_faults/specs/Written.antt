-- A pitch as it is written here, made of how it is written elsewhere.
use Rattle.std.specs.Prelude.{ℕ, ◌==◌, ◌&&◌, ◌||◌, Bool, List, [], ◌∷◌, ◌++◌, Option, Some, None, codes, is_some, length, nat_le, nat_lt, if◌then◌else◌}
use Rattle.std.specs.Char.{to_ascii_uppercase}
use Rattle.std.specs.List.{flat_map}
use Rattle.std.specs.Option.{option_to_list}
use Rattle.fux_text.specs.Names.{pitch_named}
use Rattle.text_lines.specs.Numbers.{is_digit}
use Rattle.text_faults.specs.declared.written.Piece.{Piece}
use Rattle.text_faults.specs.declared.written.Piece.TheVariants as piece

-- what a byte of a name is among its letters: nothing where it is a digit or a mark of an octave.
-- The signs of flats and of sharps have three bytes, of which the last tells them
abbrev pub letter_in : ℕ → Option ℕ
letter_in b =
    if is_digit b || (b == 39) then None
    else if b == 0xAD then Some 98
    else if b == 0xAF then Some 35
    else if nat_lt b 128 then Some b
    else None

-- what it is among the digits, and among the marks of the octave
abbrev pub byte_in : Piece → ℕ → Option ℕ
byte_in piece.Letters b = letter_in b
byte_in piece.Digits b = if is_digit b then Some b else None
byte_in piece.Primes b = if b == 39 then Some b else None

-- one of the three pieces of a name
abbrev pub bytes_in : Piece → ℕ → List ℕ
bytes_in p b = option_to_list (byte_in p b)

abbrev pub piece_of : Piece → List ℕ → List ℕ
piece_of p name = flat_map (bytes_in p) name

-- letters are capitals, and the note below C is B
abbrev pub letter_of : ℕ → ℕ
letter_of b = if to_ascii_uppercase b == 72 then 66 else to_ascii_uppercase b

-- the sign behind the letter, which in German names is `is`, `es` or `s`; flats may have a large B
abbrev pub is_flat : ℕ → Bool
is_flat b = (b == 115) || (b == 66)

abbrev pub sign_of : List ℕ → List ℕ
sign_of [] = []
sign_of (a ∷ []) = if is_flat a then 98 ∷ [] else a ∷ []
sign_of (a ∷ b ∷ rest) =
    if (a == 105) && (b == 115) then 35 ∷ rest
    else if (a == 101) && (b == 115) then 98 ∷ rest
    else if is_flat a then 98 ∷ b ∷ rest
    else a ∷ b ∷ rest

abbrev pub spelled : List ℕ → List ℕ
spelled [] = []
spelled (b ∷ bs) = letter_of b ∷ sign_of bs

-- the octave: its digits; or by so many marks, of which one is that of the middle C
abbrev pub marked_octave : ℕ → List ℕ
marked_octave n =
    if nat_le n 1 then codes "4"
    else if n == 2 then codes "5"
    else if n == 3 then codes "6"
    else codes "7"

abbrev pub octave_of : List ℕ → ℕ → List ℕ
octave_of [] marks = marked_octave marks
octave_of (d ∷ digits) marks = d ∷ digits

-- the name as it is written here
unfoldable pub written : List ℕ → List ℕ
written name =
    spelled (piece_of piece.Letters name)
    ++ octave_of (piece_of piece.Digits name) (length (piece_of piece.Primes name))

-- it is told where it is that of a pitch
unfoldable pub pitch_told : List ℕ → List ℕ
pitch_told text = if is_some (pitch_named text) then codes ": " ++ text else []
