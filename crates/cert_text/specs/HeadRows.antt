-- The text of a head as a row of pieces: its lines, the number of its penalty, and the items of its
-- `sing` lines.
use Rattle.std.specs.Prelude.{◌≡◌, ◌⊎◌, ℕ, zero, suc, ◌+◌, ◌-◌, ◌*◌, ◌%◌, ◌<◌, ◌≤◌, ◌^◌, ◌==◌, ◌&&◌, ◌||◌, not, IsTrue, ⊤, Bool, true, false, List, [], ◌∷◌, ◌++◌, Option, Some, None, codes, nat_le, nat_lt, if◌then◌else◌}
use Rattle.std.specs.Fmt.{decimal}
use Rattle.std.specs.List.{range_with_len}
use Rattle.fux_pitch.specs.declared.pitch.Pitch.{Pitch}
use Rattle.fux_pitch.specs.Names.{name_of}
use Rattle.fux_grid.specs.declared.cell.Cell.{Cell}
use Rattle.fux_grid.specs.declared.cell.Cell.TheVariants.{Rest, Hold, Start}
use Rattle.fux_grid.specs.declared.exercise.Exercise.{Exercise}
use Rattle.fux_grid.specs.Cells.{cell_follows, held}
use Rattle.text_lines.specs.Numbers.{is_digit}
use Rattle.fux_text.specs.Items.{item_name}
use Rattle.fux_text.specs.Lines.{free_among, free_voices}
use Rattle.cert_text.specs.declared.answers.Form.{Form}
use Rattle.cert_text.specs.declared.answers.Form.TheVariants.{First, Second, Third}
use Rattle.cert_text.specs.declared.scan.Scan.{Scan}
use Rattle.cert_text.specs.Pieces.{Fixed, Literal, OneByte, Then}

-- ---- the penalty

-- a number below 2^64, and a line feed
abbrev pub NumberLine : ℕ → List ℕ → Type 0
NumberLine n text = (n < 2 ^ 64) × (text ≡ decimal n ++ 10 ∷ [])

-- the digits so far, which may be none
abbrev pub AreDigits : Option ℕ → List ℕ → Type 0
AreDigits None ds = ds ≡ []
AreDigits (Some n) ds = (n < 2 ^ 64) × (ds ≡ decimal n)

-- the number whose digits are those of another one, if there is one, and one more digit; it is
-- below 2^64
abbrev pub digit_after : Option ℕ → ℕ → Option ℕ
digit_after None byte = if is_digit byte then Some (byte - 48) else None
digit_after (Some n) byte =
    if is_digit byte && (not (n == 0) && nat_lt (10 * n + (byte - 48)) (2 ^ 64)) then Some (10 * n + (byte - 48))
    else None

-- ---- items

-- the name of a pitch
abbrev pub PitchName : Pitch → List ℕ → Type 0
PitchName p text = text ≡ name_of p

-- a letter of pitches, and a sign
abbrev pub is_letter : ℕ → Bool
is_letter byte = nat_le 65 byte && nat_le byte 71

abbrev pub is_sign : ℕ → Bool
is_sign byte = (byte == 35) || (byte == 98)

-- a note sounds in the cell
abbrev pub sounds : Cell → Bool
sounds Rest = false
sounds (Hold p) = true
sounds (Start p) = true

-- an item that begins with this cell can stand behind so many columns and a cell: a rest doesn't
-- follow another one in its bar, and a hold begins its bar
abbrev pub can_stand : ℕ → Cell → Cell → Bool
can_stand i before Rest = (i % 8 == 0) || sounds before
can_stand i before (Hold p) = (i % 8 == 0) && cell_follows before (Hold p)
can_stand i before (Start p) = true

-- what an item is called that can stand there
abbrev pub ItemName : ℕ → Cell → Cell → List ℕ → Type 0
ItemName i before c text = IsTrue (can_stand i before c) × (text ≡ item_name c)

-- the digit of its length: it doesn't go beyond its bar
abbrev pub IsCount : ℕ → ℕ → Type 0
IsCount i byte = (49 ≤ byte) × (byte + i % 8 ≤ 56)

abbrev pub is_count : ℕ → ℕ → Bool
is_count i byte = nat_le 49 byte && nat_le (byte + i % 8) 56

-- what stands behind an item, behind so many columns: the end of the line, a bar line, or a space
abbrev pub behind_text : ℕ → ℕ → List ℕ
behind_text bars i = if i == 8 * bars then 10 ∷ [] else (if i % 8 == 0 then codes " | " else codes " ")

-- the line ends, or more items stand there
abbrev pub RestOfLine : Bool → (Unit {0} → List ℕ → Type 0) → Unit {0} → List ℕ → Type 0
RestOfLine true more = Literal []
RestOfLine false more = more

abbrev pub BehindItem : ℕ → ℕ → (Unit {0} → List ℕ → Type 0) → Unit {0} → List ℕ → Type 0
BehindItem bars i more = Then (Literal (behind_text bars i)) (λ _. RestOfLine (i == 8 * bars) more)

-- a colon, the length, and what stands behind the item
abbrev pub BehindName : ℕ → ℕ → (ℕ → Unit {0} → List ℕ → Type 0) → Unit {0} → List ℕ → Type 0
BehindName bars i more =
    Then (Literal (codes ":")) (λ _. Then (OneByte (IsCount i)) (λ digit.
    BehindItem bars (i + (digit - 48)) (more (i + (digit - 48)))))

-- one more item at least, and at most so many behind it, up to the end of a line of so many bars
abbrev pub Items : ℕ → ℕ → ℕ → Cell → Unit {0} → List ℕ → Type 0
Items bars zero i before = λ end text. ⊥
Items bars (suc most) i before =
    Then (ItemName i before) (λ c. BehindName bars i (λ next. Items bars most next (held c)))

-- ---- lines

-- the beginning of a voice's `sing` line
abbrev pub sing_bytes : ℕ → List ℕ
sing_bytes v =
    if v == 0 then codes "sing 0 "
    else (if v == 1 then codes "sing 1 " else (if v == 2 then codes "sing 2 " else codes "sing 3 "))

abbrev pub SingLine : Exercise → ℕ → Unit {0} → List ℕ → Type 0
SingLine ex v = Then (Literal (sing_bytes v)) (λ _. Items ex.bars (8 * ex.bars) 0 Rest)

abbrev pub SingLines : Exercise → List ℕ → Unit {0} → List ℕ → Type 0
SingLines ex [] = Literal []
SingLines ex (v ∷ vs) = Then (SingLine ex v) (λ _. SingLines ex vs)

-- the free voices from this one on
abbrev pub free_from : Exercise → ℕ → List ℕ
free_from ex v = free_among ex (range_with_len v (ex.voices - v))

-- lines that say what they are
abbrev pub Itself : (Unit {0} → List ℕ → Type 0) → List ℕ → List ℕ → Type 0
Itself L said text = (said ≡ text) × L tt text

-- ---- forms

-- the digit of a form
abbrev pub form_byte : Form → ℕ
form_byte First = 49
form_byte Second = 50
form_byte Third = 51

-- the form is this one, or an earlier one
abbrev pub IsUpTo : Form → Form → Type 0
IsUpTo First First = ⊤
IsUpTo First Second = ⊥
IsUpTo First Third = ⊥
IsUpTo Second First = ⊤
IsUpTo Second Second = ⊤
IsUpTo Second Third = ⊥
IsUpTo Third form = ⊤

-- the digit of such a form, which says the form
abbrev pub FormDigit : Form → Form → List ℕ → Type 0
FormDigit last form text = IsUpTo last form × (text ≡ form_byte form ∷ [])

-- ---- heads

abbrev pub name_text : List ℕ
name_text = codes "fux-cert "

abbrev pub feed_text : List ℕ
feed_text = 10 ∷ []

-- the first line of a form
abbrev pub opening_text : Form → List ℕ
opening_text form = name_text ++ form_byte form ∷ feed_text

abbrev pub claims_text : List ℕ
claims_text = codes "claims" ++ 10 ∷ []

-- the last line of a head: what stands behind it; behind a head of the third form stand lists, which
-- begin with lines of their own
abbrev pub closing_text : Form → List ℕ
closing_text First = claims_text
closing_text Second = codes "potentials" ++ 10 ∷ []
closing_text Third = []

-- what a head says: its form, its penalty, unless there is no setting, and its lines
pub record HeadSaid : Type 0 where
  pub form : Form
  pub penalty : Option ℕ
  pub lines : List ℕ

abbrev pub said_of : Scan → HeadSaid
said_of scan = record { form = scan.form; penalty = scan.penalty; lines = scan.lines.now }

-- what follows the `b` of `best`: the penalty and the lines
abbrev pub BestRow : Exercise → Form → HeadSaid → List ℕ → Type 0
BestRow ex form =
    Then (Literal (codes "est ")) (λ _. Then NumberLine (λ penalty.
    Then (Itself (SingLines ex (free_voices ex))) (λ lines.
    Fixed (record { form = form; penalty = Some penalty; lines = lines }) (closing_text form))))

-- what follows the `n` of `none`
abbrev pub none_rest : Form → List ℕ
none_rest form = codes "one" ++ 10 ∷ closing_text form

abbrev pub NothingRow : Form → HeadSaid → List ℕ → Type 0
NothingRow form = Fixed (record { form = form; penalty = None; lines = [] }) (none_rest form)

-- what follows the first byte of the second line
abbrev pub KindRow : Exercise → Form → Bool → HeadSaid → List ℕ → Type 0
KindRow ex form true = BestRow ex form
KindRow ex form false = NothingRow form

-- that line says `best` or `none`
abbrev pub IsKind : ℕ → Type 0
IsKind byte = (byte ≡ 98) ⊎ (byte ≡ 110)

abbrev pub KindsRow : Exercise → Form → HeadSaid → List ℕ → Type 0
KindsRow ex form = Then (OneByte IsKind) (λ byte. KindRow ex form (byte == 98))

-- what follows the digit of a form
abbrev pub FeedRow : Exercise → Form → HeadSaid → List ℕ → Type 0
FeedRow ex form = Then (Literal feed_text) (λ _. KindsRow ex form)

abbrev pub FormRow : Exercise → Form → HeadSaid → List ℕ → Type 0
FormRow ex last = Then (FormDigit last) (FeedRow ex)

-- a head of a form up to this one
abbrev pub HeadRow : Exercise → Form → HeadSaid → List ℕ → Type 0
HeadRow ex last = Then (Literal name_text) (λ _. FormRow ex last)
