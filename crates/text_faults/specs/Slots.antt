-- How many bars and slots stand before a place of a `sing` or `given` line, and what is told of
-- them.
use Rattle.std.specs.Prelude.{ℕ, ◌+◌, ◌-◌, ◌==◌, false, List, [], ◌∷◌, ◌++◌, Option, Some, None, codes, nat_lt, if◌then◌else◌}
use Rattle.std.specs.Fmt.{decimal}
use Rattle.text_faults.specs.declared.slots.Count.{Count}

-- before the first byte
abbrev pub nothing_counted : Count
nothing_counted = record { bars = 1; slots = 0; is_length = false; full = None }

-- so many and more, where there aren't a thousand yet: more aren't counted
abbrev pub and_more : ℕ → ℕ → ℕ
and_more n more = if nat_lt n 1000 then n + more else n

-- the bar is full one column past the length at this place, where it has eight slots with that
abbrev pub full_by : ℕ → ℕ → Option ℕ → Option ℕ
full_by at slots before = if slots == 8 then Some (at + 2) else before

-- the length at this place
abbrev pub with_length : ℕ → Count → ℕ → Count
with_length at count digit =
    record count {
      slots = and_more count.slots digit;
      is_length = false;
      full = full_by at (and_more count.slots digit) count.full;
    }

-- a byte at a place, counted from 0: a bar line, a length behind a colon, or what has none
abbrev pub counted_byte : ℕ → Count → ℕ → Count
counted_byte at count b =
    if b == 124
    then record { bars = and_more count.bars 1; slots = 0; is_length = false; full = None }
    else if count.is_length then with_length at count (b - 48)
    else record count { is_length = b == 58 }

-- bytes from a place on
abbrev pub counted_from : ℕ → Count → List ℕ → Count
counted_from at count [] = count
counted_from at count (b ∷ bs) = counted_from (at + 1) (counted_byte at count b) bs

-- what stands before a place of a line
unfoldable pub counted : List ℕ → Count
counted before = counted_from 0 nothing_counted before

-- ---- sentences

-- the slots that a bar has, and a number of them that isn't eight
unfoldable pub slots_told : Count → List ℕ
slots_told count = codes "bar " ++ decimal count.bars ++ codes " has " ++ decimal count.slots

abbrev pub missing_line : Option ℕ → List ℕ
missing_line None = []
missing_line (Some column) = codes ": a bar line is missing in column " ++ decimal column

-- of a bar that isn't full, and of one that is too full
abbrev pub amiss : Count → List ℕ
amiss count =
    if nat_lt count.slots 8 then codes " of its 8 slots: a half is 4, a whole bar 8"
    else codes " slots and not 8" ++ missing_line count.full

abbrev pub bar_told : Count → List ℕ
bar_told count = slots_told count ++ amiss count

-- of the bar of a `given` line, which its line numbers
unfoldable pub given_told : Count → List ℕ
given_told count =
    codes "a given line has a whole bar of 8 slots, and this one " ++ decimal count.slots

-- of a line that ends too soon, and of one that goes on too long
unfoldable pub end_told : Count → List ℕ
end_told count =
    codes "the line ends with bar " ++ decimal count.bars
    ++ codes ", and bars are missing: a sing line is one line, with all its bars"

unfoldable pub last_told : Count → List ℕ
last_told count =
    codes "bar " ++ decimal count.bars ++ codes " is the last one, and no bar line stands behind it"
