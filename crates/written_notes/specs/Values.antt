-- Note values.
use Rattle.std.specs.Prelude.{ℕ, ◌-◌, ◌*◌, ◌/◌, ◌^◌, ◌==◌, ◌||◌, List, [], ◌∷◌, IsTrue, if◌then◌else◌, map, sum}
use Rattle.std.specs.List.{list_all, range_with_len}
use Rattle.written_notes.specs.declared.values.Base.{Base}
use Rattle.written_notes.specs.declared.values.Base.TheVariants.{Whole, Half, Quarter, Eighth}
use Rattle.written_notes.specs.declared.values.NoteValue.{NoteValue}

-- a value of this base with so many dots
abbrev pub value_with : Base → ℕ → NoteValue
value_with base dots = record { base = base; dots = dots }

-- the value of so many slots; for 5 slots, which no single value has, that of their first four
abbrev pub value_of : ℕ → NoteValue
value_of slots =
    if slots == 1 then value_with Eighth 0
    else (if slots == 2 then value_with Quarter 0
    else (if slots == 3 then value_with Quarter 1
    else (if (slots == 4) || (slots == 5) then value_with Half 0
    else (if slots == 6 then value_with Half 1
    else (if slots == 7 then value_with Half 2
    else value_with Whole 0)))))

-- the values that so many slots are written with: two for five slots, and else one
abbrev pub values_of : ℕ → List NoteValue
values_of slots = if slots == 5 then value_of 4 ∷ value_of 1 ∷ [] else value_of slots ∷ []

-- how many slots a base has
abbrev pub base_slots : Base → ℕ
base_slots Whole = 8
base_slots Half = 4
base_slots Quarter = 2
base_slots Eighth = 1

-- how many slots a value has: each dot adds half of what was added before
abbrev pub value_slots : NoteValue → ℕ
value_slots value = 2 * base_slots value.base - base_slots value.base / 2 ^ value.dots

-- the values of so many slots, from 1 to 8, add up to them
abbrev pub ValuesAddUp : Type 0
ValuesAddUp = IsTrue (list_all (λ n. sum (map value_slots (values_of n)) == n) (range_with_len 1 8))
