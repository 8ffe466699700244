-- The list of a class as people write it: a name on each line that isn't empty.
use Rattle.std.specs.Prelude.{◌≡◌, ℕ, ◌+◌, ◌==◌, ◌&&◌, Bool, List, [], ◌∷◌, ◌++◌, length, nat_le, nat_lt, Result, Ok, Err, if◌then◌else◌}
use Rattle.std.specs.Str.Lines.{lines}
use Rattle.class_marker.specs.Lists.{listed_by}
use Rattle.class_marker.specs.declared.list.ListFault.{ListFault}
use Rattle.class_marker.specs.declared.list.ListFault.TheVariants.{At, Memory}

-- a line may be a name behind so many: it has at most 255 bytes, and there are fewer than 512
abbrev pub may_be_name : ℕ → List ℕ → Bool
may_be_name count line = nat_le (length line) 255 && nat_lt count 512

-- the names in the lines from a number on, behind these names, of which there has to be one; or the
-- number of the first line at fault
abbrev pub names_from : ℕ → List (List ℕ) → List (List ℕ) → Result (List (List ℕ)) ℕ
names_from number names [] = if length names == 0 then Err 1 else Ok names
names_from number names (line ∷ more) =
    if length line == 0 then names_from (number + 1) names more
    else (if may_be_name (length names) line
    then names_from (number + 1) (names ++ line ∷ []) more
    else Err number)

-- the names in a list, or the number of its first line at fault: a text that is too long or no
-- UTF-8 is so in line 1. A line ends with a line feed, before which one carriage return is dropped,
-- and the last one may do without
abbrev pub loose_names : List ℕ → Result (List (List ℕ)) ℕ
loose_names text = listed_by (λ bytes. names_from 1 [] (lines bytes)) text

-- what is read from a line on is what is read behind it, with the names that it leaves; or its
-- fault
abbrev pub PutsName : List (List ℕ) → ℕ → List ℕ → List (List ℕ) → Result (Unit {0}) ListFault
    → Type 0
PutsName old number line new (Ok done) =
    (more : List (List ℕ)) → names_from number old (line ∷ more) ≡ names_from (number + 1) new more
PutsName old number line new (Err (At fault)) =
    (more : List (List ℕ)) → names_from number old (line ∷ more) ≡ Err fault
PutsName old number line new (Err Memory) = Unit {0}
