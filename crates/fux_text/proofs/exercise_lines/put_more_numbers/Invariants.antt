use Rattle.std.proofs.Common.{◌≡◌, ◌++◌, ◌∷◌, string_bytes, map, drop}
use Rattle.std.specs.Fmt.{decimal}
use Rattle.std.specs.List.{flat_map}
use Rattle.fux_text.proofs.exercise_lines.put_more_numbers.Given as goal

-- what is written so far, and what is left, are what is to be written
abbrev pub invariant-loop-number : goal.invariant-loop-number
invariant-loop-number l = string_bytes l.out
    ++ flat_map (λ word. 44 ∷ word) (map decimal (drop l.number-index l.numbers)) ≡ string_bytes l.fn.out
    ++ flat_map (λ word. 44 ∷ word) (map decimal l.numbers)
