-- The lines that tell marks.
use Rattle.std.specs.Prelude.{ℕ, ◌==◌, List, [], ◌∷◌, ◌++◌, codes, length, if◌then◌else◌}
use Rattle.std.specs.Fmt.{decimal}
use Rattle.std.specs.List.{flat_map}
use Rattle.fux_grid.specs.declared.exercise.Exercise.{Exercise}
use Rattle.penalty_sheet.specs.declared.price.Price.{Price}
use Rattle.penalty_sheet.specs.declared.price.Price.TheVariants.{Strict, Priced}
use Rattle.penalty_sheet.specs.Prices.{price_in}
use Rattle.score_marker.specs.declared.mark.Mark.{Mark}
use Rattle.score_marker.specs.Marks.{voices_in}

-- the name of a rule: `S` and its number, or the form of a cantus firmus for 31, 32 and 33
abbrev pub rule_name : ℕ → List ℕ
rule_name rule =
    if rule == 31 then codes "K1"
    else (if rule == 32 then codes "K2"
    else (if rule == 33 then codes "K3"
    else codes "S" ++ decimal rule))

-- numbers, each behind a space
abbrev pub numbers_text : List ℕ → List ℕ
numbers_text numbers = flat_map (λ n. codes " " ++ decimal n) numbers

-- the voices of a set in ascending order
abbrev pub voices_text : ℕ → List ℕ
voices_text bits = numbers_text (voices_in bits)

-- the price of a relaxed break, and nothing for a strict one
abbrev pub price_text : Price → List ℕ
price_text Strict = []
price_text (Priced amount) = codes " relaxed " ++ decimal amount

-- the line of a mark whose break has this price
unfoldable pub mark_line : Price → Mark → List ℕ
mark_line price mark =
    codes "bar " ++ decimal mark.bar ++ codes " slot " ++ decimal mark.slot ++ codes " " ++ rule_name mark.rule
    ++ codes " voices" ++ voices_text mark.voices.bits ++ price_text price ++ 10 ∷ []

-- the price that the relax lines of an exercise give to the break of a mark; a relax line is of
-- none of K1 to K3
abbrev pub price_of : Exercise → Mark → Price
price_of ex mark = price_in ex mark.rule mark.voices.bits mark.bar

-- the lines of marks, one after the other, each with its price
abbrev pub mark_lines : Exercise → List Mark → List ℕ
mark_lines ex marks = flat_map (λ mark. mark_line (price_of ex mark) mark) marks

-- the line that says how many marks there are
abbrev pub count_line : ℕ → List ℕ
count_line count = codes "marks " ++ decimal count ++ 10 ∷ []

-- the lines of marks, and then their number
abbrev pub marks_text : Exercise → List Mark → List ℕ
marks_text ex marks = mark_lines ex marks ++ count_line (length marks)
