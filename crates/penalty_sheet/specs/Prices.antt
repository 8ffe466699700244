-- What a break of a rule costs.
use Rattle.std.specs.Prelude.{ℕ, ◌==◌, Bool, true, false, ◌&&◌, nat_le, nat_lt, Option, Some, None, find, if◌then◌else◌}
use Rattle.fux_grid.specs.declared.exercise.Exercise.{Exercise}
use Rattle.fux_grid.specs.declared.exercise.Relax.{Relax}
use Rattle.fux_grid.specs.declared.exercise.VoiceSet.{VoiceSet}
use Rattle.penalty_sheet.specs.declared.price.Price.{Price}
use Rattle.penalty_sheet.specs.declared.price.Price.TheVariants.{Strict, Priced}

-- a break isn't allowed at any price
abbrev pub is_strict : Price → Bool
is_strict Strict = true
is_strict (Priced amount) = false

-- what a break costs, nothing where it isn't allowed
abbrev pub amount_of : Price → ℕ
amount_of Strict = 0
amount_of (Priced amount) = amount

-- a line of one set of voices is for that set, a line without one for every set
abbrev pub is_for : Option VoiceSet → ℕ → Bool
is_for None voices = true
is_for (Some set) voices = set.bits == voices

-- a relax line is for the rule, for the bits of the set of voices, and for the bar
abbrev pub relaxes : ℕ → ℕ → ℕ → Relax → Bool
relaxes rule voices bar line =
    (line.rule == rule) && is_for line.voices voices && nat_le line.from bar && nat_le bar line.to

-- the price of a line, where there is one
abbrev pub line_price : Option Relax → Price
line_price None = Strict
line_price (Some line) = Priced line.price

-- the price of a break of a rule by a set of voices in a bar: that of the first line that is for
-- it; S1 to S3 are strict
abbrev pub price_in : Exercise → ℕ → ℕ → ℕ → Price
price_in ex rule voices bar = if nat_lt rule 4 then Strict else line_price (find (relaxes rule voices bar) ex.relax)
