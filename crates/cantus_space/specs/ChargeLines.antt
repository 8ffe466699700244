-- The lines that tell what a cantus pays.
use Rattle.std.specs.Prelude.{ℕ, List, ◌∷◌, [], ◌++◌, Option, Some, None, codes}
use Rattle.std.specs.Fmt.{decimal}
use Rattle.std.specs.List.{flat_map}
use Rattle.cantus_space.specs.declared.charge.CantusCharge.{CantusCharge}
use Rattle.cantus_space.specs.declared.charge.Penalty.{Penalty}
use Rattle.cantus_space.specs.declared.charge.Penalty.TheVariants.{Toll, Price}
use Rattle.cantus_space.specs.Charges.{sum_of}

-- where a charge stands: with the note of a bar, or over the whole line of the voice that has the
-- cantus
unfoldable pub place_words : ℕ → Option ℕ → List ℕ
place_words voice None = codes "voice " ++ decimal voice
place_words voice (Some bar) = codes "bar " ++ decimal bar ++ codes " slot 0"

-- a penalty by its letter and its number
unfoldable pub penalty_words : Penalty → List ℕ
penalty_words (Toll number) = codes " Q" ++ decimal number
penalty_words (Price number) = codes " C" ++ decimal number

-- the line of a charge
abbrev pub charge_line : ℕ → CantusCharge → List ℕ
charge_line voice charge =
    place_words voice charge.bar ++ penalty_words charge.penalty ++ codes " cost " ++ decimal charge.cost ++ 10 ∷ []

-- the lines of charges, one after the other
abbrev pub charge_lines : ℕ → List CantusCharge → List ℕ
charge_lines voice charges = flat_map (charge_line voice) charges

-- the lines of what a cantus pays, and then what that comes to
abbrev pub bill_text : ℕ → List CantusCharge → List ℕ
bill_text voice charges =
    charge_lines voice charges ++ codes "penalty " ++ decimal (sum_of charges) ++ 10 ∷ []
