-- The lines that tell what an answer has otherwise than its lesson.
use Rattle.std.specs.Prelude.{ℕ, List, [], ◌∷◌, ◌++◌, codes}
use Rattle.std.specs.Fmt.{decimal}
use Rattle.std.specs.List.{flat_map}
use Rattle.class_marker.specs.declared.difference.Difference.{Difference}
use Rattle.class_marker.specs.declared.difference.Difference.TheVariants.{Mode, Voices, Bars, Species, CantusVoice, Cantus, Range, Relax, Given}

-- a bar of a voice
abbrev pub place_text : ℕ → ℕ → List ℕ
place_text v bar = codes " voice " ++ decimal v ++ codes " bar " ++ decimal bar

-- what differs
abbrev pub difference_text : Difference → List ℕ
difference_text Mode = codes "mode"
difference_text Voices = codes "voices"
difference_text Bars = codes "bars"
difference_text Species = codes "species"
difference_text CantusVoice = codes "cantus voice"
difference_text (Cantus bar) = codes "cantus bar " ++ decimal bar
difference_text (Range v bar) = codes "range" ++ place_text v bar
difference_text Relax = codes "relax"
difference_text (Given v bar) = codes "given" ++ place_text v bar

abbrev pub difference_line : Difference → List ℕ
difference_line difference = codes "lesson " ++ difference_text difference ++ 10 ∷ []

abbrev pub difference_lines : List Difference → List ℕ
difference_lines = flat_map difference_line

-- the line that says how many differences there are
abbrev pub differs_line : ℕ → List ℕ
differs_line count = codes "differs " ++ decimal count ++ 10 ∷ []
