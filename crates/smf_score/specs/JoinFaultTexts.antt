-- How a fault of a MIDI file that is read as an answer is told.
use Rattle.std.specs.Prelude.{ℕ, List, ◌++◌, codes}
use Rattle.std.specs.Fmt.{decimal}
use Rattle.smf_score.specs.FaultTexts as score
use Rattle.smf_score.specs.declared.join_fault.JoinFault.{JoinFault}
use Rattle.smf_score.specs.declared.join_fault.JoinFault.TheVariants.{Smf, Meter, Pickup, OffGrid, Cantus}

-- the words for a fault
abbrev pub fault_text : JoinFault → List ℕ
fault_text (Smf fault) = score.fault_text fault
fault_text (Meter count unit) = codes "meter " ++ decimal count ++ codes "/" ++ decimal unit
fault_text Pickup = codes "pickup"
fault_text (OffGrid bar slot) = codes "off the grid at " ++ decimal bar ++ codes ":" ++ decimal slot
fault_text (Cantus bar) = codes "cantus in bar " ++ decimal bar
