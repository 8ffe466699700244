-- How a fault of a file's bytes is told.
use Rattle.std.specs.Prelude.{ℕ, List, ◌++◌, codes}
use Rattle.std.specs.Fmt.{decimal}
use Rattle.smf_bytes.specs.declared.fault.ByteFault.{ByteFault}
use Rattle.smf_bytes.specs.declared.fault.ByteFault.TheVariants.{TooLong, Truncated, Chunk, LongNumber, Status, Format2, Smpte, NoEnd}

-- the words for a fault
abbrev pub fault_text : ByteFault → List ℕ
fault_text TooLong = codes "too long"
fault_text (Truncated at) = codes "truncated at " ++ decimal at
fault_text (Chunk at) = codes "chunk at " ++ decimal at
fault_text (LongNumber at) = codes "long number at " ++ decimal at
fault_text (Status at) = codes "status at " ++ decimal at
fault_text Format2 = codes "format 2"
fault_text Smpte = codes "smpte"
fault_text (NoEnd at) = codes "no end at " ++ decimal at
