-- How a fault of a MIDI file that is read as an exercise is told.
use Rattle.std.specs.Prelude.{ℕ, List, ◌++◌, codes}
use Rattle.std.specs.Fmt.{decimal}
use Rattle.smf_bytes.specs.Faults as bytes
use Rattle.smf_score.specs.declared.fault.SmfFault.{SmfFault}
use Rattle.smf_score.specs.declared.fault.SmfFault.TheVariants.{Bytes, Key, ZeroNote, Overlap, VoiceCount, Bars, NotWhole, Memory}

-- a note, by its track and the tick at which it starts
abbrev pub note_place : ℕ → ℕ → List ℕ
note_place track tick = decimal track ++ codes ":" ++ decimal tick

-- the words for a fault
abbrev pub fault_text : SmfFault → List ℕ
fault_text (Bytes fault) = bytes.fault_text fault
fault_text (Key track tick) = codes "key at " ++ note_place track tick
fault_text (ZeroNote track tick) = codes "zero note at " ++ note_place track tick
fault_text (Overlap track tick) = codes "overlap at " ++ note_place track tick
fault_text (VoiceCount count) = codes "voice count " ++ decimal count
fault_text (Bars count) = codes "bars " ++ decimal count
fault_text (NotWhole bar) = codes "not whole in bar " ++ decimal bar
fault_text Memory = codes "out of memory"
