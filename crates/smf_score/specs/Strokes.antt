-- What the events of a file do to its notes.
use Rattle.std.specs.Prelude.{zero, suc, ◌<◌, ◌+◌, ◌^◌, ◌==◌, ⊤, List, [], ◌∷◌, Result, Ok, Err, if◌then◌else◌}
use Rattle.smf_bytes.specs.Messages.{Message, Off, On, Other, Meta, System}
use Rattle.smf_bytes.specs.Events.{Timed, Answers}
use Rattle.smf_score.specs.declared.fault.SmfFault.{SmfFault}
use Rattle.smf_score.specs.declared.fault.SmfFault.TheVariants.{Bytes}
use Rattle.smf_score.specs.declared.strokes.Act.{Act}
use Rattle.smf_score.specs.declared.strokes.Act.TheVariants.{Strike, Release, End, Nothing}
use Rattle.smf_score.specs.declared.strokes.Stroke.{Stroke}
use Rattle.smf_score.specs.Faults.{◌>>=◌}

-- what an event does to the notes of its track; a key that is struck with velocity 0 is let go
abbrev pub act_of : Message → Act
act_of (Off channel key) = Release channel key
act_of (On channel key zero) = Release channel key
act_of (On channel key (suc velocity)) = Strike channel key
act_of (Other channel) = Nothing
act_of (Meta number bytes) = if number == 0x2F then End else Nothing
act_of (System bytes) = Nothing

abbrev pub stroke_of : Timed → Stroke
stroke_of event = record { track = event.track; tick = event.tick; act = act_of event.message }

-- the events of a file as what they do, or its first fault
abbrev pub strokes_in : Answers → Result (List Stroke) SmfFault
strokes_in [] = Ok []
strokes_in (Ok event ∷ answers) = strokes_in answers >>= λ strokes. Ok (stroke_of event ∷ strokes)
strokes_in (Err fault ∷ answers) = Err (Bytes fault)

-- channels are below 16, and keys below 128
abbrev pub IsAct : Act → Type 0
IsAct (Strike channel key) = (channel < 16) × (key < 128)
IsAct (Release channel key) = (channel < 16) × (key < 128)
IsAct End = ⊤
IsAct Nothing = ⊤

pub record IsStroke (stroke : Stroke) : Type 0 where
  pub track : stroke.track + 1 < 2 ^ 16
  pub tick : stroke.tick < 2 ^ 48
  pub act : IsAct stroke.act
