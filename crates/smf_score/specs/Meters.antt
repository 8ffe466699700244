-- The meter of a file: how long its bars are, or that no lesson has such bars.
use Rattle.std.specs.Prelude.{ℕ, ◌*◌, ◌^◌, ◌==◌, ◌&&◌, Bool, false, List, [], ◌∷◌, ◌++◌, min, Option, Some, None, Result, Ok, Err, is_none, is_some, if◌then◌else◌}
use Rattle.std.specs.Option.{option_map_or, option_to_list, unwrap_or}
use Rattle.smf_bytes.specs.Events.{Answers}
use Rattle.smf_bytes.specs.Messages.{Message, Off, On, Other, Meta, System}
use Rattle.smf_score.specs.declared.join_fault.JoinFault.{JoinFault}
use Rattle.smf_score.specs.declared.join_fault.JoinFault.TheVariants.{Meter, Pickup}
use Rattle.smf_score.specs.declared.meters.Signature.{Signature}

-- the bytes of a time signature: the first says how many notes a bar has, and the second which
-- power of two of them make a whole note
abbrev pub signature_in : ℕ → List ℕ → Option Signature
signature_in tick [] = None
signature_in tick (count ∷ []) = None
signature_in tick (count ∷ power ∷ more) = Some (record { tick = tick; count = count; power = power })

-- meta event 58 is a time signature
abbrev pub signature_of : ℕ → Message → Option Signature
signature_of tick (Off channel key) = None
signature_of tick (On channel key velocity) = None
signature_of tick (Other channel) = None
signature_of tick (Meta number bytes) = if number == 0x58 then signature_in tick bytes else None
signature_of tick (System bytes) = None

-- those of a file, in its order, up to its first fault
abbrev pub signatures_in : Answers → List Signature
signatures_in [] = []
signatures_in (Ok event ∷ answers) = option_to_list (signature_of event.tick event.message) ++ signatures_in answers
signatures_in (Err fault ∷ answers) = []

-- how many whole notes a bar of a lesson may have: one in 4/4 and in 2/2, two in 4/2
abbrev pub wholes_of : Signature → Option ℕ
wholes_of s =
    if (s.count == 4) && (s.power == 2) then Some 1
    else (if (s.count == 2) && (s.power == 1) then Some 1
    else (if (s.count == 4) && (s.power == 1) then Some 2 else None))

-- so many notes of a signature make a whole note, 32,768 at most
abbrev pub unit_of : Signature → ℕ
unit_of s = 2 ^ min s.power 15

-- a signature stands where just one bar of another has gone by, where a quarter note has so many
-- ticks
abbrev pub is_one_bar : ℕ → Signature → Signature → Bool
is_one_bar division first second = second.tick * unit_of first == 4 * first.count * division

-- a file begins with just one bar that no lesson has, and goes on in one that a lesson may have
abbrev pub begins_short : ℕ → List Signature → Bool
begins_short division [] = false
begins_short division (first ∷ []) = false
begins_short division (first ∷ second ∷ more) =
    (first.tick == 0) && is_none (wholes_of first) && is_some (wholes_of second)
    && is_one_bar division first second

-- the bars of a signature have so many whole notes
abbrev pub has_wholes : ℕ → Signature → Bool
has_wholes wholes s = option_map_or (λ n. n == wholes) (wholes_of s) false

-- how many whole notes they have, or one where no lesson has such bars
abbrev pub wholes_or_one : Signature → ℕ
wholes_or_one s = unwrap_or (wholes_of s) 1

-- so have those of all signatures; or the first that hasn't is told
abbrev pub all_have : ℕ → List Signature → Result ℕ JoinFault
all_have wholes [] = Ok wholes
all_have wholes (s ∷ more) = if has_wholes wholes s then all_have wholes more else Err (Meter s.count (unit_of s))

-- how many whole notes the bars of a file have: one where no signature stands there
abbrev pub meter_in : ℕ → List Signature → Result ℕ JoinFault
meter_in division [] = Ok 1
meter_in division (first ∷ more) =
    if begins_short division (first ∷ more) then Err Pickup
    else all_have (wholes_or_one first) (first ∷ more)
