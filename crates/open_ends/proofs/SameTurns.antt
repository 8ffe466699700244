-- A test of what is kept twice, and what it tells (`tells_same`).
use Rattle.std.specs.Prelude.{◌≡◌, ◌&&◌, Bool, true, Option, refl}
use Rattle.std.specs.Bool.{Decides}
use Rattle.std.specs.Option.{option_eq}
use Rattle.std.proofs.Common.{ap, rules, sym, ◌∙◌}
use Rattle.std.proofs.lemmas.Bool.{and_from, and_parts}
use denote.Enum.Bare.{same_true, sameb, true_same}
use Rattle.fux_pitch.specs.declared.pitch.Pitch.{Pitch}
use Rattle.fux_pitch.specs.Pitch.{same_pitch}
use Rattle.open_ends.proofs.SamePitches.{itself, pitch-same}
use Rattle.open_ends.specs.contracts.notes.Way.{the_type}
use Rattle.open_ends.specs.declared.notes.OpenTurns.{OpenTurns}
use Rattle.open_ends.specs.declared.notes.Way.{Way}

-- all parts are equal
abbrev pub are_same : OpenTurns → OpenTurns → Bool
are_same a b =
    option_eq same_pitch a.newest b.newest && (sameb the_type a.way b.way && option_eq same_pitch a.turning b.turning)

pub tells_same : (a b : OpenTurns) → Decides (are_same a b) (a ≡ b)
tells_same a b = (same, λ e. ap (are_same a) (sym e) ∙ itself_all)
  where
    same : are_same a b ≡ true → a ≡ b
    same h =
        let Kept : Option Pitch → Way → Option Pitch → OpenTurns =
        λ p w q. record { newest = p; way = w; turning = q } in
        let first = and_parts (option_eq same_pitch a.newest b.newest)
        (sameb the_type a.way b.way && option_eq same_pitch a.turning b.turning) h in
        let others = and_parts (sameb the_type a.way b.way) (option_eq same_pitch a.turning b.turning) first.1 in
        ap (λ p. Kept p a.way a.turning) (pitch-same a.newest b.newest first.0)
        ∙ ap (λ w. Kept b.newest w a.turning) (same_true the_type (search rules) a.way b.way others.0)
        ∙ ap (Kept b.newest b.way) (pitch-same a.turning b.turning others.1)

    itself_all : are_same a a ≡ true
    itself_all =
        and_from (option_eq same_pitch a.newest a.newest)
        (sameb the_type a.way a.way && option_eq same_pitch a.turning a.turning) (itself a.newest)
        (and_from (sameb the_type a.way a.way) (option_eq same_pitch a.turning a.turning)
        (true_same the_type a.way a.way refl) (itself a.turning))
