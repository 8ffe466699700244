use Rattle.std.proofs.Common.{◌≤ℤ◌, ◌==◌, Bool, true, false, [], ◌∷◌, w8, arith}
use Rattle.std.specs.Prelude.{All, if◌then◌else◌}
use Rattle.std.proofs.lemmas.Int.{ints, to_z-of_z}
use Rattle.std.proofs.lemmas.List.Elements.{All-cons, All-nil}
use Rattle.fux_pitch.specs.declared.pitch.Pitch.{Pitch}
use Rattle.fux_pitch.specs.Pitch.{key_of}
use Rattle.canon_space.proofs.reading.canon_said.Goals as goal

abbrev Rises : Pitch × Pitch → Type 0
Rises ends = key_of ends.0 ≤ℤ key_of ends.1

both_rise : (first : Bool) (leader range : Pitch × Pitch) → Rises leader → Rises range
    → All Rises (if first then leader ∷ range ∷ [] else range ∷ leader ∷ [])
both_rise true leader range a b = All-cons Rises leader (range ∷ []) a (All-cons Rises range [] b (All-nil Rises))
both_rise false leader range a b = All-cons Rises range (leader ∷ []) b (All-cons Rises leader [] a (All-nil Rises))

pub returns-clause-within : goal.returns-clause-within
returns-clause-within c =
    let asked = c.requires in
    rw (c.ranges_of.ensures, to_z-of_z w8 c.args.shift (omega (arith, ints, asked.least_shift, asked.most_shift))) (record {
      fewest_bars = asked.least;
      most_bars = asked.most;
      two_voices = asked.voice;
      lowest_shift = asked.least_shift;
      highest_shift = asked.most_shift;
      least_delay = asked.least_delay;
      most_delay = asked.most_delay;
      rise = both_rise (c.args.leader.voice == 0) c.args.leader.range c.args.range asked.leader_rises asked.rises;
    })
