-- What is known of an exercise where a line of its text is judged by itself.
use Rattle.std.specs.Prelude.{ℕ, ◌-◌, ◌≤◌, List, Option, Some, None, IfSome}
use Rattle.std.specs.Option.{option_and_then}
use Rattle.fux_text.specs.Head.{unless}
use Rattle.fux_text.specs.Limits.{most_voices}
use Rattle.text_lines.specs.Numbers.{number_within}
use Rattle.text_faults.specs.declared.known.Known.{Known}

-- above the first line
abbrev pub nothing_known : Known
nothing_known = record {
  voices = most_voices;
  bars = None;
  species_voice = None;
  cantus_voice = None;
}

-- a number of bars is no 0, and there are at most four voices
pub record IsPossible (known : Known) : Type 0 where
  pub bars : IfSome known.bars (λ bars. 1 ≤ bars)
  pub voices : known.voices ≤ 4

-- a voice, but not this one
abbrev pub unless_it : Option ℕ → ℕ → Option ℕ
unless_it None v = Some v
unless_it (Some other) v = unless other v

-- a voice of so many, but not this one
abbrev pub voice_but : Option ℕ → ℕ → List ℕ → Option ℕ
voice_but but voices text = option_and_then (unless_it but) (number_within 0 (voices - 1) text)
