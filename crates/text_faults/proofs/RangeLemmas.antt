-- A range line that is read place by place.
use Rattle.std.proofs.Common.{◌≡◌, ℕ, Bool, None, Ok, refl, ◌∙◌}
use Rattle.fux_pitch.specs.declared.pitch.Pitch.{Pitch}
use Rattle.fux_text.specs.declared.fault.TextKind.{TextKind}
use Rattle.fux_text.specs.declared.fault.TextKind.TheVariants as kinds
use Rattle.fux_text.specs.Head.{pitch_place}
use Rattle.fux_text.specs.Ranges.{bars_row, high_place}
use Rattle.text_lines.specs.Rows.{Row, place_in, row_in}
use Rattle.text_lines.specs.Words.{LineWords}
use Rattle.text_lines.proofs.RowLemmas.{row-place}
use Rattle.text_faults.specs.declared.known.Known.{Known}
use Rattle.text_faults.specs.Range.{free_place, lone_range, range_behind}

-- behind the voice
pub lone-range : (known : Known) (bars : ℕ) (later : Bool) (at rest : LineWords) (v : ℕ)
    → place_in (free_place known) at ≡ Ok (v, rest)
    → row_in (lone_range known bars later) at ≡ row_in (range_behind bars later v) rest
lone-range known bars later at rest v h =
    row-place (free_place known) (λ w. range_behind bars later w) at ∙ rw h refl

high-read : (bars : ℕ) (later : Bool) (v : ℕ) (low high : Pitch) (at rest : LineWords)
    → place_in (high_place low) at ≡ Ok (high, rest)
    → row_in (Row.place (high_place low) (λ p. bars_row later bars (record { voice = v; low = low; high = p; bars = None }))) at
    ≡ row_in (bars_row later bars (record { voice = v; low = low; high = high; bars = None })) rest
high-read bars later v low high at rest h =
    row-place (high_place low) (λ p. bars_row later bars (record { voice = v; low = low; high = p; bars = None })) at
    ∙ rw h refl

-- behind the pitches
pub range-behind : (bars : ℕ) (later : Bool) (v : ℕ) (low high : Pitch) (at between rest : LineWords)
    → place_in (pitch_place kinds.Range) at ≡ Ok (low, between) → place_in (high_place low) between ≡ Ok (high, rest)
    → row_in (range_behind bars later v) at
    ≡ row_in (bars_row later bars (record { voice = v; low = low; high = high; bars = None })) rest
range-behind bars later v low high at between rest h i =
    row-place (pitch_place kinds.Range) (λ p. Row.place (high_place p) (λ q.
    bars_row later bars (record { voice = v; low = p; high = q; bars = None }))) at
    ∙ rw h (high-read bars later v low high between rest i)
