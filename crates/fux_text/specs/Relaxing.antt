-- The relax lines, as rows.
use Rattle.std.specs.Prelude.{ℕ, ◌-◌, ◌^◌, ◌==◌, Bool, List, [], ◌∷◌, Option, Some, None, codes, find, length, nat_lt, option_map, if◌then◌else◌}
use Rattle.std.specs.List.{range_with_len}
use Rattle.fux_grid.specs.declared.exercise.Exercise.{Exercise}
use Rattle.fux_grid.specs.declared.exercise.Relax.{Relax}
use Rattle.fux_grid.specs.declared.exercise.VoiceSet.{VoiceSet}
use Rattle.fux_text.specs.declared.fault.TextKind.TheVariants as kinds
use Rattle.text_lines.specs.Numbers.{number_within}
use Rattle.text_lines.specs.Reading.{same_text}
use Rattle.text_lines.specs.Rows.{Row, named_place, number_place}
use Rattle.text_lines.specs.Tables.{Many}
use Rattle.fux_text.specs.Lines.{voices_word}
use Rattle.fux_text.specs.Limits.{most_relax}
use Rattle.fux_text.specs.declared.fault.TextKind.{TextKind}

-- the rule of a word: an `S` and its number
abbrev pub rule_named : List ℕ → Option ℕ
rule_named [] = None
rule_named (b ∷ bs) = if b == 83 then number_within 4 26 bs else None

-- the word is what these voices are called
abbrev pub is_set : List ℕ → ℕ → Bool
is_set text bits = same_text (voices_word (Some (record { bits = bits }))) text

-- the voices of a word: all, or a set of some of so many
unfoldable pub voices_named : ℕ → List ℕ → Option (Option VoiceSet)
voices_named voices text =
    if same_text (voices_word None) text then Some None
    else option_map (λ bits. Some (record { bits = bits })) (find (is_set text) (range_with_len 1 (2 ^ voices - 1)))

-- `relax RULE VOICES FROM TO PRICE`, of so many voices and bars: a rule from S4 to S26, a set of
-- voices or `all`, bars that don't go down, and a price of 0 to 10,000; what is wrong or missing is
-- `word`
abbrev pub relax_of : ℕ → ℕ → Row TextKind Relax
relax_of most bars =
    Row.place (named_place kinds.Word kinds.Word rule_named) (λ rule.
    Row.place (named_place kinds.Word kinds.Word (voices_named most)) (λ voices.
    Row.place (number_place kinds.Word 1 bars) (λ from.
    Row.place (number_place kinds.Word from bars) (λ to.
    Row.place (number_place kinds.Word 0 10000) (λ price.
    Row.ends kinds.Word (record { rule = rule; voices = voices; from = from; to = to; price = price }))))))

abbrev pub relax_row : Exercise → Row TextKind Relax
relax_row ex = relax_of ex.voices ex.bars

-- the relax lines, up to the limit
abbrev pub relax_lines_of : Exercise → Many TextKind Relax
relax_lines_of ex =
    record {
      other = kinds.Head;
      name = codes "relax";
      goes = λ before. nat_lt (length before) most_relax;
      row = λ before. relax_row ex;
    }
