-- A note text is read step by step: behind right lines reading goes on with those of the setting
-- (`read-setting`, `fail-setting`).
use Rattle.std.proofs.Common.{◌≡◌, ℕ, List, [], Option, Result, Ok, Err, codes, refl, subst}
use Rattle.fux_grid.specs.declared.exercise.Exercise.{Exercise}
use Rattle.fux_grid.specs.declared.exercise.RangeLine.{RangeLine}
use Rattle.fux_grid.specs.declared.exercise.Relax.{Relax}
use Rattle.fux_grid.specs.declared.given.GivenBar.{GivenBar}
use Rattle.fux_grid.specs.Grid.{Grid}
use Rattle.text_lines.specs.declared.fault.TextFault.{TextFault}
use Rattle.text_lines.specs.declared.fault.TextFault.TheVariants as faults
use Rattle.fux_text.specs.declared.fault.TextKind.TheVariants as kinds
use Rattle.text_lines.specs.Faults.{Fails, Fault, ◌>>=◌}
use Rattle.text_lines.specs.Lines.{TextLines}
use Rattle.text_lines.specs.Tables.{line_in, many_in, table_in, text_read}
use Rattle.text_lines.specs.Utf8.{text_in}
use Rattle.fux_text.specs.declared.fitting.Asked.TheVariants as asked
use Rattle.fux_text.specs.Fitting.{asks, line_fits}
use Rattle.fux_text.specs.GivenLines.{given_lines_of}
use Rattle.fux_text.specs.Head.{head_table, number_row}
use Rattle.fux_text.specs.Limits.{newest_version}
use Rattle.fux_text.specs.Ranges.{ranges_table}
use Rattle.fux_text.specs.Reading.{exercise_in}
use Rattle.fux_text.specs.Relaxing.{relax_lines_of}
use Rattle.fux_text.specs.Sing.{setting_table}
use Rattle.fux_text.specs.declared.fault.TextKind.{TextKind}

-- what is read of the lines before a setting, and those that are left behind each
abbrev pub AreReadBefore : List ℕ → ℕ → Exercise → List RangeLine → List Relax → List GivenBar → TextLines → Type 0
AreReadBefore bytes version head ranges relax given left =
    (all : TextLines) × (behind_version : TextLines) × (behind_head : TextLines) × (behind_ranges : TextLines)
    × (behind_relax : TextLines) × (text_in kinds.TooLong kinds.NotUtf8 bytes ≡ Ok all)
    × (line_in kinds.Head kinds.Head (codes "fux") (number_row kinds.Word 1 newest_version) all
    ≡ Ok (version, behind_version))
    × (table_in head_table behind_version ≡ Ok (head, behind_head))
    × (table_in (ranges_table head) behind_head ≡ Ok (ranges, behind_ranges))
    × (many_in (relax_lines_of head) [] behind_ranges.after behind_ranges.lines ≡ Ok (relax, behind_relax))
    × (many_in (given_lines_of version head) [] behind_relax.after behind_relax.lines ≡ Ok (given, left))

-- the exercise with its setting
abbrev with_setting : Exercise → List RangeLine → List Relax → List GivenBar → Result (Option Grid × TextLines) (Fault TextKind)
    → Result Exercise (Fault TextKind)
with_setting head ranges relax given read =
    read >>= λ x. Ok (record head { ranges = ranges; relax = relax; given = given; setting = x.0 })

setting-last : (bytes : List ℕ) (version : ℕ) (head : Exercise) (ranges : List RangeLine) (relax : List Relax)
    (given : List GivenBar) (left : TextLines) (read : Result (Option Grid × TextLines) (Fault TextKind))
    → AreReadBefore bytes version head ranges relax given left
    → table_in (setting_table (line_fits (record head { given = given })) head) left ≡ read
    → exercise_in bytes ≡ with_setting head ranges relax given read
unfolding exercise_in text_read table_in
setting-last bytes version head ranges relax given left read (a, b, c, d, l, text, first, head_lines, rs, ls, gs) e =
    rw (text, first, head_lines, rs, ls, gs, e) (by read)
  where
    whole : Option Grid × TextLines → Result (Exercise × TextLines) (Fault TextKind)
    whole s = Ok (record head { ranges = ranges; relax = relax; given = given; setting = s.0 }, s.1)

    by : (read : Result (Option Grid × TextLines) (Fault TextKind)) → ((read >>= λ s. whole s) >>= λ x. Ok x.0)
        ≡ with_setting head ranges relax given read
    by (Ok x) = refl
    by (Err f) = refl

-- what is asked of a setting of the exercise with these bars
abbrev setting_read : Exercise → List GivenBar → TextLines → Result (Option Grid × TextLines) (Fault TextKind)
setting_read head given left =
    table_in (setting_table (asks asked.Fitting (record head { given = given })) (record head { given = given })) left

pub read-setting : (bytes : List ℕ) (version : ℕ) (head : Exercise) (ranges : List RangeLine) (relax : List Relax)
    (given list : List GivenBar) (left rest : TextLines) (o : Option Grid)
    → AreReadBefore bytes version head ranges relax given left → list ≡ given
    → setting_read head list left ≡ Ok (o, rest)
    → exercise_in bytes ≡ Ok (record head { ranges = ranges; relax = relax; given = given; setting = o })
read-setting bytes version head ranges relax given list left rest o r same e =
    setting-last bytes version head ranges relax given left (Ok (o, rest)) r
    (subst (λ bars. setting_read head bars left ≡ Ok (o, rest)) same e)

pub fail-setting : (fault : TextFault TextKind) (bytes : List ℕ) (version : ℕ) (head : Exercise) (ranges : List RangeLine)
    (relax : List Relax) (given list : List GivenBar) (left : TextLines)
    → AreReadBefore bytes version head ranges relax given left → list ≡ given → Fails fault (setting_read head list left)
    → Fails fault (exercise_in bytes)
fail-setting faults.Memory bytes version head ranges relax given list left r same e = tt
fail-setting (faults.At kind line column) bytes version head ranges relax given list left r same e =
    let f : Fault TextKind = record { kind = kind; line = line; column = column } in
    setting-last bytes version head ranges relax given left (Err f) r
    (subst (λ bars. setting_read head bars left ≡ Err f) same e)
