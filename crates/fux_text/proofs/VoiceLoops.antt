-- Reading the voices one after the other, as a loop does.
use Rattle.std.proofs.Common.{◌≡◌, ℕ, ◌+◌, ◌-◌, ◌<◌, ◌≤◌, List, [], ◌∷◌, ◌++◌, Result, Ok, Err, refl, sym, ap, ◌∙◌, arith}
use Rattle.std.specs.List.{range_with_len}
use Rattle.fux_grid.specs.declared.cell.Cell.{Cell}
use Rattle.fux_grid.specs.declared.exercise.Exercise.{Exercise}
use Rattle.text_lines.specs.declared.fault.TextFault.{TextFault}
use Rattle.text_lines.specs.declared.fault.TextFault.TheVariants as faults
use Rattle.text_lines.specs.Faults.{Fault, Fails}
use Rattle.text_lines.specs.Lines.{TextLines}
use Rattle.text_lines.specs.Tables.{table_in}
use Rattle.fux_text.specs.Sing.{Fit, voice_table, voices_table}
use Rattle.fux_text.proofs.CountSteps.{range-next}
use Rattle.fux_text.specs.declared.fault.TextKind.{TextKind}

-- one voice more
pub voices-more : (fit : Fit) (ex : Exercise) (a b : ℕ) (before : List (List Cell)) (text rest : TextLines) (cells : List Cell)
    (total : Result (List (List Cell) × TextLines) (Fault TextKind)) → a < b → table_in (voice_table fit ex a) text ≡ Ok (cells, rest)
    → table_in (voices_table fit ex (range_with_len a (b - a)) before) text ≡ total
    → table_in (voices_table fit ex (range_with_len (a + 1) (b - (a + 1))) (before ++ cells ∷ [])) rest ≡ total
unfolding table_in
voices-more fit ex a b before text rest cells total lt h so_far =
    let one : table_in (voices_table fit ex (a ∷ range_with_len (a + 1) (b - (a + 1))) before) text
    ≡ table_in (voices_table fit ex (range_with_len (a + 1) (b - (a + 1))) (before ++ cells ∷ [])) rest = rw h refl in
    sym one ∙ ap (λ vs. table_in (voices_table fit ex vs before) text) (sym (range-next a b lt)) ∙ so_far

-- no voice more
pub voices-fail : (e : TextFault TextKind) (fit : Fit) (ex : Exercise) (a b : ℕ) (before : List (List Cell)) (text : TextLines)
    (total : Result (List (List Cell) × TextLines) (Fault TextKind)) → a < b → Fails e (table_in (voice_table fit ex a) text)
    → table_in (voices_table fit ex (range_with_len a (b - a)) before) text ≡ total → Fails e total
unfolding table_in
voices-fail faults.Memory fit ex a b before text total lt h so_far = tt
voices-fail (faults.At kind line column) fit ex a b before text total lt h so_far =
    let f : Fault TextKind = record { kind = kind; line = line; column = column } in
    let one : table_in (voices_table fit ex (a ∷ range_with_len (a + 1) (b - (a + 1))) before) text ≡ Err f = rw h refl in
    sym so_far ∙ ap (λ vs. table_in (voices_table fit ex vs before) text) (range-next a b lt) ∙ one

-- all voices
pub voices-all : (fit : Fit) (ex : Exercise) (a b : ℕ) (before : List (List Cell)) (text : TextLines)
    (total : Result (List (List Cell) × TextLines) (Fault TextKind)) → b ≤ a
    → table_in (voices_table fit ex (range_with_len a (b - a)) before) text ≡ total → total ≡ Ok (before, text)
unfolding table_in
voices-all fit ex a b before text total le so_far =
    let none : b - a ≡ 0 = omega arith in
    let one : table_in (voices_table fit ex (range_with_len a (b - a)) before) text ≡ Ok (before, text) = rw none refl in
    sym so_far ∙ one
