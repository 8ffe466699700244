-- A `sing` line that is read has the words of a line with these cells, which fit
-- (`sing_line-only`), as many as its bars hold.
use Rattle.std.proofs.Common.{◌≡◌, ℕ, suc, ◌+◌, ◌-◌, ◌*◌, ◌≤◌, Bool, true, false, List, [], ◌∷◌, length, Option, Some, None, Ok, refl, sym, ap, ◌∙◌, arith}
use Rattle.std.specs.Prelude.{◌==◌, not, codes}
use Rattle.std.specs.Fmt.{decimal}
use Rattle.std.proofs.lemmas.Bool.{eqb-true, not-false}
use Rattle.std.proofs.lemmas.List.{length-replicate}
use Rattle.fux_grid.specs.declared.cell.Cell.{Cell}
use Rattle.fux_grid.specs.Cells.{held}
use Rattle.fux_text.specs.declared.fault.TextKind.{TextKind}
use Rattle.fux_text.specs.declared.fault.TextKind.TheVariants as kinds
use Rattle.text_lines.specs.Lines.{TextLines}
use Rattle.text_lines.specs.Numbers.{number_of, number_within}
use Rattle.text_lines.specs.Rows.{IsRun, refused_if, run_in}
use Rattle.text_lines.specs.Tables.{IsLine}
use Rattle.text_lines.proofs.Binds.{bind_ok}
use Rattle.text_lines.proofs.RowLemmas.{run-gives}
use Rattle.fux_text.specs.Grammar.{IsSung}
use Rattle.fux_text.specs.Sing.{is_full, item_cells, misfit, sing_row, sung_end, sung_place, sung_run, sung_voice}
use Rattle.fux_text.specs.Words.{texts}
use Rattle.fux_text.proofs.Bounds.{within-bounds}
use Rattle.fux_text.proofs.Following.{value_is}
use Rattle.fux_text.proofs.OnlyWords.{line-words, line_texts, stands-words, within-only}

pub item_cells-length : (c : Cell) (n : ℕ) → 1 ≤ n → length (item_cells c n) ≡ n
item_cells-length c n some = ap suc (length-replicate (n - 1) (held c)) ∙ omega (arith, some)

-- where nothing was refused, the test failed
pub not_refused : (bad : Bool) (kind : TextKind) (x : Unit {0}) → refused_if bad kind ≡ Ok x → bad ≡ false
not_refused true kind x e = absurd (grind (arith, e))
not_refused false kind x e = refl

end-length : (count : ℕ) (before : ℕ × List Cell) (cells : List Cell) → sung_end count before ≡ Ok cells
    → length cells ≡ 8 * count
unfolding sung_end
end-length count before cells e =
    let open_ = not (is_full before.0 before.1) in
    let less = not (before.0 + 1 == count) in
    let full = bind_ok (refused_if open_ kinds.Length) _ cells e in
    let whole = bind_ok (refused_if less kinds.BarLine) _ cells full.2 in
    let long : length before.1 ≡ 8 * before.0 + 8 =
    eqb-true (length before.1) (8 * before.0 + 8)
    (not-false (is_full before.0 before.1) (not_refused open_ kinds.Length full.0 full.1)) in
    let last : before.0 + 1 ≡ count =
    eqb-true (before.0 + 1) count (not-false (before.0 + 1 == count) (not_refused less kinds.BarLine whole.0 whole.1))
    in
    omega (arith, long, last, ap length (value_is before.1 cells _ refl whole.2))

run-length : (count : ℕ) (before : ℕ × List Cell) (words : List (List ℕ)) (cells : List Cell)
    → IsRun (sung_run count) before words cells → length cells ≡ 8 * count
run-length count before [] cells h = end-length count before cells h
run-length count before (word ∷ words) cells h = run-length count h.0 words cells h.2

-- a line has eight cells for each of its bars
pub sung-length : (count v : ℕ) (words : List (List ℕ)) (cells : List Cell) → IsSung count v words cells
    → length cells ≡ 8 * count
sung-length count v words cells s = run-length count (0, []) s.items cells s.run

-- a voice that stands there is this one, and the cells behind it fit
sung-voice : (bad : Bool) (o : Option ℕ) (n : ℕ) → sung_voice bad o ≡ Ok n → (o ≡ Some n) × (bad ≡ false)
sung-voice bad None n e = absurd (grind (arith, e))
sung-voice true (Some v) n e = absurd (grind (arith, e))
sung-voice false (Some v) n e = (grind (arith, e), refl)

-- the line that is read for a voice
pub record IsLineFor (fit : List Cell → Bool) (count v : ℕ) (text : TextLines) (cells : List Cell) (rest : TextLines)
    : Type 0 where
  pub words : List (List ℕ)
  pub line : line_texts text ≡ words ∷ line_texts rest
  pub sung : IsSung count v words cells
  pub fits : fit cells ≡ true

pub sing_line-only : (fit : List Cell → Bool) (count v : ℕ) (text : TextLines) (cells : List Cell) (rest : TextLines)
    → IsLine (codes "sing") (sing_row fit count v) text cells rest → IsLineFor fit count v text cells rest
sing_line-only fit count v text cells rest l =
    let n = l.right.0 in
    let behind = l.right.1 in
    let stands = l.right.2 in
    let read = run_in (sung_run count) (0, []) behind behind.words in
    let said = sung-voice (misfit fit read) (number_within v v stands.word.text) n stands.right in
    let bounds = within-bounds v v (number_of stands.word.text) n said.0 in
    let same : n ≡ v = omega (arith, bounds.above, bounds.below) in
    let gives : read ≡ Ok cells = run-gives (sung_run count) (0, []) behind behind.words cells l.right.3 in
    record {
      words = codes "sing" ∷ decimal v ∷ texts behind;
      line = line-words (codes "sing") (sing_row fit count v) text cells rest l
          ∙ ap (λ ws. (codes "sing" ∷ ws) ∷ line_texts rest)
          (stands-words (sung_place fit count v) n l.words behind stands
          ∙ ap (λ word. word ∷ texts behind) (within-only v v stands.word.text n said.0))
          ∙ ap (λ n. (codes "sing" ∷ decimal n ∷ texts behind) ∷ line_texts rest) same;
      sung = record { items = texts behind; written = refl; run = l.right.3 };
      fits = not-false (fit cells) (ap (misfit fit) (sym gives) ∙ said.1);
    }
