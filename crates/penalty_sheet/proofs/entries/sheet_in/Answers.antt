use Rattle.std.proofs.Common.{◌≡◌, ℕ, ◌+◌, ◌<◌, ◌≤◌, ◌==◌, false, List, get_or, get_or-set_other, length-set, ap, sym, ◌∙◌, arith, inl, inr}
use Rattle.std.specs.Prelude.{if◌then◌else◌}
use Rattle.std.proofs.lemmas.Bool.{cases_lt, ne_eqb}
use Rattle.std.proofs.lemmas.List.Edits.{fill_by_more}
use Rattle.std.proofs.lemmas.List.FromFn.{fill_by_all}
use Rattle.toml.specs.View.{table_view}
use Rattle.penalty_sheet.specs.declared.sheet.Sheet.{Sheet}
use Rattle.penalty_sheet.specs.Weights.{default_weights}
use Rattle.penalty_sheet.specs.Sheets.{sheet_in, weight_by, weight_in}
use Rattle.penalty_sheet.proofs.entries.sheet_in.Goals as goal

pub loop-i-preserved : goal.loop-i-preserved
loop-i-preserved c =
    let entries = table_view c.args.table.now in
    let i = c.loop-i.i in
    let f = weight_by entries c.args.more in
    let (size, so_far, last) = c.loop-i.invariant in
    let below : i < 20 = omega (arith, c.loop-i-test.true) in
    let other : (i == 20) ≡ false = ne_eqb i 20 (λ e. omega (arith, below, e)) in
    let here : c.weight_in.result ≡ f i =
    c.weight_in.ensures ∙ ap (λ ws. weight_in entries (i + 1) (get_or ws i 0)) c.default_sheet-default.ensures
    ∙ sym (ap (λ b. if b then c.args.more else weight_in entries (i + 1) (get_or default_weights i 0)) other) in (
      length-set c.loop-i.weights i c.weight_in.result ∙ size,
      rw here (fill_by_more f c.loop-i.weights i 0 (omega (arith, size, below)) so_far),
      get_or-set_other c.loop-i.weights i 20 c.weight_in.result 0 (λ e. omega (arith, below, e)) ∙ last,
    )

pub returns : goal.returns
unfolding sheet_in
returns c =
    let f = weight_by (table_view c.args.table.now) c.args.more in
    let made : List ℕ → Sheet = λ w. record { weights = w } in
    let (size, so_far, last) = c.loop-i.invariant in
    ap made (fill_by_all f c.loop-i.weights 21 0 size (each f c.loop-i.weights c.loop-i.i (omega (arith, c.loop-i-test.false))
    so_far last))
  where
    each : (f : ℕ → ℕ) (weights : List ℕ) (i : ℕ) → 20 ≤ i → ((k : ℕ) → k < i → get_or weights k 0 ≡ f k)
        → get_or weights 20 0 ≡ f 20 → (k : ℕ) → k < 21 → get_or weights k 0 ≡ f k
    each f weights i far so_far last k h = elim (cases_lt k 20) [
      | inl below ↦ so_far k (omega (arith, below, far))
      | inr past ↦ let there : k ≡ 20 = omega (arith, past, h) in
          ap (λ n. get_or weights n 0) there ∙ last ∙ ap f (sym there)
    ]
