use Rattle.std.proofs.Common.{◌≡◌, ◌<◌, ℕ, suc, ◌+◌, ◌++◌, ◌∷◌, [], List, take, length, reverse, slice_index_or, ap, sym, ◌∙◌, subst, IsOk, arith}
use Rattle.std.proofs.Math.Seq.{take-suc}
use Rattle.std.proofs.lemmas.List.{length-take-le, take_all}
use Rattle.std.proofs.lemmas.List.Elements.{same_from_all_zip}
use Rattle.fux_grid.specs.declared.cell.Cell.{Cell}
use Rattle.fux_grid.specs.Columns.{ColumnFollows, HistoryFollows, earlier, newest_column}
use Rattle.fux_grid.proofs.NoteLemmas.{follows-at}
use Rattle.cert_writer.proofs.copy.copy_of.Goals as goal

follows_there : (s : List (List Cell)) → HistoryFollows (reverse s) → (k : ℕ) → k < length s
    → ColumnFollows (newest_column (reverse (take k s))) (slice_index_or s k [])
unfolding earlier
follows_there s follows k within =
    follows-at s (length s) (omega arith) (subst (λ (t : List (List Cell)). HistoryFollows (reverse t))
    (sym (take_all (length s) s (omega arith))) follows) k within

one_more : (s : List (List Cell)) (k : ℕ) → k < length s → take k s ++ slice_index_or s k [] ∷ [] ≡ take (k + 1) s
one_more s k within =
    let next : k + 1 ≡ suc k = omega arith in
    sym (ap (λ n. take n s) next ∙ take-suc s k [] within)

pub loop-i-preserved : goal.loop-i-preserved
loop-i-preserved c =
    let s = c.args.score.now.columns in
    let i = c.loop-i.i in
    let pushed = c.in-Ok.ensures.ok in
    let copied : c.in_ok-clone.field-0.items
    ≡ c.column-column.result.now.items = same_from_all_zip _ c.column-column.result.now.items
    c.in_ok-clone.field-0.items c.in_ok-clone.ensures.cases (λ x y e. e) in
    let within : i < length s = omega (arith, c.loop-i-test.true) in
    record {
      voices = ap (λ g. g.voices) pushed ∙ c.loop-i.invariant.voices;
      columns =
          ap (λ g. g.columns) pushed ∙ ap (λ cols. cols ++ c.in_ok-clone.field-0.items ∷ []) c.loop-i.invariant.columns
          ∙ ap (λ col. take i s ++ col ∷ []) (copied ∙ c.column-column.ensures.value) ∙ one_more s i within;
    }

pub unreachable-requires : goal.unreachable-requires
unreachable-requires c =
    let s = c.args.score.now.columns in
    let i = c.loop-i.i in
    let within : i < length s = omega (arith, c.loop-i-test.true) in
    let copied : c.in_ok-clone.field-0.items
    ≡ c.column-column.result.now.items = same_from_all_zip _ c.column-column.result.now.items
    c.in_ok-clone.field-0.items c.in_ok-clone.ensures.cases (λ x y e. e) in
    let same : c.in_ok-clone.field-0.items ≡ slice_index_or s i [] = copied ∙ c.column-column.ensures.value in
    let size : length (take i s) ≡ i = length-take-le i s (omega (arith, within)) in
    let taken : IsOk c.push.result = c.push.ensures.taken
    (rw c.loop-i.invariant.columns (omega (arith, size, within, c.kept.ensures.few)))
    (ap length copied ∙ c.column-column.ensures.full ∙ sym c.loop-i.invariant.voices)
    (rw (same, c.loop-i.invariant.columns) (follows_there s c.kept.ensures.follows i within)) in
    cc (rw c.in_default.is at taken)
