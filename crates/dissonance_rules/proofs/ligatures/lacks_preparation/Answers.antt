use Rattle.std.specs.Prelude.{◌≡◌, ◌-◌, ◌&&◌, ◌||◌, true, List, [], ◌∷◌, not, slice_index_or}
use Rattle.std.proofs.Common.{ap, sym, ◌∙◌, arith}
use Rattle.fux_grid.specs.declared.cell.Cell.{Cell}
use Rattle.fux_grid.specs.Columns.{earlier, newest_column}
use Rattle.rule_law.proofs.AroundLemmas.{length-earlier}
use Rattle.rule_law.specs.Sounding.{sounding_note, started_after}
use Rattle.rule_law.specs.Terms.{is_clean}
use Rattle.dissonance_rules.specs.Ligatures.{is_suspended, is_unprepared}
use Rattle.dissonance_rules.proofs.Preparations.{unprepared_same}
use Rattle.dissonance_rules.proofs.ligatures.lacks_preparation.Goals as goal

pub returns : goal.returns
returns g c = λ s first shown from there.
    let i = c.args.i in
    let v = c.args.v in
    let w = c.args.w in
    let behind = earlier s i in
    let now = slice_index_or s i [] in
    let suspended : is_suspended i now v w ≡ true =
    ap (λ (col : List Cell). is_suspended i col v w) (sym (c.cells.ensures s first shown (omega (arith, from))))
    ∙ sym c.is_suspended.ensures ∙ c.if-not-is_suspended.false in
    c.is_unprepared.ensures
    ∙ ap (λ (col : List Cell). is_unprepared col c.cells_behind-2.result.now c.cells_behind-3.result.now v)
    (c.cells_behind.ensures s first shown (omega (arith, from)) (omega (arith, there)))
    ∙ ap (λ (col : List Cell). is_unprepared (slice_index_or behind 0 []) col c.cells_behind-3.result.now v)
    (c.cells_behind-2.ensures s first shown (omega (arith, from)) (omega (arith, there)))
    ∙ ap (λ (col : List Cell). is_unprepared (slice_index_or behind 0 []) (slice_index_or behind 1 []) col v)
    (c.cells_behind-3.ensures s first shown (omega (arith, from)) (omega (arith, there)))
    ∙ unprepared_same i v w behind now (length-earlier s i (omega (arith, there))) suspended
    ∙ sym (ap (λ b. b && (started_after (i - 4) (sounding_note v (now ∷ behind))
    || not (is_clean (newest_column behind) v))) suspended)
