use Rattle.std.proofs.Common.{◌≡◌, ℕ, ◌==◌, ◌||◌, Bool, true, false, ap, sym, ◌∙◌, length, true≢false, arith}
use Rattle.std.specs.Prelude.{not, slice_index}
use Rattle.std.proofs.lemmas.Bool.{eq-eqb, lt-ltb}
use Rattle.fux_grid.specs.Cells.{cell_in}
use Rattle.rule_law.specs.Bars.{begins_bar}
use Rattle.rhythm_cadence.specs.Parts.{shapes_after}
use Rattle.rhythm_cadence.proofs.ShapeLeft.{leaves_last}
use Rattle.rhythm_cadence.proofs.part.leaves_last_shape.Goals as goal

-- where no bar begins, some shape is left
some_left : (begins : Bool) (possible : ℕ) → (begins || not (possible == 0)) ≡ true → begins ≡ false → possible ≡ 0
    → true ≡ false
some_left true possible h e none = e
some_left false possible h e none = sym h ∙ ap not (eq-eqb possible 0 none)

pub returns : goal.returns
returns c = λ p col long shapes its.
    let ex = c.args.ex.now in
    let possible = slice_index c.args.part.now.possible c.args.v in
    leaves_last ex p col c.args.v possible c.requires.voice (lt-ltb c.args.v ex.voices (omega (arith, c.if-v-ex.false)))
    (sym c.is_free.ensures ∙ c.if-not-is_free.false)
    (λ free some. shapes c.args.v some free)
    (λ e none. true≢false (some_left (begins_bar (length p)) possible
    (ap (λ n. begins_bar n || not (possible == 0)) long ∙ sym c.has_begun_shapes.ensures
    ∙ c.if-not-has_begun_shapes.false) e none))
    (ap (λ n. shapes_after ex c.args.v n possible (cell_in col c.args.v)) long
    ∙ ap (shapes_after ex c.args.v c.args.i possible) its ∙ sym c.kept.ensures ∙ c.if-kept-ne0.false)
