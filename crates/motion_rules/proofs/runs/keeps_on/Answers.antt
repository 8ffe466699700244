use Rattle.std.proofs.Common.{◌≡◌, ◌==◌, ◌≤◌, true, false, [], length, ap, sym, ◌∙◌, arith}
use Rattle.std.specs.Int.{from_bool}
use Rattle.std.specs.Prelude.{slice_index_or, if◌then◌else◌}
use Rattle.std.specs.List.{list_all}
use Rattle.std.proofs.lemmas.Bool.{ne_eqb}
use Rattle.motion_rules.specs.Runs.{sound_imperfect, three_bar_lines_at}
use Rattle.motion_rules.proofs.RunLemmas.{first_tells, neither_tells, no_run, number_of, second_tells}
use Rattle.motion_rules.proofs.runs.keeps_on.Goals as goal

pub returns-then-w-now-clause-value : goal.returns-then-w-now-clause-value
returns-then-w-now-clause-value g c = λ s first shown near here is.
    let past : length (slice_index_or s c.args.i []) ≤ c.args.w = omega (arith, ap length is, c.if-w-now.true) in
    sym (ap (λ b. if b then 1 else 0) (no_run s c.args.i c.args.v c.args.w past))

pub returns-then-degrees-eq2-clause-value : goal.returns-then-degrees-eq2-clause-value
returns-then-degrees-eq2-clause-value g c = λ s first shown near here is.
    let v = c.args.v in
    let w = c.args.w in
    let now = slice_index_or s c.args.i [] in
    let thirds : sound_imperfect 2 now v w ≡ true = ap (λ col. sound_imperfect 2 col v w) (sym is)
    ∙ sym c.imperfect_in-degrees.ensures.thirds ∙ ap (λ n. n == 2) c.if-degrees-eq2.true in
    let sixths : sound_imperfect 5 now v w ≡ false = ap (λ col. sound_imperfect 5 col v w) (sym is)
    ∙ sym c.imperfect_in-degrees.ensures.sixths ∙ ap (λ n. n == 5) c.if-degrees-eq2.true in
    let rest = list_all (λ col. sound_imperfect 2 col v w) (three_bar_lines_at s c.args.i) in
    let other = list_all (λ col. sound_imperfect 5 col v w) (three_bar_lines_at s c.args.i) in
    c.from.ensures
    ∙ ap from_bool (c.sound_before.ensures s first shown near here
    ∙ first_tells (sound_imperfect 2 now v w) (sound_imperfect 5 now v w) rest other thirds sixths)
    ∙ number_of _

pub returns-then-degrees-eq5-clause-value : goal.returns-then-degrees-eq5-clause-value
returns-then-degrees-eq5-clause-value g c = λ s first shown near here is.
    let v = c.args.v in
    let w = c.args.w in
    let now = slice_index_or s c.args.i [] in
    let thirds : sound_imperfect 2 now v w ≡ false = ap (λ col. sound_imperfect 2 col v w) (sym is)
    ∙ sym c.imperfect_in-degrees.ensures.thirds ∙ ap (λ n. n == 2) c.if-degrees-eq5.true in
    let sixths : sound_imperfect 5 now v w ≡ true = ap (λ col. sound_imperfect 5 col v w) (sym is)
    ∙ sym c.imperfect_in-degrees.ensures.sixths ∙ ap (λ n. n == 5) c.if-degrees-eq5.true in
    let rest = list_all (λ col. sound_imperfect 5 col v w) (three_bar_lines_at s c.args.i) in
    let other = list_all (λ col. sound_imperfect 2 col v w) (three_bar_lines_at s c.args.i) in
    c.from-then-degrees-eq5.ensures
    ∙ ap from_bool (c.sound_before-then-degrees-eq5.ensures s first shown near here
    ∙ second_tells (sound_imperfect 2 now v w) (sound_imperfect 5 now v w) other rest thirds sixths)
    ∙ number_of _

pub returns-clause-value : goal.returns-clause-value
returns-clause-value g c = λ s first shown near here is.
    let v = c.args.v in
    let w = c.args.w in
    let now = slice_index_or s c.args.i [] in
    let thirds : sound_imperfect 2 now v w ≡ false = ap (λ col. sound_imperfect 2 col v w) (sym is)
    ∙ sym c.imperfect_in-degrees.ensures.thirds ∙ ne_eqb c.imperfect_in-degrees.result 2 c.if-degrees-eq2.false in
    let sixths : sound_imperfect 5 now v w ≡ false = ap (λ col. sound_imperfect 5 col v w) (sym is)
    ∙ sym c.imperfect_in-degrees.ensures.sixths ∙ ne_eqb c.imperfect_in-degrees.result 5 c.if-degrees-eq5.false in
    sym (ap (λ b. if b then 1 else 0) (neither_tells (sound_imperfect 2 now v w) (sound_imperfect 5 now v w)
    (list_all (λ col. sound_imperfect 2 col v w) (three_bar_lines_at s c.args.i))
    (list_all (λ col. sound_imperfect 5 col v w) (three_bar_lines_at s c.args.i)) thirds sixths))
