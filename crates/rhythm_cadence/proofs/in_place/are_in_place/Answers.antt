use Rattle.std.proofs.Common.{◌≡◌, ℕ, Bool, not, ap, sym, ◌∙◌, arith}
use Rattle.std.specs.List.{list_any, range_with_len}
use Rattle.rule_law.proofs.Fused.{none_yet, some_passes}
use Rattle.rhythm_cadence.specs.InPlace.{is_out_of_place_at}
use Rattle.rhythm_cadence.proofs.in_place.are_in_place.Goals as goal

pub loop-v-preserved : goal.loop-v-preserved
loop-v-preserved c =
    none_yet (is_out_of_place_at c.args.ex.now c.args.i c.args.latest.now.pitches c.args.now.now) c.loop-v.v
    c.loop-v.invariant (sym c.is_out_of_place.ensures ∙ c.if-is_out_of_place.false)

pub returns-then-is_out_of_place : goal.returns-then-is_out_of_place
returns-then-is_out_of_place c =
    ap not (sym
    (some_passes (is_out_of_place_at c.args.ex.now c.args.i c.args.latest.now.pitches c.args.now.now) c.loop-v.v
    (omega arith) (sym c.is_out_of_place.ensures ∙ c.if-is_out_of_place.true)))

pub returns : goal.returns
returns c =
    let all : c.loop-v.v ≡ 4 = omega arith in
    let test : ℕ → Bool = is_out_of_place_at c.args.ex.now c.args.i c.args.latest.now.pitches c.args.now.now in
    ap not (sym (ap (λ n. list_any test (range_with_len 0 n)) (sym all) ∙ c.loop-v.invariant))
