use Rattle.std.proofs.Common.{◌≡◌, ℕ, Bool, true, false, not, refl, ap, sym, ◌∙◌, arith}
use Rattle.std.specs.List.{list_any, range_with_len}
use Rattle.rule_law.proofs.Fused.{none_yet, some_passes}
use Rattle.melody_rules.specs.Smooth.{is_rough_at}
use Rattle.melody_rules.proofs.smooth.are_smooth.Goals as goal

smooth : (rough : Bool) → true ≡ not rough → rough ≡ false
smooth true h = cc
smooth false h = refl

rough : (rough : Bool) → false ≡ not rough → rough ≡ true
rough true h = refl
rough false h = cc

pub loop-v-preserved : goal.loop-v-preserved
loop-v-preserved c = λ behind are.
    none_yet (is_rough_at c.args.ex.now behind c.args.now.now) c.loop-v.v
    (c.loop-v.invariant behind are) (smooth _ (c.if-not-is_smooth_in.ensures behind are))

pub returns-then-not-is_smooth_in : goal.returns-then-not-is_smooth_in
returns-then-not-is_smooth_in c = λ behind are.
    ap not (sym (some_passes (is_rough_at c.args.ex.now behind c.args.now.now) c.loop-v.v
    (omega arith) (rough _ (c.if-not-is_smooth_in.ensures behind are))))

pub returns : goal.returns
returns c = λ behind are.
    let all : c.loop-v.v ≡ 4 = omega arith in
    let test : ℕ → Bool = is_rough_at c.args.ex.now behind c.args.now.now in
    ap not (sym (ap (λ n. list_any test (range_with_len 0 n)) (sym all) ∙ c.loop-v.invariant behind are))
