use Rattle.std.proofs.Common.{◌≡◌, ◌≤◌, ◌+◌, ◌&&◌, not, true, Bool, ℕ, if◌then◌else◌, ap, sym, ◌∙◌, arith}
use Rattle.std.specs.Prelude.{nat_le}
use Rattle.std.proofs.lemmas.Bool.Decides.{nat_tests}
use Rattle.rule_law.specs.Pairs.{count_pairs, sound_perfect}
use Rattle.rule_law.specs.Voices.{voice_pairs}
use Rattle.motion_rules.specs.InnerVoices.{inner_move_into_perfect}
use Rattle.motion_rules.specs.Rows.{are_outer}
use Rattle.motion_rules.proofs.WayLemmas.{told_by_headings}
use Rattle.motion_rules.proofs.inner_voices.inner_moves.Goals as goal

enough : (n : ℕ) → 3 ≤ n → nat_le 3 n ≡ true
enough n h = grind (arith, nat_tests)

pub returns-clause-value : goal.returns-clause-value
unfolding voice_pairs
returns-clause-value c =
    let ex = c.args.ex.now in
    let before = c.args.before.now in
    let now = c.args.now.now in
    let test : ℕ → ℕ → Bool → Bool = λ v w b. not (are_outer ex v w) && (b && sound_perfect now v w) in
    let many = enough ex.voices (omega (arith, c.if-ex-lt3.false)) in
    let all : c.pays.result + c.pays-2.result + c.pays-3.result + c.pays-4.result + c.pays-5.result + c.pays-6.result
    ≡ count_pairs (inner_move_into_perfect ex before now) = omega (
      arith,
      told_by_headings before now 0 1 (test 0 1) _ _ _ c.heading_of-first.ensures c.heading_of-second.ensures c.pays.ensures.value,
      told_by_headings before now 0 2 (test 0 2) _ _ _ c.heading_of-first.ensures c.heading_of-third.ensures c.pays-2.ensures.value,
      told_by_headings before now 0 3 (test 0 3) _ _ _ c.heading_of-first.ensures c.heading_of-fourth.ensures c.pays-3.ensures.value,
      told_by_headings before now 1 2 (test 1 2) _ _ _ c.heading_of-second.ensures c.heading_of-third.ensures c.pays-4.ensures.value,
      told_by_headings before now 1 3 (test 1 3) _ _ _ c.heading_of-second.ensures c.heading_of-fourth.ensures c.pays-5.ensures.value,
      told_by_headings before now 2 3 (test 2 3) _ _ _ c.heading_of-third.ensures c.heading_of-fourth.ensures c.pays-6.ensures.value,
    ) in
    all ∙ sym (ap (λ b. if b then count_pairs (inner_move_into_perfect ex before now) else 0) many)
