use Rattle.std.proofs.Common.{◌≡◌, ◌<◌, ℕ, true, length, get_or, reverse, rules, ap, sym, ◌∙◌, subst, arith}
use Rattle.std.specs.Prelude.{if◌then◌else◌}
use Rattle.fux_grid.specs.Columns.{line}
use Rattle.fux_grid.specs.Exercises.{IsFree}
use Rattle.rule_law.specs.Voices.{is_free}
use Rattle.fux_judge.specs.declared.ahead.LineAhead.{LineAhead}
use Rattle.fux_judge.specs.declared.gauges.LineGauges.{LineGauges}
use Rattle.fux_judge.specs.Gauges.{cells_of_voice, least_of_line}
use Rattle.fux_judge.specs.GaugeStates.{IsAheadOf, IsGaugesOf}
use Rattle.fux_judge.proofs.LeastLaws.{free_voice, length-cells}
use Rattle.rule_law.proofs.FourLemmas.{one_of_four}
use Rattle.fux_judge.proofs.lines.least_of_voice.Goals as goal

pub returns-clause-value : goal.returns-clause-value
returns-clause-value c = λ p st prefix.
    let ex = c.args.ex.now in
    let v = c.args.v in
    let state = c.args.state.now in
    let free : is_free ex v ≡ true = sym c.is_free.ensures ∙ c.if-not-is_free.false in
    let is : IsFree ex v = free_voice ex v c.requires.voice free in
    let small : v < 4 = omega (arith, c.requires.voice, c.requires.valid.most_voices) in
    let four : length state.gauges ≡ 4 = search rules in
    let four_ahead : length state.ahead ≡ 4 = search rules in
    let Lines : ℕ → LineGauges → Type 0 = λ v kept. IsFree ex v → IsGaugesOf (line v (reverse p)) kept in
    let Ahead : ℕ → LineAhead → Type 0 = λ v ahead. IsFree ex v → IsAheadOf ex v (length p) ahead in
    let none : LineAhead = record { starts = 0; last_high = 0; highest = 0 } in
    let Behind : ℕ → Type 0 = λ n. IsAheadOf ex v n (get_or state.ahead v none) in
    c.least_of_line.ensures.value (cells_of_voice p v) (length-cells p v ∙ sym st.newest.count)
    (one_of_four Lines state.gauges v _ (λ v x has free. st.gauges v x free has) four small is)
    (subst Behind (sym st.newest.count) (one_of_four Ahead state.ahead v none
    (λ v x has free. st.ahead c.requires.valid prefix v x free has) four_ahead small is))
    ∙ sym (ap (λ b. if b then least_of_line ex c.args.sheet.now v (cells_of_voice p v) else 0) free)
