use Rattle.fux_judge.proofs.verdict.moment_of.Goals as goal

pub returns-clause-after : goal.returns-clause-after
returns-clause-after c = λ p st. record {
  state = st;
  before = c.before-2.ensures p st;
  latest = c.latest.ensures c.args.ex.now p st.past;
}
