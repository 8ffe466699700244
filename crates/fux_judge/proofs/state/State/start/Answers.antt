use Rattle.fux_judge.proofs.state.State.start.Goals as goal

pub returns : goal.returns
returns c = record {
  newest = c.none.ensures c.args.ex.now.voices;
  past = c.none-2.ensures c.args.ex.now;
  gauges = λ v kept free is. c.all_ungauged.ensures v kept is;
  ahead = c.all_ahead_at_start.ensures;
}
