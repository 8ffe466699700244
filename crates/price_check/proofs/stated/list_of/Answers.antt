use Rattle.price_check.proofs.stated.list_of.Goals as goal

pub returns : goal.returns
returns c = record {
  keeps = c.stated.ensures;
  scale = c.in_ok-charges.ensures.scale;
  strikes = c.in_ok-charges.ensures.strikes;
  voice = c.in_ok-charges.ensures.voice;
  summits = c.in_ok-charges.ensures.summits;
  plain = c.is_plain.ensures;
}
