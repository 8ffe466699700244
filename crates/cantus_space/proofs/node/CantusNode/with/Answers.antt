use Rattle.std.proofs.Common.{◌≡◌, ◌<◌, length, rules, arith}
use Rattle.cantus_space.specs.Nodes.{started}
use Rattle.cantus_space.proofs.NodeLemmas.{pitches-more}
use Rattle.cantus_space.proofs.node.CantusNode.with.Goals as goal

pub returns-clause-pitches : goal.returns-clause-pitches
returns-clause-pitches c = λ behind kept.
    let size : length c.args.self.now.pitches ≡ 24 = search rules in
    let within : c.args.self.now.len < length c.args.self.now.pitches = omega (arith, size, c.requires.room) in
    let few : length behind < 192 = omega (arith, kept.count, c.requires.room) in
    record {
      count = omega (arith, kept.count);
      pitches = pitches-more behind c.args.self.now kept within c.args.pitch;
      notes = c.noted-next.ensures (started behind) kept.notes;
      climax = c.climax_with-next.ensures behind few kept.climax;
      leaps = c.leaps_with-next.ensures behind few kept.leaps;
      beyond = c.beyond_with.ensures behind kept;
      moves = c.moves_with.ensures behind kept;
      top = c.top_with.ensures behind kept;
    }
