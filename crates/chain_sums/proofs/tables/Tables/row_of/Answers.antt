use Rattle.std.proofs.Common.{◌∙◌}
use Rattle.chain_sums.proofs.TableLemmas.{place_found}
use Rattle.chain_sums.proofs.tables.Tables.row_of.Goals as goal

pub returns : goal.returns
returns c = λ chains are within.
    place_found chains c.args.self.now c.args.i c.len-2.result c.index.result.now c.numbered.result are within
    (c.len-2.ensures ∙ c.args.self.now.places.ok.0) c.index.ensures c.numbered.ensures
