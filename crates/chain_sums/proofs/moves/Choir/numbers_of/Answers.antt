use Rattle.std.proofs.Common.{◌≡◌, [], length, get_or, subst, arith}
use Rattle.chain_sums.specs.Menus.{columns_of}
use Rattle.chain_sums.specs.Moves.{AreNumbersOf}
use Rattle.chain_sums.proofs.TableLemmas.{each_pushed}
use Rattle.chain_sums.proofs.moves.Choir.numbers_of.Goals as goal

pub loop-k-preserved : goal.loop-k-preserved
loop-k-preserved c =
    let long : length c.loop-k.numbers.items ≡ c.loop-k.k = omega (
      arith,
      c.loop-k.invariant.counted,
      c.loop-k.numbers.ok.0,
    ) in
    record {
      room = omega (arith, c.loop-k.invariant.room, c.push_reserved.ensures.capacity);
      counted = omega (arith, c.loop-k.invariant.counted, c.push_reserved.ensures.len);
      are = λ j none. rw c.push_reserved.ensures.items
          (each_pushed (λ j n. AreNumbersOf c.args.self.now (get_or (columns_of c.args.menu.now) j []) n) c.loop-k.k
          c.loop-k.numbers.items c.numbers.result none long (λ m. c.loop-k.invariant.are m none)
          (subst (λ d. AreNumbersOf c.args.self.now d c.numbers.result) c.column.ensures c.numbers.ensures) j);
    }
