use Rattle.std.proofs.Common.{◌≡◌, List, ap, sym, ◌∙◌, subst, map}
use Rattle.arrayvec.specs.ArrayVec.{ArrayVec}
use Rattle.fux_grid.specs.declared.cell.Cell.{Cell}
use Rattle.fux_grid.specs.Grid.{items_of}
use Rattle.chain_sums.specs.Menus.{IsRising}
use Rattle.chain_sums.specs.Packed.{packed}
use Rattle.chain_sums.proofs.MenuLemmas.{numbers-rise}
use Rattle.chain_sums.proofs.menu.Menu.new.Goals as goal

pub returns-clause-packed : goal.returns-clause-packed
returns-clause-packed c =
    let columns = items_of c.args.columns.items in
    let numbers : c.in_ok-numbers.numbers.items ≡ map packed columns =
    c.in_ok-numbers.ensures ∙ ap (λ (xs : List (ArrayVec Cell)). map packed (items_of xs)) c.deref.ensures.value in
    record {
      numbers = numbers;
      rising = subst IsRising (sym numbers)
          (numbers-rise c.args.voices columns c.requires.few c.requires.full c.requires.order);
      full = c.requires.full;
      few = c.requires.few;
    }
