use Rattle.std.proofs.Common.{sym, ◌∙◌}
use Rattle.std.proofs.lemmas.Bool.{OnTrue_from}
use Rattle.std.proofs.lemmas.Bool.Decides.{Decides-eqb}
use Rattle.std.proofs.lemmas.Slice.Eq.{slice_eq-Decides}
use Rattle.chain_sums.specs.Menus.{HaveSameColumns, columns_of}
use Rattle.chain_sums.proofs.MenuLemmas.{same_columns}
use Rattle.chain_sums.proofs.menu.Menu.has_columns_of.Goals as goal

pub returns : goal.returns
returns c =
    let menu = c.args.self.now in
    let other = c.args.other.now in
    let test = slice_eq-Decides Decides-eqb c.as_slice.result.now c.as_slice-2.result.now c.eq.result c.eq.ensures in
    OnTrue_from c.eq.result (HaveSameColumns menu other)
    (λ h voices is is_other. same_columns voices (columns_of menu) (columns_of other) is.few is.full is_other.full
    (sym is.numbers ∙ sym c.as_slice.ensures.value ∙ test.0 h ∙ c.as_slice-2.ensures.value ∙ is_other.numbers))
