use Rattle.std.proofs.Common.{◌≡◌, ◌<◌, ℕ, [], List, None, Option, length, slice_index_or, ap, sym, ◌∙◌, subst, arith}
use Rattle.std.proofs.lemmas.List.{get_or_default}
use Rattle.fux_grid.specs.Menus.{menu_of}
use Rattle.fux_judge.specs.Told.{least_alone}
use Rattle.cert_law.proofs.alone.told_in.Goals as goal

pub returns : goal.returns
returns c = λ ex are.
    let rules : List (List (Option ℕ)) = c.args.rules.now in
    let within : c.args.i < length rules = omega (arith, c.if-i-rules.false) in
    let row : c.as_slice-row.result.now ≡ slice_index_or rules c.args.i [] =
    c.as_slice-row.ensures ∙ c.index-rules-i.is ∙ get_or_default rules c.args.i c.index-rules-i.result [] within in
    subst (λ (r : List (Option ℕ)). slice_index_or r c.args.k None
    ≡ least_alone ex c.args.i (slice_index_or (menu_of ex c.args.i) c.args.k [])) (sym row)
    (are c.args.i within c.args.k (omega (arith, c.if-k-row.false, ap length row)))
