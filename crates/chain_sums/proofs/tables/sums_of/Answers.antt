use Rattle.std.proofs.Common.{◌≡◌, ◌+◌, ◌-◌, ◌*◌, ◌^◌, List, ℕ, Option, length, sym, subst, arith}
use Rattle.std.proofs.lemmas.Result.{IfOk-weaker}
use Rattle.chain_sums.specs.Menus.{IsPacked}
use Rattle.chain_sums.specs.Rows.{AllAtMost, IsRow}
use Rattle.chain_sums.proofs.TableLemmas.{latest_small}
use Rattle.chain_sums.proofs.tables.sums_of.Goals as goal

pub sums_before-requires-clause-row : goal.sums_before-requires-clause-row
sums_before-requires-clause-row g c κs within =
    let chains = g.L.Links.chains c.args.links.now in
    let found = c.in-Some.ensures chains c.requires.rows in
    let here : chains.places - length c.args.tables.now.places.items ≡ c.args.i + 1 = omega (arith, c.requires.place) in
    subst (IsRow chains (c.args.i + 1)) (sym c.deref.ensures.value)
    (subst (λ (i : ℕ). IsRow chains i c.in-Some.next.now.sums.items) here found.1.sums)

pub returns-clause-small : goal.returns-clause-small
returns-clause-small g c =
    let chains = g.L.Links.chains c.args.links.now in
    let places = c.args.tables.now.places.items in
    let n : ℕ = length places in
    let found = c.in-Some.ensures chains c.requires.rows in
    let kept : AllAtMost ((n - 1) * 2 ^ 53) c.deref.result.now =
    subst (λ (xs : List (Option ℕ)). AllAtMost ((n - 1) * 2 ^ 53) xs) (sym c.deref.ensures.value)
    (latest_small chains c.args.tables.now.menus.items places c.in-Some.next.now c.requires.rows.few found.0 found.1) in
    let more : (n - 1) * 2 ^ 53 + 2 ^ 53 ≡ n * 2 ^ 53 = omega (arith, found.0) in
    IfOk-weaker c.sums_before.result _ _ (λ row h. subst (λ (k : ℕ). AllAtMost k row.items) more
    (h ((n - 1) * 2 ^ 53) kept)) c.sums_before.ensures.small

pub sums_before-requires-clause-packed : goal.sums_before-requires-clause-packed
sums_before-requires-clause-packed g c κs within =
    let chains = g.L.Links.chains c.args.links.now in
    let number = c.in-Some.next.now.menu in
    let found = c.in-Some.ensures chains c.requires.rows in
    subst (IsPacked chains.voices) (sym c.index.ensures) (c.requires.rows.packed number c.index.result.now found.1.named)
