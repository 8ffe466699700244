use Rattle.std.proofs.Common.{◌≡◌, ℕ, ◌+◌, ◌-◌, ◌*◌, ◌^◌, List, Option, length, sym, subst, arith}
use Rattle.chain_sums.specs.Rows.{AllAtMost, IsRow}
use Rattle.chain_sums.proofs.TableLemmas.{at_most_more, latest_small}
use Rattle.chain_sums.proofs.tables.Tables.least_of_all.Goals as goal

pub least_behind-requires-clause-row : goal.least_behind-requires-clause-row
least_behind-requires-clause-row g c =
    let chains = g.L.Links.chains c.args.links.now in
    let found = c.in-Some.ensures chains c.requires.rows in
    let first : chains.places - length c.args.self.now.places.items ≡ 0 = omega (arith, c.requires.whole) in
    subst (IsRow chains 0) (sym c.deref.ensures.value)
    (subst (λ (i : ℕ). IsRow chains i c.in-Some.first.now.sums.items) first found.1.sums)

pub returns-clause-small : goal.returns-clause-small
returns-clause-small g c =
    let chains = g.L.Links.chains c.args.links.now in
    let rows = c.args.self.now.places.items in
    let most : ℕ = (length rows - 1) * 2 ^ 53 in
    let found = c.in-Some.ensures chains c.requires.rows in
    let all : AllAtMost most c.deref.result.now =
    subst (λ (xs : List (Option ℕ)). AllAtMost most xs) (sym c.deref.ensures.value)
    (latest_small chains c.args.self.now.menus.items rows c.in-Some.first.now c.requires.rows.few found.0 found.1) in
    at_most_more (most + 2 ^ 53) (chains.places * 2 ^ 53) c.least_behind.result
    (omega (arith, c.requires.whole, found.0)) (c.least_behind.ensures.bound most all)
