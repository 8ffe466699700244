use Rattle.std.proofs.Common.{◌≡◌, ◌-◌, drop}
use Rattle.std.specs.List.{list_any}
use Rattle.std.specs.Str.{bytes_eq}
use Rattle.cantus_space.specs.PricedSheets.{is_price_key, price_keys}
use Rattle.cantus_space.proofs.entries.is_price_key.Given as goal

-- the key is among those that are left, if it is a price
abbrev pub invariant-loop-row : goal.invariant-loop-row
invariant-loop-row l = list_any (λ name. bytes_eq name l.key) (drop (l.row - 1) price_keys) ≡ is_price_key l.key
