-- The prices of a cantus alone.
use Rattle.std.specs.Prelude.{ℕ, ◌-◌, [], ◌∷◌, slice_index}
use Rattle.cantus_space.specs.declared.prices.CantusPrices.{CantusPrices}

-- the prices are numbered from 1 to this number
abbrev pub greatest_price : ℕ
greatest_price = 6

-- the price of a row
abbrev pub price_of : CantusPrices → ℕ → ℕ
price_of prices row = slice_index prices.weights (row - 1)

-- where none is given nothing is paid
abbrev pub no_prices : CantusPrices
no_prices = record { weights = 0 ∷ 0 ∷ 0 ∷ 0 ∷ 0 ∷ 0 ∷ [] }
