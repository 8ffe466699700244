-- The lines of whole lists have keys below 127, and at most 15 (`lists_have_keys`).
use Rattle.std.proofs.Common.{ℕ, ◌-◌, ◌<◌, ◌≤◌, List, [], ◌∷◌, arith, length}
use Rattle.std.specs.List.{AllByRecursion}
use Rattle.fux_grid.specs.declared.exercise.Exercise.{Exercise}
use Rattle.price_check.specs.Laws.{ListsHaveKeys}
use Rattle.price_check.specs.Owned.{AreKeys}
use Rattle.price_check.specs.declared.line.Before.{Before}
use Rattle.price_check.specs.Lists.{AreLinesOf}
use Rattle.price_check.specs.PriceLines.{AreFalling, Cases, Claims, Fits, Keeps, Line, Price, after, nothing_before}

falling-low : (high most top : ℕ) (keys : List ℕ) → AreFalling high most keys → high ≤ top
    → AllByRecursion (λ key. key < top) keys
falling-low high most top [] falling low = tt
falling-low high most top (key ∷ keys) falling low =
    (omega (arith, falling.0, low), falling-low key (most - 1) top keys falling.2 (omega (arith, falling.0, low)))

falling-few : (high most : ℕ) (keys : List ℕ) → AreFalling high most keys → length keys ≤ most
falling-few high most [] falling = omega arith
falling-few high most (key ∷ keys) falling =
    omega (arith, falling.1, falling-few key (most - 1) keys falling.2)

line-keys : (ex : Exercise) (before : Before) (line : Line) → Fits ex before line → AreKeys line
line-keys ex before (Keeps turns runs) fits = tt
line-keys ex before (Cases voice keys) fits =
    (falling-low 127 15 127 keys fits.2 (omega arith), falling-few 127 15 keys fits.2)
line-keys ex before (Price case voice pitch number) fits = tt
line-keys ex before Claims fits = tt

all-keys : (ex : Exercise) (before : Before) (lines : List Line) → AreLinesOf ex before lines → AllByRecursion AreKeys lines
all-keys ex before [] are = tt
all-keys ex before (line ∷ lines) are = (line-keys ex before line are.0, all-keys ex (after before line) lines are.2)

pub lists_have_keys : ListsHaveKeys
lists_have_keys ex lines are = all-keys ex nothing_before lines are
