-- The end of a `given` line: what is answered where its bar is filled, and where it isn't.
use Rattle.std.proofs.Common.{◌≡◌, ◌≢◌, ℕ, List, length, Ok, Err, refl}
use Rattle.std.proofs.lemmas.Bool.{eq-eqb, ne_eqb}
use Rattle.fux_grid.specs.declared.given.Given.{Given}
use Rattle.fux_text.specs.declared.fault.TextKind.TheVariants.{Length}
use Rattle.fux_text.specs.GivenLines.{end_given}

pub end-filled : (v bar : ℕ) (cells : List Given) → length cells ≡ 8
    → end_given v bar cells ≡ Ok (record { voice = v; bar = bar; cells = cells })
unfolding end_given
end-filled v bar cells eight = rw (eq-eqb (length cells) 8 eight) refl

pub end-short : (v bar : ℕ) (cells : List Given) → length cells ≢ 8 → end_given v bar cells ≡ Err Length
unfolding end_given
end-short v bar cells other = rw (ne_eqb (length cells) 8 other) refl
