use Rattle.std.specs.Prelude.{◌≡◌, false, ◌&&◌, Option, Some, None, refl}
use Rattle.std.proofs.Common.{ap, sym, ◌∙◌}
use Rattle.fux_pitch.specs.declared.interval.Interval.{Interval}
use Rattle.fux_pitch.specs.Size.{is_perfect_size, reduced}
use Rattle.fux_grid.specs.Cells.{cell_in, pitch_of}
use Rattle.rule_law.specs.Terms.{differs, equal_perfects, interval_in, same_size}
use Rattle.motion_rules.proofs.afterbeats.arrive_in_parallel.Goals as goal

-- an interval that isn't perfect is equal to no perfect one
not_perfect : (i : Interval) (o : Option Interval) → is_perfect_size i ≡ false → equal_perfects (Some i) o ≡ false
not_perfect i None h = refl
not_perfect i (Some j) h = ap (λ b. b && same_size (reduced i) (reduced j)) h

pub returns-in_default : goal.returns-in_default
returns-in_default c =
    let before = c.args.before.now in
    let now = c.args.now.now in
    let v = c.args.v in
    let w = c.args.w in
    let none : interval_in before v w ≡ None = sym c.interval_in.ensures.value ∙ c.in_default.is in
    sym (ap (λ o. equal_perfects o (interval_in now v w) && differs (pitch_of (cell_in before v)) (pitch_of (cell_in now v))
    && differs (pitch_of (cell_in before w)) (pitch_of (cell_in now w))) none)

pub returns-then-not-is_perfect : goal.returns-then-not-is_perfect
returns-then-not-is_perfect c =
    let before = c.args.before.now in
    let now = c.args.now.now in
    let v = c.args.v in
    let w = c.args.w in
    let found : interval_in before v w ≡ Some c.in-Some.from = sym c.in-Some.ensures.value in
    let other : is_perfect_size c.in-Some.from ≡ false = sym c.is_perfect.ensures ∙ c.if-not-is_perfect.true in
    sym (ap (λ o. equal_perfects o (interval_in now v w) && differs (pitch_of (cell_in before v)) (pitch_of (cell_in now v))
    && differs (pitch_of (cell_in before w)) (pitch_of (cell_in now w))) found
    ∙ ap (λ b. b && differs (pitch_of (cell_in before v)) (pitch_of (cell_in now v))
    && differs (pitch_of (cell_in before w)) (pitch_of (cell_in now w)))
    (not_perfect c.in-Some.from (interval_in now v w) other))
