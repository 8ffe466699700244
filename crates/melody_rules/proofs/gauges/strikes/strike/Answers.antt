use Rattle.std.proofs.Common.{◌≡◌, ℕ, ◌+◌, ◌<◌, ◌≤◌, ◌/◌, ◌%◌, ◌==◌, true, false, length, rules, ap, ◌∙◌, arith}
use Rattle.std.specs.Prelude.{count_by, nat_le, slice_index}
use Rattle.std.specs.Int.{from_bool}
use Rattle.std.proofs.lemmas.Bool.Decides.{nat_tests}
use Rattle.fux_pitch.specs.Pitch.{same_pitch}
use Rattle.melody_rules.specs.GaugeParts.{count_at, half, up_to_four}
use Rattle.melody_rules.proofs.StrikeLemmas.{beyond-bound, full_stays, half-fits, struck}
use Rattle.melody_rules.proofs.gauges.strikes.strike.Goals as goal

many : (k : ℕ) → 4 ≤ k → nat_le 4 k ≡ true
many k h = grind (arith, nat_tests)

few : (k : ℕ) → k < 4 → nat_le 4 k ≡ false
few k h = grind (arith, nat_tests)

pub overflow_add-more : goal.overflow_add-more
overflow_add-more c =
    let even = c.place_of-place.result % 2 == 0 in
    let number = slice_index c.args.kept.now.counts (c.place_of-place.result / 2) in
    let less : half even number < 4 = omega (arith, c.count_of-count.ensures, c.if-count-ge4.false) in
    omega (arith, c.unit_of.ensures, half-fits even number (omega arith) less)

pub returns-then-count-ge4 : goal.returns-then-count-ge4
returns-then-count-ge4 c = λ ps short r.
    let counts = c.args.kept.now.counts in
    let p = c.args.pitch in
    let mine : count_at counts c.place_of-place.result ≡ up_to_four (count_by (same_pitch p) ps) =
    ap (count_at counts) c.place_of-place.ensures.value ∙ r.counts p in
    let full : 4 ≤ count_by (same_pitch p) ps = omega (arith, c.count_of-count.ensures, c.if-count-ge4.true, mine) in
    let one : from_bool (nat_le 4 (count_by (same_pitch p) ps)) ≡ 1 = ap from_bool (many (count_by (same_pitch p) ps) full) in
    record {
      counts = λ q. r.counts q ∙ full_stays ps p q full;
      beyond = omega (arith, c.saturating_add-kept.ensures, r.beyond, one, beyond-bound ps, short);
    }

pub returns : goal.returns
returns c = λ ps short r.
    let counts = c.args.kept.now.counts in
    let p = c.args.pitch in
    let place = c.place_of-place.result in
    let size : length counts ≡ 74 = search rules in
    let within : place / 2 < length counts = omega (arith, size, c.place_of-place.ensures.bound) in
    let mine : count_at counts place ≡ up_to_four (count_by (same_pitch p) ps) =
    ap (count_at counts) c.place_of-place.ensures.value ∙ r.counts p in
    let less : count_at counts place < 4 = omega (arith, c.count_of-count.ensures, c.if-count-ge4.false) in
    let none : from_bool (nat_le 4 (count_by (same_pitch p) ps)) ≡ 0 =
    ap from_bool (few (count_by (same_pitch p) ps) (omega (arith, less, mine))) in
    record {
      counts = λ q. struck ps counts p q place _ c.place_of-place.ensures.value within
          (ap (λ n. slice_index counts (place / 2) + n) c.unit_of.ensures) less mine (r.counts q);
      beyond = omega (arith, r.beyond, none);
    }
