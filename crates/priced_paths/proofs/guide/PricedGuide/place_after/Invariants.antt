use Rattle.std.specs.Prelude.{◌≡◌, ℕ, ◌+◌, ◌<◌, length}
use Rattle.priced_paths.specs.Places.{IsCheap, standing_in, standing_by}
use Rattle.priced_paths.proofs.guide.PricedGuide.place_after.Given as goal

abbrev pub invariant-loop-case : goal.invariant-loop-case
invariant-loop-case g l = record {
  at : l.next.at ≡ l.to;
  long : length l.next.standings ≡ 16;
  standings : (k : ℕ) → k < l.case → standing_in l.next k
      ≡ standing_by (g.P.Pricing.toll_at l.self.pricing.now k l.depth l.label)
      (g.P.Pricing.reaches_at l.self.pricing.now k l.depth l.label) (standing_in l.place k);
  cheap : (k : ℕ) → k < l.case → IsCheap (l.depth + 1) (standing_in l.next k);
}
