-- What is kept of pitches tells which may come next, and what they cost at least.
use Rattle.std.specs.Prelude.{◌≡◌, ℕ, suc, ◌+◌, ◌-◌, ◌<◌, ◌≤◌, ◌==◌, pos, int_le, int_lt, Bool, true, false, not, cond, ◌&&◌, ◌||◌, nat_le, nat_lt, [], ◌∷◌, ◌++◌, List, count_by, length, map, reverse, slice_set, take, if◌then◌else◌, refl}
use Rattle.std.specs.Int.{from_bool}
use Rattle.std.specs.List.{filter_map, list_any}
use Rattle.std.proofs.Common.{arith, sym, ap, ◌∙◌}
use Rattle.std.proofs.lemmas.Bool.Decides.{nat_tests}
use Rattle.std.proofs.lemmas.List.{reverse-append, take_more_set}
use Rattle.std.proofs.lemmas.List.Sums.{sum_by-append, sum_by-cons}
use Rattle.fux_pitch.specs.declared.pitch.Pitch.{Pitch}
use Rattle.fux_pitch.specs.Pitch.{key_of, same_pitch}
use Rattle.fux_grid.specs.declared.cell.Cell.TheVariants.{Start}
use Rattle.rule_law.specs.Law.{test_from_below}
use Rattle.rule_law.specs.Terms.{same_way, started_pitch}
use Rattle.melody_rules.specs.GaugeParts.{IsCompassOf}
use Rattle.melody_rules.specs.Gauges.{has_notes, is_narrow, leaps_in}
use Rattle.melody_rules.specs.Held.{pitches_are}
use Rattle.melody_rules.specs.Keys.{greatest_key, least_key}
use Rattle.melody_rules.specs.Rows.{before_last, last_of, on_moves, pitches}
use Rattle.cantus_space.specs.declared.prices.CantusPrices.{CantusPrices}
use Rattle.cantus_space.specs.declared.node.CantusNode.{CantusNode}
use Rattle.cantus_space.specs.declared.plan.CantusPlan.{CantusPlan}
use Rattle.cantus_space.specs.Ahead.{high_sounds, reaches_is}
use Rattle.cantus_space.specs.Cantus.{is_in_pool}
use Rattle.cantus_space.specs.Melody.{climax_bar, ends_by, least_ends, moves_one_way}
use Rattle.cantus_space.specs.Nodes.{HasPitches, started}
use Rattle.cantus_space.specs.Rules.{breaks_some_rule, is_last_climax, least_climax, least_compass, may_come, starts_ahead}

-- the pitches that start in their cells are they
pub pitches-started : (ps : List Pitch) → pitches (started ps) ≡ ps
pitches-started ps = pitches_are (started ps) ∙ again ps
  where
    again : (qs : List Pitch) → filter_map started_pitch (map Start qs) ≡ qs
    again [] = refl
    again (q ∷ qs) = ap (λ rest. q ∷ rest) (again qs)

module _ (plan : CantusPlan) (behind : List Pitch) (node : CantusNode) (kept : HasPitches behind node) where
  pub comes_by : (p : Pitch) (pool broken : Bool) → node.len < plan.bars → pool ≡ is_in_pool plan (node.len + 1) p
      → broken ≡ breaks_some_rule (pitches (started behind)) p → (pool && not broken) ≡ may_come plan behind p
  comes_by p pool broken room own rules =
      let room_there : nat_lt (length behind) plan.bars ≡ true = test_from_below (length behind) plan.bars
      (omega (arith, kept.count, room)) in
      let pool_there : is_in_pool plan (length behind + 1) p ≡ pool =
      ap (λ n. is_in_pool plan (n + 1) p) (sym kept.count) ∙ sym own
      in
      let rules_there : breaks_some_rule behind p ≡ broken =
      ap (λ ps. breaks_some_rule ps p) (sym (pitches-started behind)) ∙ sym rules
      in
      rw (room_there, pool_there, rules_there) refl

  pub last_by : (high ahead : ℕ) → pos high ≡ key_of plan.high → ahead ≡ starts_ahead plan (length behind)
      → (ahead == 0) ≡ false → nat_le high node.climax.greatest ≡ is_last_climax plan behind
  last_by high ahead own there some =
      sym (ap (λ b. b || list_any (λ p. int_le (key_of plan.high) (key_of p)) behind) (ap (λ n. n == 0) (sym there) ∙ some)
      ∙ reaches_is behind (key_of plan.high) (high_sounds plan.high)
      ∙ ap (λ h. int_le h (greatest_key behind)) (sym own)
      ∙ ap (λ g. int_le (pos high) g) (sym kept.climax.greatest))

  pub compass_of : (any : Bool) → any ≡ not (node.len == 0)
      → IsCompassOf behind (record { any = any; greatest = node.notes.greatest; least = node.notes.least })
  compass_of any e = record {
    any = e ∙ ap (λ n. not (n == 0)) kept.count ∙ some behind;
    greatest = kept.notes.greatest ∙ ap greatest_key (pitches-started behind);
    least = kept.notes.least ∙ ap least_key (pitches-started behind);
  }
    where
      some : (ps : List Pitch) → not (length ps == 0) ≡ has_notes ps
      some [] = refl
      some (p ∷ ps) = let none : (length (p ∷ ps) == 0) ≡ false = grind (arith, nat_tests) in ap not none

  pub compass_by : (ahead : ℕ) (narrow : Bool) → ahead ≡ starts_ahead plan (length behind) → ahead ≡ 0
      → narrow ≡ is_narrow behind → from_bool narrow ≡ least_compass plan behind
  compass_by ahead narrow there none own =
      let nothing : starts_ahead plan (length behind) ≡ 0 = sym there ∙ none in
      sym (ap (λ n. if n == 0 then from_bool (is_narrow behind) else 0) nothing ∙ ap from_bool (sym own))

  pub climax_by : (last : Bool) → last ≡ is_last_climax plan behind
      → (if last then node.climax.count - 1 else 0) ≡ least_climax plan behind
  climax_by last own =
      ap (λ b. if b then node.climax.count - 1 else 0) own
      ∙ ap (λ n. if is_last_climax plan behind then n - 1 else 0) kept.climax.count

-- no more moves go one way than there are pitches
pub one_way-few : (ps : List Pitch) → moves_one_way ps ≤ length ps
one_way-few [] = omega arith
one_way-few (p ∷ ps) =
    at (on_moves same_way (before_last ps) (last_of ps) (Start p)) (moves_one_way ps) (length ps) (one_way-few ps)
  where
    at : (b : Bool) (n m : ℕ) → n ≤ m → (if b then suc n else 1) ≤ suc m
    at true n m h = omega (arith, h)
    at false n m h = omega arith

module _ (behind : List Pitch) (node : CantusNode) (kept : HasPitches behind node) where
  pub newest : node.notes.last ≡ last_of behind
  newest = kept.notes.last ∙ ap last_of (pitches-started behind)

  pub one_before : node.notes.before ≡ before_last behind
  one_before = kept.notes.before ∙ ap before_last (pitches-started behind)

  same_move : (p : Pitch) → on_moves same_way node.notes.before node.notes.last (Start p)
      ≡ on_moves same_way (before_last behind) (last_of behind) (Start p)
  same_move p =
      ap (λ o. on_moves same_way o node.notes.last (Start p)) one_before
      ∙ ap (λ o. on_moves same_way (before_last behind) o (Start p)) newest

  -- the moves on end one way, with one more pitch
  pub moves_by : (p : Pitch) (on : Bool) → on ≡ on_moves same_way node.notes.before node.notes.last (Start p)
      → (if on then suc node.moves else 1) ≡ moves_one_way (p ∷ behind)
  moves_by p on e =
      ap (λ b. if b then suc node.moves else 1) (e ∙ same_move p)
      ∙ ap (λ n. if on_moves same_way (before_last behind) (last_of behind) (Start p) then suc n else 1) kept.moves

  pub few_moves : node.moves ≤ node.len
  few_moves = omega (arith, kept.moves, one_way-few behind, kept.count)

  -- the bar of the climax, with one more pitch
  pub top_by : (p : Pitch) (key : ℕ) → pos key ≡ key_of p
      → (if nat_lt node.climax.greatest key then node.len + 1 else node.top) ≡ climax_bar (p ∷ behind)
  top_by p key own =
      ap (λ g. if int_lt g (pos key) then node.len + 1 else node.top) kept.climax.greatest
      ∙ ap (λ k. if int_lt (greatest_key behind) k then node.len + 1 else node.top) own
      ∙ ap (λ n. if int_lt (greatest_key behind) (key_of p) then n + 1 else node.top) kept.count
      ∙ ap (λ n. if int_lt (greatest_key behind) (key_of p) then length behind + 1 else n) kept.top

  -- what is paid at the end
  pub ends_by_node : (prices : CantusPrices) (bars : ℕ)
      → (if nat_le bars node.len then ends_by prices bars node.leaps.leaps node.top else 0)
      ≡ least_ends prices bars behind
  ends_by_node prices bars =
      ap (λ n. if nat_le bars n then ends_by prices bars node.leaps.leaps node.top else 0) kept.count
      ∙ ap (λ n. if nat_le bars (length behind) then ends_by prices bars n node.top else 0) kept.leaps.leaps
      ∙ ap (λ n. if nat_le bars (length behind) then ends_by prices bars (leaps_in behind) n else 0) kept.top

-- counts don't go by order
pub count-reverse : (test : Pitch → Bool) (ps : List Pitch) → count_by test (reverse ps) ≡ count_by test ps
count-reverse test [] = refl
count-reverse test (p ∷ ps) =
    let turned : reverse (p ∷ ps) ≡ reverse ps ++ p ∷ [] = reverse-append (p ∷ []) ps in
    let parts = sum_by-append (λ q. cond (test q) 1 0) (reverse ps) (p ∷ []) in
    let one = sum_by-cons (λ q. cond (test q) 1 0) p [] in
    let more = sum_by-cons (λ q. cond (test q) 1 0) p ps in
    ap (count_by test) turned ∙ omega (arith, parts, one, more, count-reverse test ps)

-- how often a pitch was struck, by what is kept
pub struck_times : (behind : List Pitch) (node : CantusNode) → HasPitches behind node → (p : Pitch)
    → count_by (same_pitch p) (take node.len node.pitches) ≡ count_by (same_pitch p) behind
struck_times behind node kept p =
    sym (count-reverse (same_pitch p) (take node.len node.pitches)) ∙ ap (count_by (same_pitch p)) kept.pitches

-- the pitches of a node and one more
pub pitches-more : (behind : List Pitch) (node : CantusNode) → HasPitches behind node → node.len < length node.pitches
    → (p : Pitch) → reverse (take (node.len + 1) (slice_set node.pitches node.len p)) ≡ p ∷ behind
pitches-more behind node kept room p =
    ap reverse (take_more_set node.pitches node.len p room)
    ∙ reverse-append (take node.len node.pitches) (p ∷ []) ∙ ap (λ ps. p ∷ ps) kept.pitches
