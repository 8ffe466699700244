-- What is paid with a note and for a line, by what a node keeps of pitches (`note_by`, `line_by`); the
-- pitches of a cantus as they are read (`front-more`), and what its charges come to (`bill_sum`).
use Rattle.std.proofs.Common.{◌≡◌, ℕ, ◌+◌, ◌<◌, ◌≤◌, ◌==◌, not, Bool, false, List, [], ◌∷◌, ◌++◌, filter_map, get_or, length, map, reverse, take, refl, ap, sym, ◌∙◌, append_assoc, arith}
use Rattle.std.specs.Int.{from_bool}
use Rattle.std.proofs.lemmas.Bool.Decides.{nat_tests}
use Rattle.std.proofs.lemmas.List.{length-reverse, length-take-le, reverse-append, take_all, take_more}
use Rattle.fux_pitch.specs.declared.pitch.Pitch.{Pitch}
use Rattle.fux_grid.specs.declared.cell.Cell.TheVariants.{Start}
use Rattle.rule_law.specs.Terms.{started_pitch}
use Rattle.melody_rules.specs.GaugeParts.{IsCompassOf}
use Rattle.melody_rules.specs.Gauges.{beyond_fourth, climax_repeats, has_notes, is_narrow, leaps_in}
use Rattle.melody_rules.specs.Held.{pitches_are}
use Rattle.melody_rules.specs.Keys.{greatest_key, least_key}
use Rattle.melody_rules.specs.Rows.{before_last, last_of, pitches}
use Rattle.penalty_sheet.specs.declared.sheet.Sheet.{Sheet}
use Rattle.cantus_space.specs.declared.prices.CantusPrices.{CantusPrices}
use Rattle.cantus_space.specs.declared.node.CantusNode.{CantusNode}
use Rattle.cantus_space.specs.declared.plan.CantusPlan.{CantusPlan}
use Rattle.cantus_space.specs.Ahead.{floor_ends}
use Rattle.cantus_space.specs.Nodes.{HasPitches, started}
use Rattle.cantus_space.specs.Rules.{floor_of, leap_excess}
use Rattle.cantus_space.specs.declared.charge.CantusCharge.{CantusCharge}
use Rattle.cantus_space.specs.Charges.{cantus_charges, charges_of_line, end_charges, gauge_charges, move_charges, note_charges, open_charge, price_charges, sum_of}
use Rattle.cantus_space.proofs.ChargeLemmas.{charges_are_penalty}

-- ---- lists to which more is appended

pub joined_two : (old first second all : List CantusCharge) → all ≡ old ++ first → all ++ second ≡ old ++ (first ++ second)
joined_two old first second all is = ap (λ items. items ++ second) is ∙ append_assoc old first second

pub joined_three : (old first second third some more : List CantusCharge) → some ≡ old ++ first → more ≡ some ++ second
    → more ++ third ≡ old ++ (first ++ second ++ third)
joined_three old first second third some more is next =
    joined_two old (first ++ second) third more (next ∙ joined_two old first second some is)

-- ---- what a node keeps

pub pitches-started : (ps : List Pitch) → pitches (started ps) ≡ ps
pitches-started ps = pitches_are (started ps) ∙ again ps
  where
    again : (qs : List Pitch) → filter_map started_pitch (map Start qs) ≡ qs
    again [] = refl
    again (q ∷ qs) = ap (λ rest. q ∷ rest) (again qs)

module _ (sheet : Sheet) (prices : CantusPrices) (behind : List Pitch) (node : CantusNode) (kept : HasPitches behind node)
  where
    pub note_by : (p : Pitch) (next : CantusNode) → HasPitches (p ∷ behind) next
        → move_charges sheet next.len node.notes.last p ++ open_charge sheet next.len (pitches (started behind)) p
        ++ price_charges prices next.len next.moves node.notes.before node.notes.last p
        ≡ note_charges sheet prices behind p
    note_by p next more =
        let bar = length behind + 1 in
        let count : next.len ≡ length behind + 1 = omega (arith, more.count) in
        ap (λ n. move_charges sheet n node.notes.last p ++ open_charge sheet n (pitches (started behind)) p
        ++ price_charges prices n next.moves node.notes.before node.notes.last p) count
        ∙ ap (λ ps. move_charges sheet bar node.notes.last p ++ open_charge sheet bar ps p
        ++ price_charges prices bar next.moves node.notes.before node.notes.last p) (pitches-started behind)
        ∙ ap (λ last. move_charges sheet bar last p ++ open_charge sheet bar behind p
        ++ price_charges prices bar next.moves node.notes.before last p)
        (kept.notes.last ∙ ap last_of (pitches-started behind))
        ∙ ap (λ before. move_charges sheet bar (last_of behind) p ++ open_charge sheet bar behind p
        ++ price_charges prices bar next.moves before (last_of behind) p)
        (kept.notes.before ∙ ap before_last (pitches-started behind))
        ∙ ap (λ moves. move_charges sheet bar (last_of behind) p ++ open_charge sheet bar behind p
        ++ price_charges prices bar moves (before_last behind) (last_of behind) p) more.moves

    pub compass_of : (any : Bool) → any ≡ not (node.len == 0)
        → IsCompassOf behind (record { any = any; greatest = node.notes.greatest; least = node.notes.least })
    compass_of any e = record {
      any = e ∙ ap (λ n. not (n == 0)) kept.count ∙ some behind;
      greatest = kept.notes.greatest ∙ ap greatest_key (pitches-started behind);
      least = kept.notes.least ∙ ap least_key (pitches-started behind);
    }
      where
        some : (ps : List Pitch) → not (length ps == 0) ≡ has_notes ps
        some [] = refl
        some (p ∷ ps) = let none : (length (p ∷ ps) == 0) ≡ false = grind (arith, nat_tests) in ap not none

    pub line_by : (climax compass leaps strikes : ℕ) → climax ≡ climax_repeats behind
        → compass ≡ from_bool (is_narrow behind) → leaps ≡ leap_excess behind → strikes ≡ beyond_fourth behind
        → gauge_charges sheet climax compass leaps strikes ++ end_charges prices node.len node.leaps.leaps node.top
        ≡ charges_of_line sheet prices behind
    line_by climax compass leaps strikes is_climax is_compass is_leaps is_strikes =
        let ends = end_charges prices node.len node.leaps.leaps node.top in
        let gauges = gauge_charges sheet (climax_repeats behind) (from_bool (is_narrow behind)) (leap_excess behind)
        (beyond_fourth behind) in
        ap (λ n. gauge_charges sheet n compass leaps strikes ++ ends) is_climax
        ∙ ap (λ n. gauge_charges sheet (climax_repeats behind) n leaps strikes ++ ends) is_compass
        ∙ ap (λ n. gauge_charges sheet (climax_repeats behind) (from_bool (is_narrow behind)) n strikes ++ ends) is_leaps
        ∙ ap (λ n. gauge_charges sheet (climax_repeats behind) (from_bool (is_narrow behind)) (leap_excess behind) n
        ++ ends) is_strikes
        ∙ ap (λ n. gauges ++ end_charges prices n node.leaps.leaps node.top) kept.count
        ∙ ap (λ n. gauges ++ end_charges prices (length behind) n node.top) kept.leaps.leaps
        ∙ ap (λ n. gauges ++ end_charges prices (length behind) (leaps_in behind) n) kept.top

-- ---- pitches as they are read

-- so many pitches from the front, from the newest to the oldest
pub front-count : (ps : List Pitch) (i : ℕ) → i ≤ length ps → length (reverse (take i ps)) ≡ i
front-count ps i h = length-reverse (take i ps) ∙ length-take-le i ps h

pub front-whole : (ps : List Pitch) (i : ℕ) → length ps ≤ i → reverse (take i ps) ≡ reverse ps
front-whole ps i h = ap reverse (take_all i ps h)

pub front-more : (ps : List Pitch) (i : ℕ) (p : Pitch) → i < length ps → p ≡ get_or ps i p
    → reverse (take (i + 1) ps) ≡ p ∷ reverse (take i ps)
front-more ps i p within is =
    ap reverse (take_more ps i p within ∙ ap (λ q. take i ps ++ q ∷ []) (sym is)) ∙ reverse-append (take i ps) (p ∷ [])

-- the floor of a whole cantus is what its charges come to
pub bill_sum : (space own : CantusPlan) (cantus : List Pitch) (floor : ℕ) → space ≡ own → length cantus ≡ own.bars
    → floor ≡ floor_of space (reverse cantus) → floor ≡ sum_of (cantus_charges own.sheet own.prices cantus)
bill_sum space own cantus floor same whole is =
    is ∙ ap (λ (plan : CantusPlan). floor_of plan (reverse cantus)) same
    ∙ floor_ends own (reverse cantus) (omega (arith, whole, length-reverse cantus))
    ∙ sym (charges_are_penalty own cantus whole)
