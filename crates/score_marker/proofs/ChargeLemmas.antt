-- What the charges of a setting come to, and which marks they have.
use Rattle.std.proofs.Common.{◌≡◌, ℕ, zero, suc, ◌+◌, ◌*◌, ◌==◌, Bool, true, false, List, [], ◌∷◌, ◌++◌, length, map, refl, ap, sym, ◌∙◌, subst, arith, append-nil}
use Rattle.std.specs.Prelude.{if◌then◌else◌}
use Rattle.std.specs.List.{flat_map, range_with_len, sum_by}
use Rattle.std.proofs.lemmas.Bool.{eqb-true}
use Rattle.std.proofs.lemmas.Grind.{flat_map-append}
use Rattle.std.proofs.lemmas.List.Sums.{sum_by-append, sum_by-cons, sum_by_push}
use Rattle.fux_grid.specs.declared.cell.Cell.{Cell}
use Rattle.fux_grid.specs.declared.exercise.Exercise.{Exercise}
use Rattle.fux_grid.specs.Exercises.{bar_of, slot_of}
use Rattle.rule_law.specs.Forms as forms
use Rattle.rule_law.specs.Growth.{sum_below}
use Rattle.melody_rules.specs.Gauges.{gauges}
use Rattle.penalty_sheet.specs.declared.sheet.Sheet.{Sheet}
use Rattle.penalty_sheet.specs.Prices.{amount_of}
use Rattle.penalty_sheet.specs.Weights.{weight_of}
use Rattle.fux_judge.specs.Gauges.{cells_of_voice, cost_of_line, free_voices, gauges_of}
use Rattle.fux_judge.specs.Penalties.{charges_of, price_at_place, price_read, prices_at, tolls_at}
use Rattle.fux_judge.specs.Rules.{all_sets, cost_at, rules_read, tolls_read}
use Rattle.score_marker.specs.declared.charge.Charge.TheVariants.{Broken, Toll, Line}
use Rattle.score_marker.specs.declared.mark.Mark.{Mark}
use Rattle.score_marker.specs.Charges.{ChargesArePenalty, ChargesHaveMarks, charges_at_place, charges_of_breaks, charges_of_line, charges_of_lines, charges_of_places, charges_of_tolls, cost_of, line_charge, line_where, mark_in, marks_in, toll_charge, toll_where}
use Rattle.score_marker.specs.Lists.{mark_where, marks_of_places, marks_of_rule}
use Rattle.score_marker.specs.MarkLines.{price_of}
use Rattle.score_marker.specs.Marks.{AreMarks}
use Rattle.score_marker.specs.Setting.{breaks_of, marks_at, sets_in_order}
use Rattle.score_marker.proofs.ListLemmas.{range-more}
use Rattle.score_marker.proofs.SettingLemmas.{are_marks}

-- ---- lists that are joined from lists

module _ {X Y : Type 0} (f : X → List Y) where
  -- the sum over a joined list is that of the sums over its parts
  sum-flat_map : (cost : Y → ℕ) (value : X → ℕ) → ((x : X) → sum_by cost (f x) ≡ value x) → (xs : List X)
      → sum_by cost (flat_map f xs) ≡ sum_by value xs
  sum-flat_map cost value each [] = refl
  sum-flat_map cost value each (x ∷ xs) =
      let rest = sum-flat_map cost value each xs in
      sum_by-append cost (f x) (flat_map f xs) ∙ (λ k. each x k + rest k) ∙ sym (sum_by-cons value x xs)

  -- what is joined from a joined list is joined from its parts
  joined-flat_map : {Z : Type 0} (g : Y → List Z) (h : X → List Z) → ((x : X) → flat_map g (f x) ≡ h x) → (xs : List X)
      → flat_map g (flat_map f xs) ≡ flat_map h xs
  joined-flat_map g h each [] = refl
  joined-flat_map g h each (x ∷ xs) =
      let rest = joined-flat_map g h each xs in
      flat_map-append g (f x) (flat_map f xs) ∙ (λ k. each x k ++ rest k)

  -- nothing is joined from parts that have nothing
  joined-nothing : ((x : X) → f x ≡ []) → (xs : List X) → flat_map f xs ≡ []
  joined-nothing each [] = refl
  joined-nothing each (x ∷ xs) = let rest = joined-nothing each xs in (λ k. each x k ++ rest k)

sum-range : (f : ℕ → ℕ) (n : ℕ) → sum_by f (range_with_len 0 n) ≡ sum_below f n
sum-range f zero = refl
sum-range f (suc n) =
    let e : suc n ≡ n + 1 = omega arith in
    ap (λ m. sum_by f (range_with_len 0 m)) e ∙ ap (sum_by f) (range-more n) ∙ sum_by_push f (range_with_len 0 n) n
    ∙ ap (λ m. m + f n) (sum-range f n)

-- ---- the marks of charges

marks-broken : (ms : List Mark) → marks_in (map Broken ms) ≡ ms
marks-broken [] = refl
marks-broken (m ∷ ms) = ap (λ rest. m ∷ rest) (marks-broken ms)

marks-toll : (i toll cost : ℕ) → marks_in (toll_where i toll cost) ≡ []
marks-toll i toll cost = by_test (cost == 0)
  where
    by_test : (b : Bool) → marks_in (if b then [] else
        Toll (record { bar = bar_of i; slot = slot_of i; toll = toll; cost = cost }) ∷ []) ≡ []
    by_test true = refl
    by_test false = refl

marks-line : (v gauge cost : ℕ) → marks_in (line_where v gauge cost) ≡ []
marks-line v gauge cost = by_test (cost == 0)
  where
    by_test : (b : Bool) → marks_in (if b then [] else
        Line (record { voice = v; gauge = gauge; cost = cost }) ∷ []) ≡ []
    by_test true = refl
    by_test false = refl

-- ---- what charges cost

cost-toll : (ex : Exercise) (i toll cost : ℕ) → sum_by (cost_of ex) (toll_where i toll cost) ≡ cost
cost-toll ex i toll cost = by_test (cost == 0) refl
  where
    by_test : (b : Bool) → (cost == 0) ≡ b → sum_by (cost_of ex) (if b then [] else
        Toll (record { bar = bar_of i; slot = slot_of i; toll = toll; cost = cost }) ∷ []) ≡ cost
    by_test true e = sym (eqb-true cost 0 e)
    by_test false e = omega arith

cost-line : (ex : Exercise) (v gauge cost : ℕ) → sum_by (cost_of ex) (line_where v gauge cost) ≡ cost
cost-line ex v gauge cost = by_test (cost == 0) refl
  where
    by_test : (b : Bool) → (cost == 0) ≡ b → sum_by (cost_of ex) (if b then [] else
        Line (record { voice = v; gauge = gauge; cost = cost }) ∷ []) ≡ cost
    by_test true e = sym (eqb-true cost 0 e)
    by_test false e = omega arith

-- the price of a mark
abbrev price_of_mark : Exercise → Mark → ℕ
price_of_mark ex mark = amount_of (price_of ex mark)

cost-broken : (ex : Exercise) (ms : List Mark) → sum_by (cost_of ex) (map Broken ms) ≡ sum_by (price_of_mark ex) ms
cost-broken ex [] = refl
cost-broken ex (m ∷ ms) =
    sum_by-cons (cost_of ex) (Broken m) (map Broken ms) ∙ ap (λ n. price_of_mark ex m + n) (cost-broken ex ms)
    ∙ sym (sum_by-cons (price_of_mark ex) m ms)

cost-mark : (ex : Exercise) (broken : Bool) (i rule voices : ℕ)
    → sum_by (price_of_mark ex) (mark_where broken i rule voices)
    ≡ (if broken then price_at_place rule ex voices i else 0)
unfolding mark_where
cost-mark ex true i rule voices = omega arith
cost-mark ex false i rule voices = refl

-- the sets in order are all sets
same_sets : (f : ℕ → ℕ) → sum_by f sets_in_order ≡ sum_by f all_sets
unfolding sets_in_order forms.all_sets
same_sets f = omega arith

module _ (ex : Exercise) (sheet : Sheet) (s : List (List Cell)) where
  cost-rule : (i rule : ℕ) → sum_by (price_of_mark ex) (marks_of_rule (breaks_of ex s) sets_in_order i rule)
      ≡ sum_by (λ voices. price_read rule ex voices s i) all_sets
  cost-rule i rule =
      sum-flat_map (λ voices. mark_where (breaks_of ex s i rule voices) i rule voices) (price_of_mark ex)
      (λ voices. price_read rule ex voices s i)
      (λ voices. cost-mark ex (breaks_of ex s i rule voices) i rule voices) sets_in_order
      ∙ same_sets (λ voices. price_read rule ex voices s i)

  cost-breaks : (i : ℕ) → sum_by (cost_of ex) (charges_of_breaks ex s i) ≡ prices_at ex s i
  cost-breaks i =
      cost-broken ex (marks_at ex s i)
      ∙ sum-flat_map (marks_of_rule (breaks_of ex s) sets_in_order i) (price_of_mark ex)
      (λ rule. sum_by (λ voices. price_read rule ex voices s i) all_sets) (cost-rule i) rules_read

  cost-toll_there : (i toll : ℕ) → sum_by (cost_of ex) (toll_charge ex sheet s i toll)
      ≡ cost_at toll ex s i * weight_of sheet toll
  unfolding toll_charge
  cost-toll_there i toll = cost-toll ex i toll (cost_at toll ex s i * weight_of sheet toll)

  cost-tolls : (i : ℕ) → sum_by (cost_of ex) (charges_of_tolls ex sheet s i) ≡ tolls_at ex sheet s i
  cost-tolls i =
      sum-flat_map (toll_charge ex sheet s i) (cost_of ex) (λ toll. cost_at toll ex s i * weight_of sheet toll)
      (cost-toll_there i) tolls_read

  cost-place : (i : ℕ) → sum_by (cost_of ex) (charges_at_place ex sheet s i) ≡ tolls_at ex sheet s i + prices_at ex s i
  cost-place i =
      let breaks = cost-breaks i in
      let tolls = cost-tolls i in
      sum_by-append (cost_of ex) (charges_of_breaks ex s i) (charges_of_tolls ex sheet s i)
      ∙ (λ k. breaks k + tolls k) ∙ omega arith

  cost-places : sum_by (cost_of ex) (charges_of_places ex sheet s) ≡ charges_of ex sheet s
  cost-places =
      sum-flat_map (charges_at_place ex sheet s) (cost_of ex) (λ i. tolls_at ex sheet s i + prices_at ex s i) cost-place
      (range_with_len 0 (length s))
      ∙ sum-range (λ i. tolls_at ex sheet s i + prices_at ex s i) (length s)

  cost-gauge : (v gauge value : ℕ) → sum_by (cost_of ex) (line_charge sheet v gauge value) ≡ value * weight_of sheet gauge
  unfolding line_charge
  cost-gauge v gauge value = cost-line ex v gauge (value * weight_of sheet gauge)

  cost-voice : (v : ℕ) → sum_by (cost_of ex) (charges_of_line sheet s v) ≡ cost_of_line sheet (cells_of_voice s v)
  cost-voice v =
      sum-flat_map (λ gauge. line_charge sheet v gauge.number (gauge.value (cells_of_voice s v))) (cost_of ex)
      (λ gauge. gauge.value (cells_of_voice s v) * weight_of sheet gauge.number)
      (λ gauge. cost-gauge v gauge.number (gauge.value (cells_of_voice s v))) gauges

  cost-lines : sum_by (cost_of ex) (charges_of_lines ex sheet s) ≡ gauges_of ex sheet s
  cost-lines =
      sum-flat_map (charges_of_line sheet s) (cost_of ex) (λ v. cost_of_line sheet (cells_of_voice s v)) cost-voice
      (free_voices ex)

  marks-toll_there : (i toll : ℕ) → marks_in (toll_charge ex sheet s i toll) ≡ []
  unfolding toll_charge
  marks-toll_there i toll = marks-toll i toll (cost_at toll ex s i * weight_of sheet toll)

  marks-gauge : (v gauge value : ℕ) → marks_in (line_charge sheet v gauge value) ≡ []
  unfolding line_charge
  marks-gauge v gauge value = marks-line v gauge (value * weight_of sheet gauge)

  marks-tolls : (i : ℕ) → marks_in (charges_of_tolls ex sheet s i) ≡ []
  marks-tolls i =
      joined-flat_map (toll_charge ex sheet s i) mark_in (λ toll. []) (marks-toll_there i) tolls_read
      ∙ joined-nothing (λ toll. []) (λ toll. refl) tolls_read

  marks-voice : (v : ℕ) → marks_in (charges_of_line sheet s v) ≡ []
  marks-voice v =
      joined-flat_map (λ gauge. line_charge sheet v gauge.number (gauge.value (cells_of_voice s v))) mark_in
      (λ gauge. []) (λ gauge. marks-gauge v gauge.number (gauge.value (cells_of_voice s v))) gauges
      ∙ joined-nothing (λ gauge. []) (λ gauge. refl) gauges

  marks-lines : marks_in (charges_of_lines ex sheet s) ≡ []
  marks-lines =
      joined-flat_map (charges_of_line sheet s) mark_in (λ v. []) marks-voice (free_voices ex)
      ∙ joined-nothing (λ v. []) (λ v. refl) (free_voices ex)

  marks-place : (i : ℕ) → marks_in (charges_at_place ex sheet s i) ≡ marks_at ex s i
  marks-place i =
      let breaks = marks-broken (marks_at ex s i) in
      let tolls = marks-tolls i in
      flat_map-append mark_in (charges_of_breaks ex s i) (charges_of_tolls ex sheet s i)
      ∙ (λ k. breaks k ++ tolls k) ∙ append-nil (marks_at ex s i)

  marks-places : marks_in (charges_of_places ex sheet s)
      ≡ marks_of_places (breaks_of ex s) sets_in_order rules_read (range_with_len 0 (length s))
  marks-places =
      joined-flat_map (charges_at_place ex sheet s) mark_in (marks_at ex s) marks-place (range_with_len 0 (length s))

pub charges_are_penalty : ChargesArePenalty
charges_are_penalty ex sheet s =
    let places = cost-places ex sheet s in
    let lines = cost-lines ex sheet s in
    sum_by-append (cost_of ex) (charges_of_places ex sheet s) (charges_of_lines ex sheet s)
    ∙ (λ k. places k + lines k)

pub charges_have_marks : ChargesHaveMarks
charges_have_marks ex sheet s =
    let marks = marks_of_places (breaks_of ex s) sets_in_order rules_read (range_with_len 0 (length s)) in
    let places = marks-places ex sheet s in
    let lines = marks-lines ex sheet s in
    let all = flat_map-append mark_in (charges_of_places ex sheet s) (charges_of_lines ex sheet s)
    ∙ (λ k. places k ++ lines k) ∙ append-nil marks in
    subst (AreMarks ex s) (sym all) (are_marks ex s)
