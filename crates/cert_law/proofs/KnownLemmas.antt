-- What is known of a prefix, its tail among it (`tail_moved`): each prefix of which the same is
-- known is open too (`open_same`), and goes on by the column of a number (`step_goes_on`).
use Rattle.std.proofs.Common.{◌≡◌, ℕ, ◌*◌, ◌<◌, ◌≤◌, true, List, [], ◌∷◌, ◌++◌, Option, Some, None, length, map, reverse, slice_index_or, ap, sym, ◌∙◌, subst, arith}
use Rattle.std.specs.Prelude.{nat_lt}
use Rattle.std.proofs.lemmas.Bool.{and_from, and_parts, lt-ltb, ltb-true}
use Rattle.std.proofs.lemmas.List.Elements.{Contains-get_or}
use Rattle.cert_law.specs.Bases.{Basis, HasTails, tail_by}
use Rattle.cert_law.specs.Cases.{IsCase, Matter}
use Rattle.cert_law.specs.Known.{IsFoundBehind, IsKnown, IsNextNumber, IsStepOf, KeepsKnown, Tailed, column_after, is_step_of, tree_in, ways_of}
use Rattle.cert_law.specs.Prefixes.{IsSmall}
use Rattle.cert_law.specs.Tails.{tail_of}
use Rattle.cert_law.specs.VoicesTold.{AreVoicesTold}
use Rattle.cert_law.specs.declared.known.PrefixKnown.{PrefixKnown}
use Rattle.cert_law.specs.declared.voices_told.VoicesTold.{VoicesTold}
use Rattle.cert_law.proofs.BreakLemmas.{shapes_unbroken, unbroken_shapes}
use Rattle.cert_law.proofs.Prefixes.{prefix-push}
use Rattle.cert_text.specs.declared.claim.Claim.{Claim}
use Rattle.cert_text.specs.declared.claim.Claim.TheVariants.{Open, Broken, NoChain, Floor, TheScore}
use Rattle.cert_tree.specs.Walks.{IsNextFrom, IsOfOpen, IsOfSome}
use Rattle.chain_sums.specs.Sums.{column_follows}
use Rattle.chain_sums.proofs.SumLemmas.{column_follows_is}
use Rattle.fux_grid.specs.declared.cell.Cell.{Cell}
use Rattle.fux_grid.specs.declared.exercise.Exercise.{Exercise}
use Rattle.fux_grid.specs.Columns.{newest_column}
use Rattle.fux_grid.specs.Exercises.{columns_in}
use Rattle.fux_grid.specs.Menus.{IsInMenu, menu_of}
use Rattle.fux_grid.specs.Orderly.{IsOrderly}
use Rattle.fux_grid.proofs.MenuLemmas.{menu_of-contains, menu_of-full}
use Rattle.cert_law.specs.Certificates.{is_open}
use Rattle.cert_law.specs.Claims.{IsTrueOf}
use Rattle.penalty_sheet.specs.declared.sheet.Sheet.{Sheet}
use Rattle.rule_law.specs.Prefixes.{GoesOn}

-- a prefix that isn't complete, and is orderly
pub record GoesFurther (t : Matter) (p : List (List Cell)) : Type 0 where
  pub shorter : length p < columns_in t.exercise
  pub orderly : IsOrderly t.exercise p

open_parts : (t : Tailed) (p : List (List Cell)) (claim : Claim) → is_open claim ≡ true
    → IsTrueOf t.case.exercise t.case.sheet t.case.head t.stated p claim → GoesFurther t.case p
open_parts t p Open e holds = record { shorter = holds.0; orderly = holds.1 }
open_parts t p (Broken rule) e holds = cc
open_parts t p NoChain e holds = cc
open_parts t p Floor e holds = cc
open_parts t p TheScore e holds = cc

pub open_same : (t : Tailed) (known : PrefixKnown) → IsCase t.case → IsOfOpen (tree_in t) (IsKnown t) known
    → (p : List (List Cell)) → IsKnown t known p → GoesFurther t.case p
open_same t known case open_node p is =
    let q = open_node.node in
    let own = open_node.is_open.is_of.judged in
    let parts = open_parts t q open_node.is_open.claim open_node.is_open.says open_node.is_open.holds in
    let few_voices : t.case.exercise.voices ≤ 4 = case.valid.most_voices in
    record {
      shorter = omega (arith, parts.shorter, own.state.newest.count, is.judged.state.newest.count);
      orderly = unbroken_shapes t.case.exercise few_voices p (sym (is.judged.broken 3) ∙ own.broken 3
          ∙ shapes_unbroken t.case.exercise few_voices q parts.orderly);
    }

pub known_small : (t : Tailed) (known : PrefixKnown) → IsCase t.case → IsOfSome (IsKnown t) known → IsSmall known.judged
known_small t known case some =
    let judged = some.is_of.judged in
    record {
      paid = omega (arith, judged.small, judged.state.newest.count, judged.prefix.few, case.valid.most_bars);
      least = omega (arith, judged.low);
    }

-- a number that is found is that of a step, and the first one
pub next_moved : (ex : Exercise) (p : List (List Cell)) (from : ℕ) (found : Option ℕ)
    → length (menu_of ex (length p)) ≤ 8192
    → IsNextNumber (menu_of ex (length p)) (newest_column (reverse p)) from found
    → IsNextFrom (ways_of ex) p from found
next_moved ex p from None narrow next = ap (map (λ col. p ++ col ∷ [])) next
next_moved ex p from (Some k) narrow next = record {
  within = omega (arith, next.0, narrow);
  step = and_from (nat_lt k (length (menu_of ex (length p)))) _ (lt-ltb k (length (menu_of ex (length p))) next.0) next.1;
  rest = ap (map (λ col. p ++ col ∷ [])) next.2;
}

-- what a step is of, and what its number is behind each prefix of which the same is known
module _ (t : Tailed) (basis : Basis) (known : PrefixKnown) (k : ℕ) (case : IsCase t.case) (has : HasTails t.case basis)
    (step : IsStepOf t k known) where
  open_node : IsOfOpen (tree_in t) (IsKnown t) known
  open_node = record { node = step.node; is_open = step.is_open }

  pub step_place : known.judged.state.newest.len < columns_in basis.exercise
  step_place = omega (
    arith,
    (open_same t known case open_node step.node step.is_open.is_of).shorter,
    step.is_open.is_of.judged.state.newest.count,
    ap (λ (ex : Exercise). ex.bars) has.exercise,
  )

  pub step_room : known.judged.state.newest.len < columns_in t.case.exercise
  step_room = subst (λ (ex : Exercise). known.judged.state.newest.len < columns_in ex) has.exercise step_place

  pub step_within : k < length (menu_of basis.exercise known.judged.state.newest.len)
  step_within =
      let ex = t.case.exercise in
      let q = step.node in
      subst (λ (e : Exercise). k < length (menu_of e known.judged.state.newest.len)) (sym has.exercise)
      (subst (λ n. k < length (menu_of ex n)) (sym step.is_open.is_of.judged.state.newest.count)
      (ltb-true k (length (menu_of ex (length q)))
      (and_parts (nat_lt k (length (menu_of ex (length q))))
      (column_follows (newest_column (reverse q)) (column_after ex q k)) step.step).0))

  pub step_small : known.judged.paid ≤ known.judged.state.newest.len * 134217728
  step_small = step.is_open.is_of.judged.small

  pub step_goes_on : (p : List (List Cell)) → IsKnown t known p → is_step_of t.case.exercise p k ≡ true
      → GoesOn t.case.exercise p (column_after t.case.exercise p k ∷ [])
  step_goes_on p is at =
      let ex = t.case.exercise in
      let further = open_same t known case open_node p is in
      let parts = and_parts (nat_lt k (length (menu_of ex (length p))))
      (column_follows (newest_column (reverse p)) (column_after ex p k)) at in
      let chosen : IsInMenu ex (length p) (column_after ex p k) =
      (menu_of-contains ex (length p) (column_after ex p k)).0
      (Contains-get_or (menu_of ex (length p)) k [] (ltb-true k (length (menu_of ex (length p))) parts.0))
      in
      record {
        orderly = further.orderly;
        longer =
            prefix-push ex p (column_after ex p k) is.judged.prefix further.shorter chosen
            ((column_follows_is (newest_column (reverse p)) (column_after ex p k)).0 parts.1);
      }

  -- the column of the number in the tails' menu is that behind the prefix
  pub step_column : (p : List (List Cell)) → IsKnown t known p
      → slice_index_or (menu_of basis.exercise known.judged.state.newest.len) k [] ≡ column_after t.case.exercise p k
  step_column p is =
      ap (λ (ex : Exercise). slice_index_or (menu_of ex known.judged.state.newest.len) k []) has.exercise
      ∙ ap (λ j. slice_index_or (menu_of t.case.exercise j) k []) is.judged.state.newest.count

  pub step_full : length (slice_index_or (menu_of basis.exercise known.judged.state.newest.len) k [])
      ≡ t.case.exercise.voices
  step_full =
      menu_of-full basis.exercise known.judged.state.newest.len k [] step_within
      ∙ ap (λ (ex : Exercise). ex.voices) has.exercise

-- what is known stays so, whatever was told of voices
pub voices_kept : (t : Tailed) (known : PrefixKnown) (voices : VoicesTold)
    → AreVoicesTold t.case.exercise known.judged.state voices → KeepsKnown t known (record known { voices = voices })
voices_kept t known voices told = λ p is. record { judged = is.judged; tail = is.tail; voices = told }

-- a step stays one, where what was known is kept
pub step_kept : (t : Tailed) (old new : PrefixKnown) (k : ℕ) → KeepsKnown t old new → IsStepOf t k old → IsStepOf t k new
step_kept t old new k kept step = record {
  node = step.node;
  is_open = record {
    is_of = kept step.node step.is_open.is_of;
    claim = step.is_open.claim;
    says = step.is_open.says;
    holds = step.is_open.holds;
  };
  step = step.step;
}

-- so is what was found behind it
pub found_kept : (t : Tailed) (old new : PrefixKnown) (k : ℕ) (found : Option PrefixKnown) → KeepsKnown t old new
    → IsFoundBehind t new k found → IsFoundBehind t old k found
found_kept t old new k None kept h = tt
found_kept t old new k (Some next) kept h = λ p is at. h p (kept p is) at

-- a tail of a prefix, by the exercise and the sheet of a case
pub tail_moved : (t : Matter) (basis : Basis) (p : List (List Cell)) (tail : Option ℕ) → HasTails t basis
    → tail ≡ tail_by basis p → tail ≡ tail_of t.exercise t.sheet basis.stated p
tail_moved t basis p tail has is =
    is ∙ ap (λ (ex : Exercise). tail_of ex basis.sheet basis.stated p) has.exercise
    ∙ ap (λ (sheet : Sheet). tail_of t.exercise sheet basis.stated p) has.sheet
