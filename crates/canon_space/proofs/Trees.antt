-- The tree is that of the canons.
use Rattle.std.specs.Prelude.{◌≡◌, ℕ, zero, suc, ◌<◌, ◌≤◌, Bool, true, false, not, ◌==◌, ◌&&◌, nat_lt, [], ◌∷◌, ◌++◌, List, Option, Some, None, IsSome, length, reverse, refl}
use Rattle.std.proofs.Common.{arith, sym, ap, ◌∙◌, subst, inl, inr}
use Rattle.std.proofs.lemmas.Bool.{and_from}
use Rattle.std.proofs.lemmas.Bool.Decides.{nat_tests}
use Rattle.std.proofs.lemmas.List.{length-map, map-append, reverse-reverse}
use Rattle.fux_grid.specs.declared.cell.Cell.{Cell}
use Rattle.fux_grid.specs.declared.cell.Cell.TheVariants.{Rest, Hold, Start}
use Rattle.fux_grid.specs.Cells.{cell_in}
use Rattle.fux_grid.specs.Order.{IsEarlier}
use Rattle.fux_grid.proofs.OrderLemmas.{earlier-chained, earlier-itself}
use Rattle.fux_pitch.specs.Modes.{is_in_gamut}
use Rattle.rhythm_cadence.specs.Rows.{holds_of_pitch}
use Rattle.rule_law.specs.Law.{below_from_test, first_true, second_true}
use Rattle.rule_law.specs.Terms.{started_pitch}
use Rattle.tree_search.specs.Answer.{IsBefore, IsLeaf}
use Rattle.tree_search.specs.Quests.{IsTreeOf, LeafAt, LivePath}
use Rattle.tree_search.proofs.Quests.{same_path}
use Rattle.penalty_sheet.specs.declared.sheet.Sheet.{Sheet}
use Rattle.canon_space.specs.declared.canon.Canon.{Canon}
use Rattle.canon_space.specs.Canons.{Bars, bar_after, follower, follower_fits, follows_leader, has_note, is_canon_bar, is_in_range, is_rest, may_sound, opens_on_final}
use Rattle.canon_space.specs.Grows.{history-push, live_some, live_value, room_from_coming}
use Rattle.canon_space.specs.Order.{HasBarNumber, HasNumber, bar_has_number, bars_in_order, note_has_number, rest_has_number}
use Rattle.canon_space.specs.Paths.{WIDTH, are_numbers, bars_at, history_at, is_live_path, live_at, numbered_bar}
use Rattle.canon_space.specs.Rules.{IsLawful, IsLive, breaks_some_rule, is_live, may_come, penalty_of}
use Rattle.canon_space.specs.Trees.{canons}
use Rattle.canon_space.proofs.Children.{numbers-push}

-- ---- order

-- a path that comes before another leads to the earlier bars
pub before_is_earlier : (path other : List ℕ) → length path ≡ length other → are_numbers other ≡ true
    → IsBefore path other → IsEarlier (bars_at path) (bars_at other)
before_is_earlier path [] e m h = absurd h
before_is_earlier [] (b ∷ other) e m h = absurd (omega arith)
before_is_earlier (a ∷ path) (b ∷ other) e m (inl h) =
    inl (bars_in_order a b h (below_from_test b WIDTH (first_true (nat_lt b WIDTH) (are_numbers other) m)))
before_is_earlier (a ∷ path) (b ∷ other) e m (inr h) =
    inr (
      ap numbered_bar h.0,
      before_is_earlier path other (omega arith) (second_true (nat_lt b WIDTH) (are_numbers other) m) h.1,
    )

-- different paths lead to different bars
pub one_path : (path other : List ℕ) → are_numbers path ≡ true → are_numbers other ≡ true → bars_at path ≡ bars_at other
    → path ≡ other
one_path path other m n e =
    let size : length path ≡ length other = sym (length-map path numbered_bar) ∙ ap length e
    ∙ length-map other numbered_bar in
    same_path bars_at (λ s t. IsEarlier s t) earlier-itself path other size (before_is_earlier path other size n)
    (before_is_earlier other path (sym size) m) e

-- ---- each bar has a number

module _ (canon : Canon) (behind : Bars) where
  cell_of_note : (v : ℕ) (c : Cell) → holds_of_pitch (may_sound canon v (bar_after behind)) (started_pitch c) ≡ true
      → HasNumber c
  cell_of_note v Rest h = cc
  cell_of_note v (Hold p) h = cc
  cell_of_note v (Start p) h =
      note_has_number canon.mode (bar_after behind) canon.bars p
      (first_true (is_in_gamut canon.mode (bar_after behind) canon.bars p) (is_in_range canon v p) h)

  cell_of_rest : (c : Cell) → is_rest c ≡ true → HasNumber c
  cell_of_rest Rest h = rest_has_number
  cell_of_rest (Hold p) h = cc
  cell_of_rest (Start p) h = cc

  cell_of_follower : (c : Cell) → follower_fits canon behind c ≡ true → HasNumber c
  cell_of_follower c h = at (nat_lt (length behind) canon.delay) refl
    where
      at : (b : Bool) → nat_lt (length behind) canon.delay ≡ b → HasNumber c
      at true e =
          let rests : is_rest c ≡ true = sym (rw e refl) ∙ h in
          cell_of_rest c rests
      at false e =
          let both : (has_note canon behind (follower canon) c && follows_leader canon behind c) ≡ true =
          sym (rw e refl) ∙ h
          in
          cell_of_note (follower canon) c
          (first_true (has_note canon behind (follower canon) c) (follows_leader canon behind c) both)

  bar_of_cells : (now : List Cell) → length now ≡ 2 → HasNumber (cell_in now 0) → HasNumber (cell_in now 1)
      → HasBarNumber now
  bar_of_cells [] h m n = absurd (omega arith)
  bar_of_cells (c ∷ []) h m n = absurd (omega arith)
  bar_of_cells (c ∷ d ∷ []) h m n = bar_has_number c d m n
  bar_of_cells (c ∷ d ∷ e ∷ rest) h m n = absurd (omega arith)

  pub bar_has_its_number : canon.leader < 2 → (now : List Cell) → is_canon_bar canon behind now ≡ true → HasBarNumber now
  bar_has_its_number small now h =
      let room = nat_lt (length behind) canon.bars in
      let two = length now == 2 in
      let leads = has_note canon behind canon.leader (cell_in now canon.leader) in
      let follows = follower_fits canon behind (cell_in now (follower canon)) in
      let three : (room && two && leads) ≡ true = first_true (room && two && leads) follows h in
      let pair : (room && two) ≡ true = first_true (room && two) leads three in
      by_leader canon.leader refl small now (two_cells (length now) (second_true room two pair))
      (cell_of_note canon.leader (cell_in now canon.leader) (second_true (room && two) leads three))
      (cell_of_follower (cell_in now (follower canon)) (second_true (room && two && leads) follows h))
    where
      two_cells : (n : ℕ) → (n == 2) ≡ true → n ≡ 2
      two_cells n h = grind (arith, nat_tests)

      by_leader : (v : ℕ) → canon.leader ≡ v → v < 2 → (now : List Cell) → length now ≡ 2
          → HasNumber (cell_in now canon.leader) → HasNumber (cell_in now (follower canon)) → HasBarNumber now
      by_leader zero e h now size m n =
          let other : follower canon ≡ 1 = omega (arith, e) in
          let P : ℕ → Type 0 = λ v. HasNumber (cell_in now v) in
          bar_of_cells now size (subst P e m) (subst P other n)
      by_leader (suc zero) e h now size m n =
          let other : follower canon ≡ 0 = omega (arith, e) in
          let one : canon.leader ≡ 1 = e in
          let P : ℕ → Type 0 = λ v. HasNumber (cell_in now v) in
          bar_of_cells now size (subst P other n) (subst P one m)
      by_leader (suc (suc v)) e h now size m n = absurd (omega (arith, h))

-- ---- the theorem

-- a path to bars
pub record PathTo (canon : Canon) (behind : Bars) : Type 0 where
  pub path : List ℕ
  pub numbers : are_numbers path ≡ true
  pub there : history_at path ≡ behind

-- live bars are no more than a canon has
pub few_if_live : (canon : Canon) (behind : Bars) → is_live canon behind ≡ true → length behind ≤ canon.bars
few_if_live canon [] h = omega arith
few_if_live canon (now ∷ behind) h =
    omega (arith, room_from_coming canon behind now (second_true (is_live canon behind) (may_come canon behind now) h))

module _ (canon : Canon) (sheet : Sheet) (small : canon.leader < 2) where
  path_to : (behind : Bars) → is_live canon behind ≡ true → PathTo canon behind
  path_to [] h = record { path = []; numbers = refl; there = refl }
  path_to (now ∷ behind) h =
      let before = path_to behind (first_true (is_live canon behind) (may_come canon behind now) h) in
      let comes = second_true (is_live canon behind) (may_come canon behind now) h in
      let bar : is_canon_bar canon behind now ≡ true = first_true (is_canon_bar canon behind now)
      (opens_on_final canon behind now)
      (first_true (is_canon_bar canon behind now && opens_on_final canon behind now)
      (not (breaks_some_rule canon behind now)) comes) in
      let own = bar_has_its_number canon behind small now bar in
      record {
        path = before.path ++ own.number ∷ [];
        numbers = numbers-push canon sheet before.path own.number before.numbers own.small;
        there = history-push before.path own.number ∙ ap (λ x. x ∷ history_at before.path) own.is
            ∙ ap (λ xs. now ∷ xs) before.there;
      }

module _ (canon : Canon) (sheet : Sheet) where
  pub path_is_live : (path : List ℕ) → IsSome (live_at canon sheet path) → is_live_path canon path ≡ true
  path_is_live path h = at (live_at canon sheet path) refl h
    where
      at : (o : Option ℕ) → live_at canon sheet path ≡ o → IsSome o → is_live_path canon path ≡ true
      at None e s = cc
      at (Some value) e s = (live_value canon sheet path value e).0

  pub numbers_of : (path : List ℕ) → IsSome (live_at canon sheet path) → are_numbers path ≡ true
  numbers_of path h = first_true (are_numbers path) (is_live canon (history_at path)) (path_is_live path h)

  pub bars_are_live : (path : List ℕ) → IsSome (live_at canon sheet path) → IsLive canon (bars_at path)
  bars_are_live path h = second_true (are_numbers path) (is_live canon (history_at path)) (path_is_live path h)

  pub is_there : (path : List ℕ) (value : ℕ) → live_at canon sheet path ≡ Some value → IsSome (live_at canon sheet path)
  is_there path value e = subst IsSome (sym e) refl

  pub path_to_bars : canon.leader < 2 → (bars : List (List Cell)) → IsLive canon bars
      → LivePath (live_at canon sheet) bars_at bars
  path_to_bars small bars h =
      let way = path_to canon sheet small (reverse bars) h in
      let there : bars_at way.path ≡ bars =
      sym (reverse-reverse (bars_at way.path)) ∙ ap reverse way.there ∙ reverse-reverse bars
      in
      record {
        path = way.path;
        leads = there;
        is_live = is_there way.path _ (live_some canon sheet way.path
            (and_from (are_numbers way.path) (is_live canon (history_at way.path)) way.numbers
            (ap (is_live canon) way.there ∙ h)));
      }

  pub leaf_is_lawful : (path : List ℕ) (value : ℕ) → IsLeaf (live_at canon sheet) canon.bars path value
      → IsLawful canon (bars_at path) × (penalty_of canon sheet (bars_at path) ≡ value)
  leaf_is_lawful path value leaf = (
    record {
      live = bars_are_live path (is_there path value leaf.1);
      whole = length-map path numbered_bar ∙ leaf.0;
    },
    (live_value canon sheet path value leaf.1).1,
  )

  pub lawful_is_leaf : canon.leader < 2 → (bars : List (List Cell)) → IsLawful canon bars
      → LeafAt (live_at canon sheet) canon.bars bars_at bars (penalty_of canon sheet bars)
  lawful_is_leaf small bars lawful =
      let way = path_to_bars small bars lawful.live in
      record {
        path = way.path;
        leads = way.leads;
        leaf = (
          sym (length-map way.path numbered_bar) ∙ ap length way.leads ∙ lawful.whole,
          live_some canon sheet way.path (path_is_live way.path way.is_live)
              ∙ ap (λ bars. Some (penalty_of canon sheet bars)) way.leads,
        );
      }

  pub tree_of_canons : canon.leader < 2 → IsTreeOf (canons canon sheet) (live_at canon sheet) canon.bars bars_at
  tree_of_canons small = record {
    live_only = bars_are_live;
    each_live = path_to_bars small;
    floors = λ path floor live. ap Some (live_value canon sheet path floor live).1;
    once = λ path other live its_live e. one_path path other (numbers_of path live) (numbers_of other its_live) e;
    order = λ path other live size before. before_is_earlier path other size (numbers_of other live) before;
    lawful_only = leaf_is_lawful;
    each_lawful = lawful_is_leaf small;
    root = refl;
    on = λ path k. record { step = numbered_bar k; is = map-append numbered_bar path (k ∷ []) };
    one_way = λ s t h k. earlier-itself s (earlier-chained s t s h k);
  }
