-- One of the lists that lines state keeps too much for a web just where one of the lists that are
-- made of them does (`large_stated`, `large_made`), and so it is where these are lent (`told_large`,
-- `none_large`).
use Rattle.std.proofs.Common.{◌≡◌, ℕ, zero, suc, List, [], ◌∷◌, Some, map, slice_get, refl, ap, sym, subst, ◌∙◌}
use Rattle.floor_tables.specs.Tables.{Task}
use Rattle.fux_grid.specs.declared.exercise.Exercise.{Exercise}
use Rattle.open_ends.specs.declared.keeps.Keeps.{Keeps}
use Rattle.penalty_sheet.specs.declared.sheet.Sheet.{Sheet}
use Rattle.price_check.specs.Statements.{HasLargeStated, kept_by}
use Rattle.price_check.specs.Woven.{AreOf, HasLargeWeb, IsLargeWeb, list_priced}
use Rattle.price_check.specs.declared.priced_list.PricedList.{PricedList}
use Rattle.price_check.specs.PriceLists.{PriceList}
use Rattle.price_check.specs.declared.stated.OwnList.{OwnList}
use Rattle.price_check.specs.Owned.{list_owned}
use Rattle.price_check.specs.Stated.{AreEachStated, AreStated, StatedList, lists_of}
use Rattle.price_check.specs.PriceLines.{Line}

stated-one : (x y : StatedList) → Some x ≡ Some y → x ≡ y
stated-one x y e = cc

list-one : (x y : PriceList) → Some x ≡ Some y → x ≡ y
list-one x y e = cc

module _ (ex : Exercise) (sheet : Sheet) where
  -- the list that stands where another one is stated, or is made, keeps the same
  record Beside (all : List StatedList) (place : ℕ) (keeps : Keeps) : Type 0 where
    pub stated : StatedList
    pub there : slice_get all place ≡ Some stated
    pub same : keeps ≡ kept_by stated

  record Made (lists : List PriceList) (place : ℕ) (keeps : Keeps) : Type 0 where
    pub list : PriceList
    pub there : slice_get lists place ≡ Some list
    pub same : list.keeps ≡ keeps

  stated_beside : (all : List StatedList) (lists : List PriceList) (place : ℕ) (list : PriceList)
      → AreEachStated sheet all lists → slice_get lists place ≡ Some list → Beside all place list.keeps
  stated_beside [] [] place list are there = cc
  stated_beside [] (own ∷ lists) place list are there = absurd are
  stated_beside (stated ∷ all) [] place list are there = absurd are
  stated_beside (stated ∷ all) (own ∷ lists) zero list are there = record {
    stated = stated;
    there = refl;
    same = subst (λ (l : PriceList). l.keeps ≡ kept_by stated) (list-one own list there) are.0.keeps;
  }
  stated_beside (stated ∷ all) (own ∷ lists) (suc place) list are there =
      let own = stated_beside all lists place list are.1 there in
      record { stated = own.stated; there = own.there; same = own.same }

  made_beside : (all : List StatedList) (lists : List PriceList) (place : ℕ) (stated : StatedList)
      → AreEachStated sheet all lists → slice_get all place ≡ Some stated → Made lists place (kept_by stated)
  made_beside [] [] place stated are there = cc
  made_beside [] (own ∷ lists) place stated are there = absurd are
  made_beside (one ∷ all) [] place stated are there = absurd are
  made_beside (one ∷ all) (own ∷ lists) zero stated are there = record {
    list = own;
    there = refl;
    same = subst (λ (s : StatedList). own.keeps ≡ kept_by s) (stated-one one stated there) are.0.keeps;
  }
  made_beside (one ∷ all) (own ∷ lists) (suc place) stated are there =
      let its = made_beside all lists place stated are.1 there in
      record { list = its.list; there = its.there; same = its.same }

  pub large_stated : (lines : List Line) (lists : List PriceList) → AreStated sheet lines lists
      → HasLargeWeb ex sheet lists → HasLargeStated ex sheet lines
  large_stated lines lists are large =
      let own = stated_beside (lists_of lines) lists large.place large.list are large.there in
      record {
        place = large.place;
        stated = own.stated;
        there = own.there;
        large = subst (IsLargeWeb ex sheet) own.same large.large;
      }

  pub large_made : (lines : List Line) (lists : List PriceList) → AreStated sheet lines lists
      → HasLargeStated ex sheet lines → HasLargeWeb ex sheet lists
  large_made lines lists are large =
      let own = made_beside (lists_of lines) lists large.place large.stated are large.there in
      record {
        place = large.place;
        list = own.list;
        there = own.there;
        large = subst (IsLargeWeb ex sheet) (sym own.same) large.large;
      }

-- the lists that are made of lines, with their settings, and where they are lent
module _ (task : Task) (lines : List Line) (own : List OwnList) (priced lent : List PricedList) (same : lent ≡ priced)
    (stated : AreStated task.sheet lines (map list_owned own)) (made : map list_priced priced ≡ map list_owned own)
    (all : AreOf task priced) where
  lent_all : AreOf task lent
  lent_all = subst (λ (ls : List PricedList). AreOf task ls) (sym same) all

  lent_lists : map list_priced lent ≡ map list_owned own
  lent_lists = ap (map list_priced) same ∙ made

  pub told_large : ((t : Task) → AreOf t lent → HasLargeWeb t.exercise t.sheet (map list_priced lent))
      → HasLargeStated task.exercise task.sheet lines
  told_large large =
      large_stated task.exercise task.sheet lines (map list_owned own) stated
      (subst (λ (ls : List PriceList). HasLargeWeb task.exercise task.sheet ls) lent_lists (large task lent_all))

  pub none_large : ((t : Task) → AreOf t lent → HasLargeWeb t.exercise t.sheet (map list_priced lent) → ⊥)
      → HasLargeStated task.exercise task.sheet lines → ⊥
  none_large fits large =
      fits task lent_all
      (subst (λ (ls : List PriceList). HasLargeWeb task.exercise task.sheet ls) (sym lent_lists)
      (large_made task.exercise task.sheet lines (map list_owned own) stated large))
