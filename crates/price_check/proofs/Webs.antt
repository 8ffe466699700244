-- What is kept has a number of its own (`same_keeps`), so lists that keep the same have the same web
-- (`web_moved`), and where there is one for each number, each list has its own (`has_web`), and none
-- has too large a one (`none_large`).
use Rattle.std.proofs.Common.{◌≡◌, ⊎_elim, ℕ, ◌+◌, ◌*◌, ◌<◌, Bool, true, false, List, [], ◌∷◌, ◌++◌, Option, Some, None, arith, get_or, length, slice_get, slice_index_or, refl, ap, ap₂, subst, sym, ◌∙◌}
use Rattle.std.specs.Prelude.{Err, Result, map, option_map}
use Rattle.std.proofs.lemmas.Bool.{cases_lt}
use Rattle.std.proofs.lemmas.List.{get_or_append_left, get_or_default, get_or_past, get_or_push}
use Rattle.std.proofs.lemmas.Option.{get_or_from_slice_get, slice_get-map}
use Rattle.floor_tables.specs.Tables.{Task}
use Rattle.fux_grid.specs.Exercises.{columns_in}
use Rattle.open_ends.specs.declared.keeps.Keeps.{Keeps}
use Rattle.open_ends.specs.declared.keeps.Pairs.{Pairs}
use Rattle.price_check.specs.declared.priced_list.PricedList.{PricedList}
use Rattle.price_check.specs.Woven.{AreOf, AreWebs, FitsFor, HasLargeWeb, HasWeb, IsLargeList, IsLargeWeb, IsWebFor, IsWebOf, keeps_number, list_priced, pairs_number, web_under, with_bit}
use Rattle.price_check.specs.PriceLists.{PriceList}
use Rattle.priced_floors.specs.declared.kept.Kept.{Kept}
use Rattle.priced_floors.specs.Kept.{kept_of, step_of}
use Rattle.priced_floors.specs.PricedLaws.{breadth_of}
use Rattle.priced_paths.specs.declared.web.Web.{Web}
use Rattle.priced_paths.specs.Webs.{IsWeb}

bit_same : (a b : Bool) (m n : ℕ) → with_bit a m ≡ with_bit b n → (a ≡ b) × (m ≡ n)
bit_same true true m n e = (refl, omega (arith, e))
bit_same true false m n e = absurd (omega (arith, e))
bit_same false true m n e = absurd (omega (arith, e))
bit_same false false m n e = (refl, omega (arith, e))

-- the numbers of pairs from the second, the third and so on
abbrev from_v02 : Pairs → ℕ
from_v02 pairs = with_bit pairs.v02 (with_bit pairs.v03 (with_bit pairs.v12 (with_bit pairs.v13 (with_bit pairs.v23 0))))

abbrev from_v03 : Pairs → ℕ
from_v03 pairs = with_bit pairs.v03 (with_bit pairs.v12 (with_bit pairs.v13 (with_bit pairs.v23 0)))

abbrev from_v12 : Pairs → ℕ
from_v12 pairs = with_bit pairs.v12 (with_bit pairs.v13 (with_bit pairs.v23 0))

abbrev from_v13 : Pairs → ℕ
from_v13 pairs = with_bit pairs.v13 (with_bit pairs.v23 0)

abbrev from_v23 : Pairs → ℕ
from_v23 pairs = with_bit pairs.v23 0

abbrev six : Bool → Bool → Bool → Bool → Bool → Bool → Pairs
six a b c d e f = record { v01 = a; v02 = b; v03 = c; v12 = d; v13 = e; v23 = f }

pairs_same : (a b : Pairs) → pairs_number a ≡ pairs_number b → a ≡ b
pairs_same a b e =
    let first = bit_same a.v01 b.v01 (from_v02 a) (from_v02 b) e in
    let second = bit_same a.v02 b.v02 (from_v03 a) (from_v03 b) first.1 in
    let third = bit_same a.v03 b.v03 (from_v12 a) (from_v12 b) second.1 in
    let fourth = bit_same a.v12 b.v12 (from_v13 a) (from_v13 b) third.1 in
    let fifth = bit_same a.v13 b.v13 (from_v23 a) (from_v23 b) fourth.1 in
    let sixth = bit_same a.v23 b.v23 0 0 fifth.1 in
    ap (λ v. six v a.v02 a.v03 a.v12 a.v13 a.v23) first.0
    ∙ ap (λ v. six b.v01 v a.v03 a.v12 a.v13 a.v23) second.0
    ∙ ap (λ v. six b.v01 b.v02 v a.v12 a.v13 a.v23) third.0
    ∙ ap (λ v. six b.v01 b.v02 b.v03 v a.v13 a.v23) fourth.0
    ∙ ap (λ v. six b.v01 b.v02 b.v03 b.v12 v a.v23) fifth.0
    ∙ ap (λ v. six b.v01 b.v02 b.v03 b.v12 b.v13 v) sixth.0

pub same_keeps : (a b : Keeps) → keeps_number a ≡ keeps_number b → a ≡ b
same_keeps a b e =
    let first = bit_same a.turns b.turns (with_bit a.parallels (pairs_number a.runs))
    (with_bit b.parallels (pairs_number b.runs)) e in
    let second = bit_same a.parallels b.parallels (pairs_number a.runs) (pairs_number b.runs) first.1 in
    let of : Bool → Bool → Pairs → Keeps =
    λ turns parallels runs. record { turns = turns; parallels = parallels; runs = runs } in
    ap₂ (λ turns parallels. of turns parallels a.runs) first.0 second.0
    ∙ ap (of b.turns b.parallels) (pairs_same a.runs b.runs second.1)

abbrev IsWebIn : Task → Keeps → Web Kept → Type 0
IsWebIn task keeps web =
    IsWeb (kept_of task.exercise keeps []) (columns_in task.exercise) (breadth_of task.exercise)
    (step_of task.exercise task.sheet keeps) web

-- a list's web is that of each list of the same settings that keeps the same
pub web_moved : (one other : PricedList) (web : Web Kept) → one.space.space.now ≡ other.space.space.now
    → keeps_number one.space.keeps ≡ keeps_number other.space.keeps → IsWebOf one.space web → IsWebOf other.space web
web_moved one other web task number is =
    subst (λ (k : Keeps). IsWebIn other.space.space.now k web) (same_keeps one.space.keeps other.space.keeps number)
    (subst (λ (t : Task). IsWebIn t one.space.keeps web) task is)

-- it is one of 256
bit_few : (bit : Bool) (number most : ℕ) → number < most → with_bit bit number < 2 * most
bit_few true number most h = omega (arith, h)
bit_few false number most h = omega (arith, h)

pairs_few : (pairs : Pairs) → pairs_number pairs < 64
pairs_few pairs =
    bit_few pairs.v01 (from_v02 pairs) 32 (bit_few pairs.v02 (from_v03 pairs) 16
    (bit_few pairs.v03 (from_v12 pairs) 8 (bit_few pairs.v12 (from_v13 pairs) 4
    (bit_few pairs.v13 (from_v23 pairs) 2 (bit_few pairs.v23 0 1 (omega arith))))))

keeps_few : (keeps : Keeps) → keeps_number keeps < 256
keeps_few keeps =
    bit_few keeps.turns (with_bit keeps.parallels (pairs_number keeps.runs)) 128
    (bit_few keeps.parallels (pairs_number keeps.runs) 64 (pairs_few keeps.runs))

abbrev IsLargeIn : Task → Keeps → Type 0
IsLargeIn task keeps = IsLargeWeb task.exercise task.sheet keeps

-- so what a list keeps makes too large a web where it does so for such a list
pub large_moved : (one other : PricedList) → one.space.space.now ≡ other.space.space.now
    → keeps_number one.space.keeps ≡ keeps_number other.space.keeps → IsLargeList one → IsLargeList other
large_moved one other task number is =
    subst (λ (k : Keeps). IsLargeIn other.space.space.now k) (same_keeps one.space.keeps other.space.keeps number)
    (subst (λ (t : Task). IsLargeIn t one.space.keeps) task is)

-- a fault is the same in another answer
pub same_fault : {X Y E : Type 0} (e f : E) → ◌≡◌ {A = Result X E} (Err e) (Err f) → ◌≡◌ {A = Result Y E} (Err e) (Err f)
same_fault {X} {Y} {E} e f h = ap (λ (x : E). Err x) (same h)
  where
    same : ◌≡◌ {A = Result X E} (Err e) (Err f) → e ≡ f
    same h = cc

-- one of some lists of the settings of an exercise
pub large_list : (task : Task) (lists : List PricedList) (k : ℕ) (it : PricedList) → AreOf task lists
    → slice_get lists k ≡ Some it → IsLargeList it → HasLargeWeb task.exercise task.sheet (map list_priced lists)
large_list task lists k it of there large = record {
  place = k;
  list = list_priced it;
  there = slice_get-map list_priced lists k ∙ ap (option_map list_priced) there;
  large = subst (λ (t : Task). IsLargeIn t it.space.keeps) (of k it there) large;
}

-- none is where none is under any number
pub none_large : (task : Task) (lists : List PricedList) → AreOf task lists → ((n : ℕ) → n < 256 → FitsFor lists n)
    → HasLargeWeb task.exercise task.sheet (map list_priced lists) → ⊥
none_large task lists of fits h =
    at (slice_get lists h.place) refl (sym (slice_get-map list_priced lists h.place) ∙ h.there)
  where
    at : (o : Option PricedList) → slice_get lists h.place ≡ o → option_map list_priced o ≡ Some h.list → ⊥
    at None is e = cc
    at (Some it) is e =
        let same : list_priced it ≡ h.list = some_list (list_priced it) h.list e in
        fits (keeps_number it.space.keeps) (keeps_few it.space.keeps) h.place it is refl
        (subst (λ (t : Task). IsLargeIn t it.space.keeps) (sym (of h.place it is))
        (subst (λ (l : PriceList). IsLargeIn task l.keeps) (sym same) h.large))
      where
        some_list : (x y : PriceList) → Some x ≡ Some y → x ≡ y
        some_list x y e = cc

-- the list that is read at a place is the one there
pub read_there : (lists : List PricedList) (k : ℕ) (own it : PricedList) → own ≡ get_or lists k own
    → slice_get lists k ≡ Some it → own ≡ it
read_there lists k own it is there = is ∙ get_or_from_slice_get lists k it own there

-- where the webs under all numbers are made, each list has its own
pub has_web : (lists : List PricedList) (webs : List (Option (Web Kept)))
    → ((n : ℕ) → n < 256 → IsWebFor lists n (slice_index_or webs n None)) → AreWebs lists webs
has_web lists webs all j it there =
    at (web_under webs it.space.keeps) refl (all n (keeps_few it.space.keeps))
  where
    n : ℕ
    n = keeps_number it.space.keeps

    at : (o : Option (Web Kept)) → web_under webs it.space.keeps ≡ o → IsWebFor lists n o → HasWeb webs it
    at None is for = absurd (for j it there refl)
    at (Some web) is for = record { web = web; is = is; woven = for j it there refl }

-- with a web more under the next number
pub webs_more : (lists : List PricedList) (webs : List (Option (Web Kept))) (n : ℕ) (own : Option (Web Kept))
    → length webs ≡ n → ((m : ℕ) → m < n → IsWebFor lists m (slice_index_or webs m None)) → IsWebFor lists n own
    → (m : ℕ) → m < n + 1 → IsWebFor lists m (slice_index_or (webs ++ own ∷ []) m None)
webs_more lists webs n own long before here m within = ⊎_elim
    (λ earlier. subst (IsWebFor lists m) (sym (get_or_append_left webs (own ∷ []) None m (omega (arith, long, earlier))))
    (before m earlier))
    (λ after.
    let same : m ≡ n = omega (arith, within, after) in
    subst (λ (k : ℕ). IsWebFor lists k (slice_index_or (webs ++ own ∷ []) k None)) (sym same)
    (subst (IsWebFor lists n) (sym (get_or_push webs own None n long)) here))
    (cases_lt m n)

-- the web under a list's number is its own
pub some-same : {X : Type 0} (x y : X) → Some x ≡ Some y → x ≡ y
some-same x y e = cc

pub web_is : (webs : List (Option (Web Kept))) (it : PricedList) (web : Web Kept) → HasWeb webs it
    → web_under webs it.space.keeps ≡ Some web → IsWebOf it.space web
web_is webs it web has is =
    subst (IsWebOf it.space) (some-same has.web web (sym has.is ∙ is)) has.woven

pub within_some : (webs : List (Option (Web Kept))) (n : ℕ) (web : Web Kept) → slice_index_or webs n None ≡ Some web
    → n < length webs
within_some webs n web is = ⊎_elim (λ within. within)
    (λ past. let none : None ≡ Some web = sym (get_or_past webs n None past) ∙ is in cc)
    (cases_lt n (length webs))

pub found_there : (webs : List (Option (Web Kept))) (n r : ℕ) (own : Option (Web Kept)) (web : Web Kept) → n ≡ r
    → slice_index_or webs n None ≡ Some web → own ≡ get_or webs r own → own ≡ Some web
found_there webs n r own web same is there =
    let within : r < length webs = omega (arith, same, within_some webs n web is) in
    there ∙ get_or_default webs r own None within ∙ ap (λ k. slice_index_or webs k None) (sym same) ∙ is

pub same_web : (webs : List (Option (Web Kept))) (keeps : Keeps) (one other : Web Kept) → web_under webs keeps ≡ Some one
    → web_under webs keeps ≡ Some other → one ≡ other
same_web webs keeps one other is also = some-same one other (sym is ∙ also)
