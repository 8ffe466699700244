-- Where nothing is wrong with a table of weights, each number that is found in it is a weight
-- (`number_found`).
use Rattle.std.proofs.Common.{◌≡◌, ℕ, ◌≤◌, ℤ, pos, negsuc, Bool, true, false, List, Option, Some, None, nat_le, codes, refl, sym, subst, ◌≤ℤ◌, arith, to_z, of_z, w64}
use Rattle.std.proofs.lemmas.Bool.Decides.{nat_tests}
use Rattle.std.proofs.lemmas.Int.{ints, to_z-of_z}
use Rattle.std.specs.Option.{option_and_then}
use Rattle.std.specs.Prelude.{if◌then◌else◌}
use Rattle.std.specs.Ordering.{nat_cmp, match_ordering}
use Rattle.std.specs.declared.cmp.Ordering.{Ordering}
use Rattle.std.specs.declared.cmp.Ordering.TheVariants.{Less, Equal, Greater}
use Rattle.std.specs.Cmp.Lexicographic.{slice_cmp}
use Rattle.std.specs.Str.{bytes_eq}
use Rattle.toml.specs.Data.{Data, Members, no_members, member, get_member, as_integer}
use Rattle.penalty_sheet.specs.declared.fault.SheetFault.{SheetFault}
use Rattle.penalty_sheet.specs.declared.fault.SheetFault.TheVariants.{UnknownKey, Weight}
use Rattle.penalty_sheet.specs.Sheets.{entry_fault, fault_or, first_fault, is_toll_key, more_fault, number_fault}

-- a number is a weight
pub record IsWeight (number : Option ℤ) : Type 0 where
  pub weight : ℕ
  pub is : number ≡ Some (pos weight)
  pub small : weight ≤ 10000

weight_tested : (key : List ℕ) (n : ℕ) (b : Bool) → nat_le n 10000 ≡ b
    → (if b then None else Some (Weight key (pos n))) ≡ None → IsWeight (Some (pos n))
weight_tested key n true test none = record { weight = n; is = refl; small = grind (arith, nat_tests) }
weight_tested key n false test none = cc

number_weight : (key : List ℕ) (number : Option ℤ) → number_fault key number ≡ None → IsWeight number
number_weight key None none = cc
number_weight key (Some (pos n)) none = weight_tested key n (nat_le n 10000) refl none
number_weight key (Some (negsuc n)) none = cc

pub key_tested : (key : List ℕ) (value : Data) (b : Bool)
    → (if b then number_fault key (as_integer value) else Some (UnknownKey key)) ≡ None
    → IsWeight (as_integer value)
key_tested key value true none = number_weight key (as_integer value) none
key_tested key value false none = cc

-- nothing is wrong with two things
both_right : (a b : Option SheetFault) → fault_or a b ≡ None → (a ≡ None) × (b ≡ None)
both_right None b none = (refl, none)
both_right (Some fault) b none = cc

-- of a table in which an entry that isn't at fault has a weight
module _ (wrong : List ℕ → Data → Option SheetFault)
    (tested : (key : List ℕ) (value : Data) → wrong key value ≡ None → IsWeight (as_integer value)) where
  -- a number is found here, or among the other entries
  found_here : (key other : List ℕ) (here value : Data) (rest : Members) (o : Ordering) → wrong other here ≡ None
      → (get_member key rest ≡ Some value → IsWeight (as_integer value))
      → match_ordering o (get_member key rest) (Some here) (get_member key rest) ≡ Some value
      → IsWeight (as_integer value)
  found_here key other here value rest Less right others found = others found
  found_here key other here value rest Greater right others found = others found
  found_here key other here value rest Equal right others found =
      let same : here ≡ value = cc in
      subst (λ v. IsWeight (as_integer v)) same (tested other here right)

  weight_found : (key : List ℕ) (entries : Members) (value : Data) → first_fault wrong entries ≡ None
      → get_member key entries ≡ Some value → IsWeight (as_integer value)
  weight_found key no_members value right found = cc
  weight_found key (member other here rest) value right found =
      let (first, others) = both_right (wrong other here) (first_fault wrong rest) right in
      found_here key other here value rest (slice_cmp nat_cmp key other) first (weight_found key rest value others) found

  pub number_found : (key : List ℕ) (entries : Members) (number : ℤ) → first_fault wrong entries ≡ None
      → Some number ≡ option_and_then as_integer (get_member key entries) → IsWeight (Some number)
  number_found key entries number right found = at (get_member key entries) refl found
    where
      at : (value : Option Data) → get_member key entries ≡ value
          → Some number ≡ option_and_then as_integer value → IsWeight (Some number)
      at None is found = cc
      at (Some value) is found = subst IsWeight (sym found) (weight_found key entries value right is)

-- such tables are that of weights and that of further ones
pub weight_tested_by : (key : List ℕ) (value : Data) → entry_fault key value ≡ None → IsWeight (as_integer value)
weight_tested_by key value = key_tested key value (is_toll_key key)

pub more_tested_by : (key : List ℕ) (value : Data) → more_fault key value ≡ None → IsWeight (as_integer value)
more_tested_by key value = key_tested key value (bytes_eq key (codes "Q21"))

-- a weight is within the limits, also as it is kept in 64 bits
pub weight_fits : (number : ℤ) → IsWeight (Some number)
    → (pos 0 ≤ℤ to_z w64 (of_z w64 number)) × (to_z w64 (of_z w64 number) ≤ℤ pos 10000)
weight_fits number w =
    let is : pos w.weight ≡ number = cc in
    let small = w.small in
    let P : ℤ → Type 0 = λ z. (pos 0 ≤ℤ to_z w64 (of_z w64 z)) × (to_z w64 (of_z w64 z) ≤ℤ pos 10000) in
    subst P is (at w.weight small)
  where
    at : (n : ℕ) → n ≤ 10000 → (pos 0 ≤ℤ to_z w64 (of_z w64 (pos n))) × (to_z w64 (of_z w64 (pos n)) ≤ℤ pos 10000)
    at n h = (search (arith, ints, to_z-of_z), search (arith, ints, to_z-of_z))
