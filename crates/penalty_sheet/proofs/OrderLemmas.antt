-- A table keeps its entries in the order of their keys' bytes.
use Rattle.std.proofs.Common.{◌≡◌, true, List, [], ◌∷◌, refl}
use Rattle.std.specs.List.Sorted.{IsStrictlySortedBy}
use Rattle.std.specs.String.{string_cmp}
use Rattle.std.specs.Map.{keys_of}
use Rattle.toml.specs.View.{members_view}
use Rattle.toml.proofs.Views.{Entry, is_before-sorted}
use Rattle.penalty_sheet.specs.Sheets.{keys_ascend}

pub keys_ascend-sorted : (entries : List Entry) → IsStrictlySortedBy string_cmp (keys_of entries)
    → keys_ascend (members_view entries) ≡ true
unfolding IsStrictlySortedBy
keys_ascend-sorted [] sorted = refl
keys_ascend-sorted (entry ∷ entries) sorted = rw
    (is_before-sorted entry.0 entries sorted.0, keys_ascend-sorted entries sorted.1) refl
