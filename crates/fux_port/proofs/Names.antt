-- A map by texts, as the list of its names and values.
use Rattle.std.proofs.Common.{◌≡◌, ◌≢◌, ℕ, List, [], ◌∷◌, Some, refl, sym, ◌∙◌, ap, cond}
use Rattle.std.specs.Prelude.{String, string_bytes}
use Rattle.std.specs.BTreeMap.{BTreeMap, get_by_text, UpdatesBy, is_at}
use Rattle.std.specs.Cmp.Lexicographic.{slice_cmp}
use Rattle.std.specs.Ordering.{nat_cmp}
use Rattle.std.specs.String.{string_cmp}
use Rattle.std.specs.Map.{lookup}
use Rattle.std.specs.Str.{bytes_eq}
use Rattle.std.proofs.lemmas.Map.Text.{is_eq-slice_cmp, btree_map_updates_text}
use Rattle.std.proofs.lemmas.Bool.{false_from_ne_true}
use Rattle.std.proofs.lemmas.Slice.Eq.{bytes_eq-Decides}
use Rattle.fux_port.specs.MemShelf.{named_files, file_at}

-- a look-up of a name
pub lookup-named_files : {Y : Type 0} (name : List ℕ) (entries : List (String Y × List ℕ))
    → lookup (bytes_eq name) (named_files entries)
    ≡ lookup (λ k. is_at (slice_cmp nat_cmp name) (string_bytes k)) entries
lookup-named_files name [] = refl
lookup-named_files name (e ∷ entries) =
    rw (← is_eq-slice_cmp name (string_bytes e.0), lookup-named_files name entries) refl

pub file_at-named_files : {Y : Type 0} (files : BTreeMap (String Y) (List ℕ)) (name : List ℕ)
    → file_at (named_files files.entries) name ≡ get_by_text files name
file_at-named_files files name = lookup-named_files name files.entries

-- a look-up after a file was put under a name
pub file_at-put : {Y : Type 0} (old new : BTreeMap (String Y) (List ℕ)) (name file : List ℕ)
    → UpdatesBy string_cmp (λ k. slice_cmp nat_cmp name (string_bytes k)) old new (Some file)
    → (other : List ℕ) → file_at (named_files new.entries) other
    ≡ cond (bytes_eq name other) (Some file) (file_at (named_files old.entries) other)
file_at-put old new name file updates other =
    rw (file_at-named_files new other, file_at-named_files old other)
    (btree_map_updates_text name old new (Some file) updates other)

-- what was put is found
pub file_at-put_same : {Y : Type 0} (old new : BTreeMap (String Y) (List ℕ)) (name file : List ℕ)
    → UpdatesBy string_cmp (λ k. slice_cmp nat_cmp name (string_bytes k)) old new (Some file)
    → file_at (named_files new.entries) name ≡ Some file
file_at-put_same old new name file updates =
    file_at-put old new name file updates name
    ∙ ap (λ b. cond b (Some file) (file_at (named_files old.entries) name)) ((bytes_eq-Decides name name).1 refl)

-- what was not put is found as before
pub file_at-put_other : {Y : Type 0} (old new : BTreeMap (String Y) (List ℕ)) (name file : List ℕ)
    → UpdatesBy string_cmp (λ k. slice_cmp nat_cmp name (string_bytes k)) old new (Some file)
    → (other : List ℕ) → other ≢ name → file_at (named_files new.entries) other
    ≡ file_at (named_files old.entries) other
file_at-put_other old new name file updates other apart =
    file_at-put old new name file updates other
    ∙ ap (λ b. cond b (Some file) (file_at (named_files old.entries) other))
    (false_from_ne_true (bytes_eq name other) (λ same. apart (sym ((bytes_eq-Decides name other).0 same))))
