-- What contracts see of a shelf in memory.
use Rattle.std.specs.Prelude.{◌≡◌, ◌≢◌, ℕ, Bool, ◌&&◌, ◌-◌, ◌++◌, List, String, Option, Some, None, IfSome, is_some, min, if◌then◌else◌, length, map, take, drop, string_bytes}
use Rattle.std.specs.Map.{lookup}
use Rattle.std.specs.Str.{bytes_eq}
use Rattle.fux_port.specs.Counts.{count_after, next_count, is_next_in}

-- the files by name, the numbers of the reads that fail, the most bytes that a read gives, if there
-- is such a limit, how many reads and faults there were, and how many bytes were given
pub record ShelfState : Type 0 where
  pub files : List (List ℕ × List ℕ)
  pub fail_at : List ℕ
  pub piece : Option ℕ
  pub calls : ℕ
  pub faults : ℕ
  pub given : ℕ

-- files by their names, where the names are texts
abbrev pub named_files : {Y : Type 0} → List (String Y × List ℕ) → List (List ℕ × List ℕ)
named_files files = map (λ file. (string_bytes file.0, file.1)) files

-- the bytes of the file of this name, if there is one
abbrev pub file_at : List (List ℕ × List ℕ) → List ℕ → Option (List ℕ)
file_at files name = lookup (bytes_eq name) files

-- what holds of the file of this name, if there is one
abbrev pub IfFile : ShelfState → List ℕ → (List ℕ → Type 0) → Type 0
IfFile shelf name Holds = IfSome (file_at shelf.files name) Holds

-- a count, or the limit if there is a lesser one
abbrev pub at_most : Option ℕ → ℕ → ℕ
at_most None count = count
at_most (Some most) count = min count most

-- how many bytes of a file from the offset on a read gives, where a buffer has room for so many
abbrev pub given_from : ℕ → List ℕ → Option ℕ → ℕ → ℕ
given_from offset file piece room = at_most piece (min room (length file - offset))

-- a buffer with so many bytes of a file from the offset on at its front
abbrev pub filled_from : ℕ → List ℕ → ℕ → List ℕ → List ℕ
filled_from offset file count buf = take count (drop offset file) ++ drop count buf

-- the name has these bytes, and all else is as it was
pub record PutsFile (old new : ShelfState) (name file : List ℕ) : Type 0 where
  pub named : file_at new.files name ≡ Some file
  pub others : (other : List ℕ) → other ≢ name → file_at new.files other ≡ file_at old.files other
  pub same_fail_at : new.fail_at ≡ old.fail_at
  pub same_piece : new.piece ≡ old.piece
  pub same_calls : new.calls ≡ old.calls
  pub same_faults : new.faults ≡ old.faults
  pub same_given : new.given ≡ old.given

-- the next read fails although its file is there
abbrev pub is_faulty : ShelfState → List ℕ → Bool
is_faulty shelf name = is_some (file_at shelf.files name) && is_next_in shelf.fail_at shelf.calls

-- the shelf after a read that gave so many bytes: the call is counted, a fault is, and they are
abbrev pub after_read : ShelfState → List ℕ → ℕ → ShelfState
after_read shelf name count = record shelf {
  calls = next_count shelf.calls;
  faults = if is_faulty shelf name then next_count shelf.faults else shelf.faults;
  given = count_after shelf.given count;
}
