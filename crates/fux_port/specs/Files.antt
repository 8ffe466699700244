-- What is told of a shelf's files: nothing, or for each name the bytes of its file or that there is
-- none.
use Rattle.std.specs.Prelude.{◌≡◌, ℕ, ◌≤◌, ◌⊎◌, List, Option, Some, None, drop, length}
use Rattle.std.specs.Io.{StartsWith}

-- what is told of one name: nothing, or the bytes of its file or that there is none
abbrev pub file_of : Option (List ℕ → Option (List ℕ)) → List ℕ → Option (Option (List ℕ))
file_of None name = None
file_of (Some file_at) name = Some (file_at name)

-- the files are told, and this name has these bytes
abbrev pub HasFile : Option (List ℕ → Option (List ℕ)) → List ℕ → List ℕ → Type 0
HasFile files name file = file_of files name ≡ Some (Some file)

-- the files are told, and none has this name
abbrev pub IsMissing : Option (List ℕ → Option (List ℕ)) → List ℕ → Type 0
IsMissing files name = file_of files name ≡ Some None

-- the file of a name has these bytes, where the shelf tells its files
abbrev pub MayHave : Option (List ℕ → Option (List ℕ)) → List ℕ → List ℕ → Type 0
MayHave files name bytes = (file_of files name ≡ None) ⊎ HasFile files name bytes

-- the bytes of the name's file begin with these from the offset on, where the shelf tells its files
abbrev pub StandAt : Option (List ℕ → Option (List ℕ)) → List ℕ → ℕ → List ℕ → Type 0
StandAt files name offset bytes = (file : List ℕ) → HasFile files name file → StartsWith (drop offset file) bytes

-- the name's file has no bytes from the offset on, where the shelf tells its files
abbrev pub EndsBy : Option (List ℕ → Option (List ℕ)) → List ℕ → ℕ → Type 0
EndsBy files name offset = (file : List ℕ) → HasFile files name file → length file ≤ offset
