-- How much a command reads: of each of its files at most a byte beyond the limit.
use Rattle.std.specs.Prelude.{ℕ, ◌+◌, ◌*◌, ◌≤◌, ◌⊎◌, List, [], ◌∷◌, length}
use Rattle.class_marker.specs.LooseLists.{loose_names}
use Rattle.command_words.specs.Commands.{Task, whole_class, whole_files}
use Rattle.works.specs.Blame.{limit_within}
use Rattle.works.specs.TaskFiles.{limit_in, names_in, names_listed, names_within}
use Rattle.works.specs.Works.{AllMayHave, Files}

-- how many bytes are read at most of the files before a command's work: of each a byte beyond its
-- limit
abbrev pub most_before : Task → ℕ
most_before task = (limit_in task + 1) * length (names_in task)

-- the names of the files of which a report of a class tells each in its place, also that it can't
-- be read, where the files before the work have these bytes
abbrev pub names_told : Task → List (List ℕ) → List (List ℕ)
names_told (whole_class list lesson kind) (text ∷ lessons) = names_listed (loose_names text)
names_told (whole_files names lesson kind) lessons = names
names_told _ _ = []

-- how many bytes are read at most of all these, and of those within the work: of each a byte beyond
-- its limit
abbrev pub most_within : Task → List (List ℕ) → ℕ
most_within task bytes = (limit_within task + 1) * (length (names_within task bytes) + length (names_told task bytes))

-- no more bytes were given than those, where the files within its work are read too
pub record ReadsWithin (task : Task) (files : Files) (old new : ℕ) : Type 0 where
  pub bytes : List (List ℕ)
  pub had : AllMayHave files (names_in task) bytes
  pub most : new ≤ old + (most_before task + most_within task bytes)

-- no more bytes were given than those of the files before the work, or than those and the files
-- within it
abbrev pub ReadsLittle : Task → Files → ℕ → ℕ → Type 0
ReadsLittle task files old new = (new ≤ old + most_before task) ⊎ ReadsWithin task files old new
