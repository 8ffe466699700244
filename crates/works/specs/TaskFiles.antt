-- The files of a command: the names that its words give, and how much of each is read.
use Rattle.std.specs.Prelude.{ℕ, List, [], ◌∷◌, Option, Some, None, Result, Ok, Err}
use Rattle.clap.specs.Words.{Text}
use Rattle.class_marker.specs.Lists.{listed_names}
use Rattle.command_words.specs.Commands.{Task, on_exercise, on_mixed, certify, check, fromsmf, join_smf, drill, mark_answer, class_report, class_files, whole_class, whole_files, find_canon, find_cantus, certify_cantus, check_cantus, explain}

-- the name that a line about a refused file tells, where it tells one
abbrev pub name_in : Task → Text
name_in (on_exercise name sheet job) = name
name_in (on_mixed name sheet named job) = name
name_in (certify name sheet budget form) = name
name_in (check name certificate sheet) = name
name_in (explain name subject) = name
name_in (fromsmf name head) = name
name_in (join_smf lesson name manner) = name
name_in (drill number by_sharper) = []
name_in (mark_answer name lesson) = name
name_in (class_report list) = list
name_in (class_files names) = []
name_in (whole_class list lesson kind) = list
name_in (whole_files names lesson kind) = []
name_in (find_canon name sheet search) = name
name_in (find_cantus wanted sheet search) = []
name_in (certify_cantus wanted sheet budget) = []
name_in (check_cantus wanted certificate sheet) = []

-- what there is, as a list
abbrev pub as_list : {X : Type 0} → Option X → List X
as_list None = []
as_list (Some x) = x ∷ []

-- the names of the files that a command reads before its work, in the order of reading
abbrev pub names_in : Task → List Text
names_in (on_exercise name sheet job) = name ∷ as_list sheet
names_in (on_mixed name sheet named job) = name ∷ as_list sheet
names_in (certify name sheet budget form) = name ∷ as_list sheet
names_in (check name certificate sheet) = name ∷ as_list sheet
names_in (explain name subject) = name ∷ []
names_in (fromsmf name head) = name ∷ []
names_in (join_smf lesson name manner) = lesson ∷ name ∷ []
names_in (drill number by_sharper) = []
names_in (mark_answer name lesson) = name ∷ lesson ∷ []
names_in (class_report list) = list ∷ []
names_in (class_files names) = names
names_in (whole_class list lesson kind) = list ∷ as_list lesson
names_in (whole_files names lesson kind) = as_list lesson
names_in (find_canon name sheet search) = name ∷ as_list sheet
names_in (find_cantus wanted sheet search) = as_list sheet
names_in (certify_cantus wanted sheet budget) = as_list sheet
names_in (check_cantus wanted certificate sheet) = as_list sheet

-- the names that a list has, where no line is at fault
abbrev pub names_listed : Result (List Text) ℕ → List Text
names_listed (Ok names) = names
names_listed (Err line) = []

-- the names of the files that a command reads while it works, in the order of reading, where the
-- files before its work have these bytes
abbrev pub names_within : Task → List Text → List Text
names_within (check name certificate sheet) bytes = certificate ∷ []
names_within (check_cantus wanted certificate sheet) bytes = certificate ∷ []
names_within (class_report list) (text ∷ []) = names_listed (listed_names text)
names_within _ _ = []

-- how many bytes of each file before its work are read at most
abbrev pub limit_in : Task → ℕ
limit_in (on_exercise name sheet job) = 65536
limit_in (on_mixed name sheet named job) = 65536
limit_in (certify name sheet budget form) = 65536
limit_in (check name certificate sheet) = 65536
limit_in (explain name subject) = 65536
limit_in (fromsmf name head) = 1048576
limit_in (join_smf lesson name manner) = 1048576
limit_in (drill number by_sharper) = 65536
limit_in (mark_answer name lesson) = 65536
limit_in (class_report list) = 65536
limit_in (class_files names) = 65536
limit_in (whole_class list lesson kind) = 65536
limit_in (whole_files names lesson kind) = 65536
limit_in (find_canon name sheet search) = 65536
limit_in (find_cantus wanted sheet search) = 65536
limit_in (certify_cantus wanted sheet budget) = 65536
limit_in (check_cantus wanted certificate sheet) = 65536
