-- The report of a class in which each name has its place.
use Rattle.std.specs.Prelude.{◌≡◌, ℕ, Bool, true, false, List, [], ◌∷◌, ◌++◌, codes, count_by, length, string_bytes}
use Rattle.std.specs.Fmt.{decimal}
use Rattle.std.specs.List.{flat_map}
use Rattle.class_marker.specs.Unmarked.{unmarked_text}
use Rattle.class_marker.specs.declared.whole_report.WholeReport.{WholeReport}
use Rattle.class_marker.specs.declared.said.Said.{Said}
use Rattle.class_marker.specs.declared.said.Said.TheVariants.{Told, Refused, Unjoined, Unread}
use Rattle.smf_score.specs.JoinFaultTexts.{fault_text}

-- a name with what is said of its file
abbrev pub Saying : Type 0
Saying = List ℕ × Said

-- what is said of the file of a name, below the name: the lines that tell of it, why it is refused
-- or is no setting of the lesson, or that it can't be read
abbrev pub said_text : Saying → List ℕ
said_text (name, Told lines) = name ++ 10 ∷ string_bytes lines.text
said_text (name, Refused why) = name ++ 10 ∷ unmarked_text name why ++ 10 ∷ []
said_text (name, Unjoined fault) = name ++ 10 ∷ codes "midi: " ++ fault_text fault ++ 10 ∷ []
said_text (name, Unread) = name ++ 10 ∷ name ++ codes ": cannot read" ++ 10 ∷ []

-- its setting has a mark
abbrev pub has_mark : Said → Bool
has_mark (Told lines) = lines.has_mark
has_mark (Refused why) = false
has_mark (Unjoined fault) = false
has_mark Unread = false

-- it is refused, is no setting of the lesson, or can't be read
abbrev pub is_refused : Said → Bool
is_refused (Told lines) = false
is_refused (Refused why) = true
is_refused (Unjoined fault) = true
is_refused Unread = true

-- it differs from the lesson
abbrev pub is_other : Said → Bool
is_other (Told lines) = lines.differs
is_other (Refused why) = false
is_other (Unjoined fault) = false
is_other Unread = false

abbrev pub marked_in : List Saying → ℕ
marked_in sayings = count_by (λ saying. has_mark saying.1) sayings

abbrev pub refused_in : List Saying → ℕ
refused_in sayings = count_by (λ saying. is_refused saying.1) sayings

abbrev pub others_in : List Saying → ℕ
others_in sayings = count_by (λ saying. is_other saying.1) sayings

-- the end of the last line: by a lesson, how many differ from it
abbrev pub line_end : Bool → ℕ → List ℕ
line_end false others = 10 ∷ []
line_end true others = codes ", differing " ++ decimal others ++ 10 ∷ []

-- the last line but for its end: how many names there are, how many of their files have a mark, and
-- how many are refused or can't be read
abbrev pub counts_text : ℕ → ℕ → ℕ → List ℕ
counts_text count marked refused =
    codes "class " ++ decimal count ++ codes ", with marks " ++ decimal marked
    ++ codes ", refused " ++ decimal refused

-- the last line
abbrev pub whole_line : Bool → ℕ → ℕ → ℕ → ℕ → List ℕ
whole_line by_lesson count marked refused others =
    counts_text count marked refused ++ line_end by_lesson others

-- the report, by a lesson or not
abbrev pub whole_text : Bool → List Saying → List ℕ
whole_text by_lesson sayings =
    flat_map said_text sayings
    ++ whole_line by_lesson (length sayings) (marked_in sayings) (refused_in sayings)
    (others_in sayings)

-- the report without its last line, and the counts of that
pub record IsReportOf (sayings : List Saying) (report : WholeReport) : Type 0 where
  pub text : string_bytes report.text ≡ flat_map said_text sayings
  pub marked : report.marked ≡ marked_in sayings
  pub refused : report.refused ≡ refused_in sayings
  pub others : report.others ≡ others_in sayings

-- the whole report
pub record IsWholeOf (by_lesson : Bool) (sayings : List Saying) (report : WholeReport) : Type 0
  where
    pub text : string_bytes report.text ≡ whole_text by_lesson sayings
    pub marked : report.marked ≡ marked_in sayings
    pub refused : report.refused ≡ refused_in sayings
    pub others : report.others ≡ others_in sayings
