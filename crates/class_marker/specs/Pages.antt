-- The page of a class.
use Rattle.std.specs.Prelude.{◌≡◌, ℕ, ◌+◌, ◌==◌, ◌&&◌, Bool, false, List, [], ◌∷◌, ◌++◌, Option, Some, None, codes, length, string_bytes, if◌then◌else◌}
use Rattle.std.specs.Fmt.{decimal}
use Rattle.std.specs.List.{list_all}
use Rattle.score_picture.specs.declared.symbols.TheConstants.{SYMBOLS}
use Rattle.class_marker.specs.declared.entry.Entry.{Entry}
use Rattle.class_marker.specs.declared.entry.Entry.TheVariants.{Setting, Faulty, Bare, Unread}
use Rattle.class_marker.specs.declared.entry.Shown.{Shown}
use Rattle.class_marker.specs.declared.page.ClassPage.{ClassPage}
use Rattle.class_marker.specs.declared.page.TheConstants.{HEAD}
use Rattle.class_marker.specs.Escapes.{escaped}

-- a name with what the page has of its file
abbrev pub Named : Type 0
Named = List ℕ × Entry

-- what is made of each of some names, which are counted from a number on
abbrev pub numbered : (ℕ → Named → List ℕ) → ℕ → List Named → List ℕ
numbered made from [] = []
numbered made from (named ∷ others) = made from named ++ numbered made (from + 1) others

-- ---- the table

-- how many marks there are, where they can be counted
abbrev pub count_cell : Option ℕ → List ℕ
count_cell (Some count) = decimal count
count_cell None = codes "not marked"

-- how many marks there are, or why there are none to count
abbrev pub marks_cell : Entry → List ℕ
marks_cell (Setting shown) = count_cell shown.marks
marks_cell (Faulty told) = codes "refused"
marks_cell Bare = codes "no setting"
marks_cell Unread = codes "cannot read"

-- how much differs from the lesson
abbrev pub differs_cell : Entry → List ℕ
differs_cell (Setting shown) = decimal shown.differs
differs_cell (Faulty told) = []
differs_cell Bare = []
differs_cell Unread = []

-- the row of a name, which leads to what is said of its file
unfoldable pub row_of : ℕ → Named → List ℕ
row_of number named =
    codes "<tr><td><a href=\"#a" ++ decimal number ++ codes "\">" ++ escaped named.0
    ++ codes "</a></td><td>" ++ marks_cell named.1 ++ codes "</td><td>" ++ differs_cell named.1
    ++ codes "</td></tr>\n"

-- ---- what is said of a file

-- a text as it stands, where there is any
unfoldable pub pre : List ℕ → List ℕ
pre text =
    if length text == 0 then [] else codes "<pre>" ++ escaped text ++ codes "</pre>\n"

-- a sentence
unfoldable pub sentence : List ℕ → List ℕ
sentence text = codes "<p>" ++ text ++ codes "</p>\n"

-- of a setting what differs, its picture, and its marks explained
abbrev pub shown_rows : Shown → List ℕ
shown_rows shown =
    pre (string_bytes shown.differences) ++ string_bytes shown.picture
    ++ pre (string_bytes shown.explained)

abbrev pub entry_rows : Entry → List ℕ
entry_rows (Setting shown) = shown_rows shown
entry_rows (Faulty told) = pre told.items
entry_rows Bare = sentence (codes "no setting")
entry_rows Unread = sentence (codes "cannot read")

-- the part of a name
unfoldable pub section : ℕ → Named → List ℕ
section number named =
    codes "<section id=\"a" ++ decimal number ++ codes "\">\n<h2>" ++ escaped named.0
    ++ codes "</h2>\n" ++ entry_rows named.1 ++ codes "</section>\n"

-- ---- the page

-- the symbols of all pictures, which stand once
unfoldable pub symbols : List ℕ
symbols =
    codes "<svg width=\"0\" height=\"0\" class=\"symbols\">\n" ++ SYMBOLS.now ++ codes "</svg>\n"

-- the table with these rows
unfoldable pub table : List ℕ → List ℕ
table rows =
    codes "<table>\n<tr><th>name</th><th>marks</th><th>differs</th></tr>\n" ++ rows
    ++ codes "</table>\n"

-- the whole page: the names with how many marks each has, and then a part for each
unfoldable pub page_of : List Named → List ℕ
page_of class =
    HEAD.now ++ symbols ++ table (numbered row_of 1 class) ++ numbered section 1 class
    ++ codes "</body>\n</html>\n"

-- ---- the page of some names so far

-- there is no mark, and they can be counted
abbrev pub is_unmarked : Option ℕ → Bool
is_unmarked (Some count) = count == 0
is_unmarked None = false

-- nothing is wrong in a file: it has a setting without marks, of which nothing differs
abbrev pub is_right : Entry → Bool
is_right (Setting shown) = is_unmarked shown.marks && (shown.differs == 0)
is_right (Faulty told) = false
is_right Bare = false
is_right Unread = false

-- the rows of the table and the parts of these names, and whether nothing is wrong in their files
pub record IsPageSoFar (class : List Named) (page : ClassPage) : Type 0 where
  pub rows : page.rows.items ≡ numbered row_of 1 class
  pub sections : page.sections.items ≡ numbered section 1 class
  pub count : page.count ≡ length class
  pub all_right : page.all_right ≡ list_all (λ (named : Named). is_right named.1) class
