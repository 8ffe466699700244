-- What is said of a file that can't be read (`unread_text`); the report with what is said of one file
-- more (`more_said`), and with its last line (`whole_said`).
use Rattle.std.proofs.Common.{◌≡◌, ℕ, ◌+◌, List, [], ◌∷◌, ◌++◌, length, string_bytes, codes, append_assoc, ap, sym, ◌∙◌, arith}
use Rattle.std.specs.Prelude.{Bool, count_by, if◌then◌else◌}
use Rattle.std.specs.List.{flat_map}
use Rattle.std.proofs.lemmas.List.{flat_map_more}
use Rattle.std.proofs.lemmas.List.Sums.{sum_by-append}
use Rattle.class_marker.specs.declared.whole_report.WholeReport.{WholeReport}
use Rattle.class_marker.specs.declared.said.Said.{Said}
use Rattle.class_marker.specs.declared.said.Said.TheVariants.{Unread}
use Rattle.class_marker.specs.WholeReports.{IsReportOf, IsWholeOf, Saying, has_mark, is_other, is_refused, marked_in, refused_in, said_text, whole_line}

-- its name, a line feed, and its name once more, with what is said
pub unread_text : (old name feed one two three four : List ℕ) → feed ≡ 10 ∷ [] → one ≡ old ++ name → two ≡ one ++ feed
    → three ≡ two ++ name → four ≡ three ++ codes ": cannot read\n" → four ≡ old ++ said_text (name, Unread)
unread_text old name feed one two three four is a b c d = rw (d, c, b, a, is) (simp append_assoc)

-- one more is counted where it passes
count_more : (test : Saying → Bool) (sayings : List Saying) (saying : Saying)
    → count_by test (sayings ++ saying ∷ []) ≡ count_by test sayings + (if test saying then 1 else 0)
count_more test sayings saying =
    let both : count_by test (sayings ++ saying ∷ []) ≡ count_by test sayings + count_by test (saying ∷ []) =
    sum_by-append (λ s. if test s then 1 else 0) sayings (saying ∷ []) in
    omega (arith, both)

pub more_said : (sayings : List Saying) (name : List ℕ) (said : Said) (old new : WholeReport) → IsReportOf sayings old
    → string_bytes new.text ≡ string_bytes old.text ++ said_text (name, said)
    → new.marked ≡ old.marked + (if has_mark said then 1 else 0)
    → new.refused ≡ old.refused + (if is_refused said then 1 else 0)
    → new.others ≡ old.others + (if is_other said then 1 else 0)
    → IsReportOf (sayings ++ (name, said) ∷ []) new
more_said sayings name said old new is text marked refused others = record {
  text = text ∙ ap (λ t. t ++ said_text (name, said)) is.text ∙ flat_map_more said_text [] sayings (name, said);
  marked = omega (arith, marked, is.marked, count_more (λ s. has_mark s.1) sayings (name, said));
  refused = omega (arith, refused, is.refused, count_more (λ s. is_refused s.1) sayings (name, said));
  others = omega (arith, others, is.others, count_more (λ s. is_other s.1) sayings (name, said));
}

pub whole_said : (by_lesson : Bool) (count : ℕ) (sayings : List Saying) (old new : WholeReport) → IsReportOf sayings old
    → length sayings ≡ count
    → string_bytes new.text ≡ string_bytes old.text ++ whole_line by_lesson count old.marked old.refused old.others
    → new.marked ≡ old.marked → new.refused ≡ old.refused → new.others ≡ old.others → IsWholeOf by_lesson sayings new
whole_said by_lesson count sayings old new is long text marked refused others = record {
  text = text ∙ ap (λ t. t ++ whole_line by_lesson count old.marked old.refused old.others) is.text
      ∙ ap (λ n. flat_map said_text sayings ++ whole_line by_lesson n old.marked old.refused old.others) (sym long)
      ∙ ap (λ n. flat_map said_text sayings ++ whole_line by_lesson (length sayings) n old.refused old.others) is.marked
      ∙ ap (λ n. flat_map said_text sayings ++ whole_line by_lesson (length sayings) (marked_in sayings) n old.others)
      is.refused
      ∙ ap (λ n. flat_map said_text sayings
      ++ whole_line by_lesson (length sayings) (marked_in sayings) (refused_in sayings) n) is.others;
  marked = marked ∙ is.marked;
  refused = refused ∙ is.refused;
  others = others ∙ is.others;
}
