-- What `class` makes of the page of a class.
use Rattle.std.specs.Prelude.{◌≡◌, ℕ, ◌⊎◌, Bool, List, Option, if◌then◌else◌}
use Rattle.std.specs.List.{AllZip, list_all}
use Rattle.class_marker.specs.declared.entry.Entry.{Entry}
use Rattle.class_marker.specs.declared.entry.Entry.TheVariants.{Setting, Faulty, Bare, Unread}
use Rattle.class_marker.specs.declared.page.ClassPage.{ClassPage}
use Rattle.class_marker.specs.Entries.{IsEntryOfText}
use Rattle.class_marker.specs.Pages.{IsPageSoFar, Named, is_right, page_of}
use Rattle.fux_grid.specs.declared.exercise.Exercise.{Exercise}
use Rattle.fux_port.specs.Files.{IsMissing, MayHave}
use Rattle.works.specs.declared.work.Output.{Output}
use Rattle.works.specs.declared.work.Verdict.{Verdict}
use Rattle.works.specs.declared.work.Verdict.TheVariants.{Favorable, Unfavorable}

-- an entry is that of the bytes of a file
pub record ShowsFile (files : Option (List ℕ → Option (List ℕ))) (lesson : Option Exercise) (name : List ℕ) (entry : Entry)
    : Type 0 where
  pub bytes : List ℕ
  pub had : MayHave files name bytes
  pub is : IsEntryOfText lesson name bytes entry

-- an entry is that of the file of a name; it says that it can't be read only for a cause: the file
-- is missing, or a read failed by the shelf's fault
abbrev pub IsEntryIn : Option (List ℕ → Option (List ℕ)) → Type 0 → Option Exercise → List ℕ → Entry → Type 0
IsEntryIn files failed lesson name (Setting shown) = ShowsFile files lesson name (Setting shown)
IsEntryIn files failed lesson name (Faulty told) = ShowsFile files lesson name (Faulty told)
IsEntryIn files failed lesson name Bare = ShowsFile files lesson name Bare
IsEntryIn files failed lesson name Unread = failed ⊎ IsMissing files name

abbrev pub IsNamedIn : Option (List ℕ → Option (List ℕ)) → Type 0 → Option Exercise → List ℕ → Named → Type 0
IsNamedIn files failed lesson name named = (named.0 ≡ name) × IsEntryIn files failed lesson name named.1

-- the page so far has the entries of the files of these names
pub record ArePaged (files : Option (List ℕ → Option (List ℕ))) (failed : Type 0) (lesson : Option Exercise)
    (names : List (List ℕ)) (page : ClassPage) : Type 0 where
  pub class : List Named
  pub each : AllZip (IsNamedIn files failed lesson) names class
  pub so_far : IsPageSoFar class page

-- a page is favorable where nothing is wrong in any file
abbrev pub page_verdict : Bool → Verdict
page_verdict all_right = if all_right then Favorable else Unfavorable

-- the output of a page
abbrev pub page_output : List Named → Output
page_output class = record {
  verdict = page_verdict (list_all (λ (named : Named). is_right named.1) class);
  bytes = page_of class;
}

-- an output is the page of the files of these names
pub record IsClassPage (files : Option (List ℕ → Option (List ℕ))) (failed : Type 0) (lesson : Option Exercise)
    (names : List (List ℕ)) (output : Output) : Type 0 where
  pub class : List Named
  pub each : AllZip (IsNamedIn files failed lesson) names class
  pub written : output ≡ page_output class
