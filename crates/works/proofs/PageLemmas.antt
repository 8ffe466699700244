-- What is on the page of a class: with one file more (`next_paged`), of all files (`page_is`), and
-- where other causes follow (`page_so`).
use Rattle.std.proofs.Common.{◌≡◌, ℕ, ◌+◌, ◌<◌, ◌≤◌, List, [], ◌∷◌, ◌++◌, length, map, take, get_or, Global, Option, Some, None, Result, Ok, Err, IfOk, inl, inr, refl, ap, sym, subst, ◌∙◌, arith}
use Rattle.std.specs.Prelude.{String, string_bytes}
use Rattle.std.specs.List.{AllZip}
use Rattle.std.proofs.lemmas.List.{length-map, take_more}
use Rattle.std.proofs.lemmas.Slice.Zip.{AllZip-long}
use Rattle.class_marker.specs.declared.one.Text.{Text as Content}
use Rattle.class_marker.specs.declared.entry.Entry.{Entry}
use Rattle.class_marker.specs.declared.entry.Entry.TheVariants.{Setting, Faulty, Bare, Unread}
use Rattle.class_marker.specs.declared.page.ClassPage.{ClassPage}
use Rattle.class_marker.specs.Entries.{IsEntryOf, IsEntryOfText}
use Rattle.class_marker.specs.Pages.{IsPageSoFar, Named}
use Rattle.fux_grid.specs.declared.exercise.Exercise.{Exercise}
use Rattle.works.specs.declared.work.Output.{Output}
use Rattle.works.specs.ClassPages.{ArePaged, IsClassPage, IsEntryIn, IsNamedIn, page_output}
use Rattle.works.specs.Works.{Files, ReadsOrNot}
use Rattle.works.proofs.ClassLemmas.{map_at}

pub one_longer : {A B : Type 0} (R : A → B → Type 0) (xs : List A) (ys : List B) (x : A) (y : B) → AllZip R xs ys → R x y
    → AllZip R (xs ++ x ∷ []) (ys ++ y ∷ [])
one_longer R [] [] x y all one = (one, tt)
one_longer R [] (z ∷ ys) x y all one = absurd all
one_longer R (w ∷ xs) [] x y all one = absurd all
one_longer R (w ∷ xs) (z ∷ ys) x y all one = (all.0, one_longer R xs ys x y all.1 one)

-- ---- other causes

entry_so : (files : Files) (old new : Type 0) (lesson : Option Exercise) (name : List ℕ) (entry : Entry) → (old → new)
    → IsEntryIn files old lesson name entry → IsEntryIn files new lesson name entry
entry_so files old new lesson name (Setting shown) so is = is
entry_so files old new lesson name (Faulty told) so is = is
entry_so files old new lesson name Bare so is = is
entry_so files old new lesson name Unread so (inl failed) = inl (so failed)
entry_so files old new lesson name Unread so (inr missing) = inr missing

all_so : (files : Files) (old new : Type 0) (lesson : Option Exercise) (names : List (List ℕ)) (class : List Named)
    → (old → new) → AllZip (IsNamedIn files old lesson) names class → AllZip (IsNamedIn files new lesson) names class
all_so files old new lesson [] [] so each = tt
all_so files old new lesson [] (named ∷ class) so each = absurd each
all_so files old new lesson (name ∷ names) [] so each = absurd each
all_so files old new lesson (name ∷ names) (named ∷ class) so each = (
  (each.0.0, entry_so files old new lesson name named.1 so each.0.1),
  all_so files old new lesson names class so each.1,
)

pub page_so : (files : Files) (old new : Type 0) (lesson : Option Exercise) (names : List (List ℕ)) (output : Output)
    → (old → new) → IsClassPage files old lesson names output → IsClassPage files new lesson names output
page_so files old new lesson names output so is = record {
  class = is.class;
  each = all_so files old new lesson names is.class so is.each;
  written = is.written;
}

-- ---- one file more

-- no text that was read is said to be one that could not be
never_unread : (lesson : Option Exercise) (name bytes : List ℕ) → IsEntryOfText lesson name bytes Unread → ⊥
never_unread lesson name bytes (inl is) = is.is
never_unread lesson name bytes (inr told) = told.explains

-- the entry of a file by what was read of it
entry_in : (files now_files : Files) (failed : Type 0) (lesson : Option Exercise) (name : List ℕ) (found : Option Content)
    (entry : Entry) → now_files ≡ files → ReadsOrNot 65536 now_files failed name (Ok found)
    → IsEntryOf lesson name found entry → IsEntryIn files failed lesson name entry
entry_in files now_files failed lesson name None entry same read is =
    let read' = subst (λ fs. ReadsOrNot 65536 fs failed name (Ok None)) same read in
    subst (IsEntryIn files failed lesson name) (sym is) read'
entry_in files now_files failed lesson name (Some text) (Setting shown) same read is =
    let read' = subst (λ fs. ReadsOrNot 65536 fs failed name (Ok (Some text))) same read in
    record { bytes = read'.bytes; had = read'.had; is = is read'.bytes read'.content }
entry_in files now_files failed lesson name (Some text) (Faulty told) same read is =
    let read' = subst (λ fs. ReadsOrNot 65536 fs failed name (Ok (Some text))) same read in
    record { bytes = read'.bytes; had = read'.had; is = is read'.bytes read'.content }
entry_in files now_files failed lesson name (Some text) Bare same read is =
    let read' = subst (λ fs. ReadsOrNot 65536 fs failed name (Ok (Some text))) same read in
    record { bytes = read'.bytes; had = read'.had; is = is read'.bytes read'.content }
entry_in files now_files failed lesson name (Some text) Unread same read is =
    absurd (never_unread lesson name read.bytes (is read.bytes read.content))

-- as many names are on the page as were given
pub few_paged : (files : Files) (failed : Type 0) (lesson : Option Exercise) (names : List (List ℕ)) (page : ClassPage)
    → ArePaged files failed lesson names page → page.count ≤ length names
few_paged files failed lesson names page are =
    let long = AllZip-long (IsNamedIn files failed lesson) names are.class are.each in
    omega (arith, long, are.so_far.count)

-- the page of no file
pub none_paged : (files : Files) (failed : Type 0) (lesson : Option Exercise) (page : ClassPage) → IsPageSoFar [] page
    → ArePaged files failed lesson [] page
none_paged files failed lesson page is = record { class = []; each = tt; so_far = is }

module _ (files now_files : Files) (lesson : Option Exercise) (names : List (String Global)) (place : ℕ)
    (name : String Global) (within : place < length names) (named : name ≡ get_or names place name)
    (same : now_files ≡ files) where
  pub next_paged : (before now after : Type 0) → (before → after) → (now → after) → (found : Option Content)
      (entry : Entry) → (old new : ClassPage)
      → ArePaged files before lesson (take place (map string_bytes names)) old
      → ReadsOrNot 65536 now_files now (string_bytes name) (Ok found)
      → IsEntryOf lesson (string_bytes name) found entry
      → ((class : List Named) → IsPageSoFar class old → IsPageSoFar (class ++ (string_bytes name, entry) ∷ []) new)
      → ArePaged files after lesson (take (place + 1) (map string_bytes names)) new
  next_paged before now after so from_now found entry old new are read is put =
      let all = map string_bytes names in
      let many : place < length all = rw length-map within in
      let here : get_or all place (string_bytes name) ≡ string_bytes name =
      map_at place names name within ∙ sym (ap string_bytes named) in
      let list : take (place + 1) all ≡ take place all ++ string_bytes name ∷ [] =
      take_more all place (string_bytes name) many ∙ ap (λ n. take place all ++ n ∷ []) here in
      let one : IsEntryIn files after lesson (string_bytes name) entry =
      entry_so files now after lesson (string_bytes name) entry from_now
      (entry_in files now_files now lesson (string_bytes name) found entry same read is) in
      subst (λ ns. ArePaged files after lesson ns new) (sym list) record {
        class = are.class ++ (string_bytes name, entry) ∷ [];
        each = one_longer (IsNamedIn files after lesson) (take place all) are.class (string_bytes name)
            (string_bytes name, entry) (all_so files before after lesson (take place all) are.class so are.each) (refl, one);
        so_far = put are.class are.so_far;
      }

-- ---- all files

pub page_is : {E : Type 0} (files : Files) (failed : Type 0) (lesson : Option Exercise) (names : List (List ℕ))
    (page : ClassPage) (result : Result Output E) → ArePaged files failed lesson names page
    → ((class : List Named) → IsPageSoFar class page → IfOk result (λ output. output ≡ page_output class))
    → IfOk result (IsClassPage files failed lesson names)
page_is files failed lesson names page (Ok output) are made = record {
  class = are.class;
  each = are.each;
  written = made are.class are.so_far;
}
page_is files failed lesson names page (Err fault) are made = tt
