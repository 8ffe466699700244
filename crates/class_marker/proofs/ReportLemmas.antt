-- The parts of a report, one after the other, are the reports of all exercises (`gathered_is`).
use Rattle.std.proofs.Common.{◌≡◌, ℕ, zero, suc, ◌+◌, ◌-◌, ◌*◌, ◌/◌, ◌%◌, ◌<◌, ◌≤◌, min, Bool, true, false, List, [], ◌∷◌, ◌++◌, length, take, drop, zip, get_or, Ok, Err, Global, if◌then◌else◌, ⊎_elim, refl, ap, sym, subst, ◌∙◌, append-nil, arith}
use Rattle.std.specs.Prelude.{string_bytes, sum_by, IfOk, IsOk, String}
use Rattle.std.specs.List.{AllZip, flat_map}
use Rattle.std.specs.Fork.{slice_chunk}
use Rattle.std.proofs.lemmas.Bool.{cases_lt}
use Rattle.std.proofs.lemmas.List.{flat_map_more, length-drop, length-take, take_all, take_more}
use Rattle.std.proofs.lemmas.List.Concat.{flat_map-append}
use Rattle.std.proofs.lemmas.List.Elements.{All-more}
use Rattle.std.proofs.lemmas.List.Sums.{count_by-le-length, sum_by-append, sum_by_more}
use Rattle.std.proofs.lemmas.Slice.Zip.{AllZip-long, get_or-zip, length-zip}
use Rattle.chunk_laws.proofs.Chunks.{chunks_elim}
use Rattle.class_marker.specs.declared.class.ClassReport.{ClassReport}
use Rattle.class_marker.specs.declared.one.Marking.{Marking}
use Rattle.class_marker.specs.declared.one.Text.{Text}
use Rattle.class_marker.specs.Markings.{IsMarkingOf}
use Rattle.class_marker.specs.Reports.{ArePartsOf, AreSmall, Entry, Exercises, IsEntry, IsGathered, IsPart, IsReport, MaybePart, class_line, has_mark, is_refused, marked_in, marked_of, refused_in, refused_of, report_of, reports_of, text_in}

-- ---- names beside texts, in chunks

zip-take : {X Y : Type 0} (n : ℕ) (xs : List X) (ys : List Y) → take n (zip xs ys) ≡ zip (take n xs) (take n ys)
zip-take zero xs ys = refl
zip-take (suc n) [] ys = refl
zip-take (suc n) (x ∷ xs) [] = refl
zip-take (suc n) (x ∷ xs) (y ∷ ys) = ap (λ zs. (x, y) ∷ zs) (zip-take n xs ys)

zip-drop : {X Y : Type 0} (n : ℕ) (xs : List X) (ys : List Y) → length xs ≡ length ys
    → drop n (zip xs ys) ≡ zip (drop n xs) (drop n ys)
zip-drop zero xs ys same = refl
zip-drop (suc n) [] [] same = refl
zip-drop (suc n) [] (y ∷ ys) same = cc
zip-drop (suc n) (x ∷ xs) [] same = cc
zip-drop (suc n) (x ∷ xs) (y ∷ ys) same = zip-drop n xs ys (omega (arith, same))

-- a chunk of names beside the same chunk of texts
pub zip-chunk : {X Y : Type 0} (xs : List X) (ys part : List Y) (size start : ℕ) → length xs ≡ length ys
    → part ≡ take size (drop start ys) → length part ≡ min size (length ys - start)
    → zip (take (length part) (drop start xs)) part ≡ take size (drop start (zip xs ys))
zip-chunk xs ys part size start same is long =
    let count = length part in
    let rest = drop start xs in
    let left : length (drop start xs) ≡ length xs - start = length-drop start xs in
    let cut : take count rest ≡ take size rest =
    ⊎_elim
    (λ few.
    let c : length rest ≤ count = omega arith in
    let s : length rest ≤ size = omega arith in
    take_all count rest c ∙ sym (take_all size rest s))
    (λ many. let c : count ≡ size = omega arith in ap (λ n. take n rest) c)
    (cases_lt (length rest) size) in
    ap (λ a. zip a part) cut
    ∙ (ap (λ b. zip (take size rest) b) is
    ∙ (sym (zip-take size rest (drop start ys)) ∙ ap (take size) (sym (zip-drop start xs ys same))))

-- ---- entries, one after the other

AllZip-append : {A B : Type 0} (R : A → B → Type 0) (xs more : List A) (ys others : List B)
    → AllZip R xs ys → AllZip R more others → AllZip R (xs ++ more) (ys ++ others)
AllZip-append R [] more [] others here there = there
AllZip-append R [] more (y ∷ ys) others here there = absurd here
AllZip-append R (x ∷ xs) more [] others here there = absurd here
AllZip-append R (x ∷ xs) more (y ∷ ys) others here there = (here.0, AllZip-append R xs more ys others here.1 there)

abbrev says : Entry → List ℕ
says entry = report_of entry.0 entry.1

abbrev counts_mark : Entry → ℕ
counts_mark entry = if has_mark entry.1 then 1 else 0

abbrev counts_refused : Entry → ℕ
counts_refused entry = if is_refused entry.1 then 1 else 0

-- exercises with these reports and these counts
pub record AreReported (exercises : Exercises) (text : List ℕ) (marked refused : ℕ) : Type 0 where
  pub entries : List Entry
  pub each : AllZip IsEntry exercises entries
  pub said : text ≡ reports_of entries
  pub marks : marked ≡ marked_in entries
  pub refusals : refused ≡ refused_in entries

pub more_reported : (exercises more : Exercises) (text said : List ℕ) (marked refused marks refusals : ℕ)
    → AreReported exercises text marked refused → AreReported more said marks refusals
    → AreReported (exercises ++ more) (text ++ said) (marked + marks) (refused + refusals)
more_reported exercises more text said marked refused marks refusals these those = record {
  entries = these.entries ++ those.entries;
  each = AllZip-append IsEntry exercises more these.entries those.entries these.each those.each;
  said = ap (λ a. a ++ said) these.said
      ∙ (ap (λ b. reports_of these.entries ++ b) those.said ∙ sym (flat_map-append says these.entries those.entries));
  marks =
      let both : marked_in (these.entries ++ those.entries) ≡ marked_in these.entries + marked_in those.entries =
      sum_by-append counts_mark these.entries those.entries in
      omega (arith, these.marks, those.marks, both);
  refusals =
      let both : refused_in (these.entries ++ those.entries) ≡ refused_in these.entries + refused_in those.entries =
      sum_by-append counts_refused these.entries those.entries in
      omega (arith, these.refusals, those.refusals, both);
}

-- the reports of no exercise
pub none_reported : AreReported [] [] 0 0
none_reported = record { entries = []; each = tt; said = refl; marks = refl; refusals = refl }

-- one exercise
one_reported : (exercise : String Global × Text) (marking : Marking) → IsMarkingOf exercise.1 marking
    → AreReported (exercise ∷ []) (report_of (string_bytes exercise.0) marking) (counts_mark ([], marking))
    (counts_refused ([], marking))
one_reported exercise marking is = record {
  entries = (string_bytes exercise.0, marking) ∷ [];
  each = ((refl, is), tt);
  said = sym (append-nil (report_of (string_bytes exercise.0) marking));
  marks = omega arith;
  refusals = omega arith;
}

pub part_of : (exercises : Exercises) (part : ClassReport) → AreReported exercises (string_bytes part.text) part.marked part.refused
    → IsPart exercises part
part_of exercises part are = record
    { entries = are.entries; each = are.each; text = are.said; marked = are.marks; refused = are.refusals }

pub reported_in : (exercises : Exercises) (part : ClassReport) → IsPart exercises part
    → AreReported exercises (string_bytes part.text) part.marked part.refused
reported_in exercises part is = record
    { entries = is.entries; each = is.each; said = is.text; marks = is.marked; refusals = is.refused }

-- no more exercises have a mark, or are refused, than there are
pub few_counted : (exercises : Exercises) (text : List ℕ) (marked refused : ℕ) → AreReported exercises text marked refused
    → (marked ≤ length exercises) × (refused ≤ length exercises)
few_counted exercises text marked refused are =
    let long = AllZip-long IsEntry exercises are.entries are.each in (
      omega (arith, long, are.marks, count_by-le-length (λ (e : Entry). has_mark e.1) are.entries),
      omega (arith, long, are.refusals, count_by-le-length (λ (e : Entry). is_refused e.1) are.entries),
    )

-- one exercise more of those that a chunk has
pub one_more : (names : List (String Global)) (texts : List Text) (k : ℕ) (name : String Global) (text : Text) (marking : Marking)
    (part more : ClassReport)
    → length names ≡ length texts → k < length texts → name ≡ get_or names k name → text ≡ get_or texts k text
    → IsMarkingOf text marking → IsPart (take k (zip names texts)) part
    → string_bytes more.text ≡ string_bytes part.text ++ report_of (string_bytes name) marking
    → more.marked ≡ part.marked + (if has_mark marking then 1 else 0)
    → more.refused ≡ part.refused + (if is_refused marking then 1 else 0)
    → IsPart (take (k + 1) (zip names texts)) more
one_more names texts k name text marking part more same within named read is so_far longer marks refusals =
    let both : Exercises = zip names texts in
    let short : k < length both = omega (arith, length-zip names texts) in
    let short_names : k < length names = omega arith in
    let here : get_or both k (name, text) ≡ (name, text) = get_or-zip names texts k (name, text) short_names within ∙ cc in
    let list : take (k + 1) both ≡ take k both ++ (name, text) ∷ [] =
    take_more both k (name, text) short ∙ ap (λ (e : String Global × Text). take k both ++ e ∷ []) here in
    let all = more_reported (take k both) ((name, text) ∷ []) _ _ _ _ _ _ (reported_in _ _ so_far)
    (one_reported (name, text) marking is) in
    part_of (take (k + 1) both) more (rw (list, longer, marks, refusals) all)

-- one part more
pub one_part : (parts : List MaybePart) (n : ℕ) (d : MaybePart) (more whole longer : ClassReport)
    → n < length parts → get_or parts n d ≡ Ok more → IsGathered (take n parts) whole
    → string_bytes longer.text ≡ string_bytes whole.text ++ string_bytes more.text
    → longer.marked ≡ whole.marked + more.marked → longer.refused ≡ whole.refused + more.refused
    → IsGathered (take (n + 1) parts) longer
one_part parts n d more whole longer within here done text marked refused = record {
  each = All-more IsOk parts n d within done.each (rw here refl);
  text = text
      ∙ (ap (λ a. a ++ string_bytes more.text) done.text
      ∙ (ap (λ r. flat_map text_in (take n parts) ++ text_in r) (sym here)
      ∙ (flat_map_more text_in [] (take n parts) (get_or parts n d) ∙ ap (flat_map text_in) (sym (take_more parts n d within)))));
  marked = marked
      ∙ (ap (λ a. a + more.marked) done.marked
      ∙ (ap (λ r. sum_by marked_of (take n parts) + marked_of r) (sym here) ∙ sym (sum_by_more marked_of parts n d within)));
  refused = refused
      ∙ (ap (λ a. a + more.refused) done.refused
      ∙ (ap (λ r. sum_by refused_of (take n parts) + refused_of r) (sym here) ∙ sym (sum_by_more refused_of parts n d within)));
}

-- what a part has, where it is there
part_is : (part : MaybePart) (exercises : Exercises) → IsOk part → IfOk part (IsPart exercises)
    → AreReported exercises (text_in part) (marked_of part) (refused_of part)
part_is (Ok part) exercises there is = reported_in exercises part is
part_is (Err fault) exercises there is = cc

-- no part counts more exercises than its chunk has
few_in : (part : MaybePart) (exercises : Exercises) → length exercises ≤ 32 → IfOk part (IsPart exercises)
    → (marked_of part ≤ 32) × (refused_of part ≤ 32)
few_in (Ok part) exercises few is =
    let counted = few_counted exercises (string_bytes part.text) part.marked part.refused (reported_in exercises part is) in
    (omega (arith, counted.0), omega (arith, counted.1))
few_in (Err fault) exercises few is = (omega arith, omega arith)

pub small_parts : (names : List (String Global)) (texts : List Text) (parts read : List MaybePart) → read ≡ parts
    → ArePartsOf names texts parts → AreSmall read
small_parts names texts parts read same each n d h =
    let chunk = slice_chunk (zip names texts) 32 n in
    let few : length chunk ≤ 32 = omega (arith, length-take 32 (drop (n * 32) (zip names texts))) in
    let short : n < length parts = omega (arith, ap length same, h) in
    subst (λ rs. (marked_of (get_or rs n d) ≤ 32) × (refused_of (get_or rs n d) ≤ 32)) (sym same)
    (few_in (get_or parts n d) chunk few (each n d short))

-- what is gathered from all parts are the reports of all exercises
pub gathered_is : (names : List (String Global)) (texts : List Text) (parts read : List MaybePart) (whole : ClassReport)
    → length names ≡ length texts → read ≡ parts → IsGathered read whole
    → length parts ≡ length texts / 32 + min 1 (length texts % 32) → ArePartsOf names texts parts
    → IsPart (zip names texts) whole
gathered_is names texts parts read whole same is done count each =
    let here : IsGathered parts whole = subst (λ rs. IsGathered rs whole) is done in
    let both : Exercises = zip names texts in
    let long : length texts ≡ length both = omega (arith, length-zip names texts) in
    let counted = subst (λ n. length parts ≡ n / 32 + min 1 (n % 32)) long count in
    let all = chunks_elim P Q none_reported more 32 both parts (Err (record {}))
    (λ n h. part_is (get_or parts n (Err (record {}))) (slice_chunk both 32 n) (here.each n (Err (record {})) h)
    (each n (Err (record {})) h)) (omega arith) counted in
    part_of both whole (rw (here.text, here.marked, here.refused) all)
  where
    P : Exercises → List MaybePart → Type 0
    P es rs = AreReported es (flat_map text_in rs) (sum_by marked_of rs) (sum_by refused_of rs)

    Q : Exercises → MaybePart → Type 0
    Q es r = AreReported es (text_in r) (marked_of r) (refused_of r)

    more : (es chunk : Exercises) (rs : List MaybePart) (r : MaybePart) → P es rs → Q chunk r → P (es ++ chunk) (rs ++ r ∷ [])
    more es chunk rs r p q =
        let text : flat_map text_in (rs ++ r ∷ []) ≡ flat_map text_in rs ++ text_in r = sym (flat_map_more text_in [] rs r) in
        let marked : sum_by marked_of (rs ++ r ∷ []) ≡ sum_by marked_of rs + marked_of r =
        sum_by-append marked_of rs (r ∷ []) ∙ omega arith in
        let refused : sum_by refused_of (rs ++ r ∷ []) ≡ sum_by refused_of rs + refused_of r =
        sum_by-append refused_of rs (r ∷ []) ∙ omega arith in
        rw (text, marked, refused) (more_reported es chunk _ _ _ _ _ _ p q)

-- ---- the whole report

pub at_most_one : (test : Bool) → (if test then 1 else 0) ≤ 1
at_most_one true = omega arith
at_most_one false = omega arith

-- the last line behind the reports of all exercises
pub whole_is : (exercises : Exercises) (part whole : ClassReport) (count : ℕ) → IsPart exercises part
    → count ≡ length exercises
    → string_bytes whole.text ≡ string_bytes part.text ++ class_line count part.marked part.refused
    → whole.marked ≡ part.marked → whole.refused ≡ part.refused → IsReport exercises whole
whole_is exercises part whole count is all longer marks refusals =
    let long : count ≡ length is.entries = omega (arith, AllZip-long IsEntry exercises is.entries is.each) in
    record {
      entries = is.entries;
      each = is.each;
      text = longer
          ∙ (ap (λ t. t ++ class_line count part.marked part.refused) is.text
          ∙ (ap (λ n. reports_of is.entries ++ class_line n part.marked part.refused) long
          ∙ (ap (λ n. reports_of is.entries ++ class_line (length is.entries) n part.refused) is.marked
          ∙ ap (λ n. reports_of is.entries ++ class_line (length is.entries) (marked_in is.entries) n) is.refused)));
      marked = marks ∙ is.marked;
      refused = refusals ∙ is.refused;
    }
