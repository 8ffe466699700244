-- What is answered of a certificate of the third form: where its lists stop (`stop_answer`), where
-- the head isn't sound or a price isn't due (`front_answer`), and where a web is too large
-- (`unwoven_answer`). Behind the lists a reader of claims stands (`lists_opened`).
use Rattle.std.proofs.Common.{◌≡◌, ℕ, suc, ◌+◌, ◌-◌, ◌<◌, ◌≤◌, inl, inr, nat_lt, Bool, true, false, List, [], ◌∷◌, ◌++◌, Option, Some, None, Ok, Err, drop, length, map, option_map, refl, sym, ap, subst, ◌∙◌, arith, append_assoc, length-append}
use Rattle.std.specs.Prelude.{IfOk, if◌then◌else◌}
use Rattle.std.specs.Io.{StartsWith}
use Rattle.std.proofs.Math.Seq.{drop-append_seam}
use Rattle.cert_check.specs.Answers.{Answers, IsHeadless, unstarted}
use Rattle.cert_check.specs.Listed.{AreTaken, IsFrontSound, TellsFront, TellsStop, unwoven}
use Rattle.cert_check.specs.Settings.{HasLists, IsOpeningText, Lists, RefusesFront}
use Rattle.cert_check.specs.Starts.{IsStarted}
use Rattle.cert_file.specs.Readings.{Begins, Files, MayBe, Piece, Reading, longest_piece, reading_from}
use Rattle.cert_file.specs.Subjects.{IsOpened}
use Rattle.cert_file.specs.declared.fault.ReadFault.TheVariants.{Text}
use Rattle.cert_file.specs.declared.verdict.Verdict.TheVariants as verdict
use Rattle.cert_file.proofs.JudgingLemmas.{begins_front}
use Rattle.cert_file.proofs.PieceLemmas.{nothing_begins}
use Rattle.cert_text.specs.declared.answers.CertFault.{CertFault}
use Rattle.cert_text.specs.declared.answers.CertFault.TheVariants.{CertHead as WrongHead, CertWord, CertEnd, Memory}
use Rattle.cert_text.specs.declared.answers.CertHead.{CertHead}
use Rattle.cert_text.specs.declared.answers.Form.TheVariants.{Third}
use Rattle.cert_text.specs.declared.answers.Refused.{Refused}
use Rattle.cert_law.specs.Bases.{HasTails, basis_of}
use Rattle.cert_law.specs.Cases.{IsCase}
use Rattle.cert_law.specs.Certificates.{IsHeadSound}
use Rattle.floor_tables.specs.Tables.{AreNarrow, Task}
use Rattle.fux_grid.specs.declared.exercise.Exercise.{Exercise}
use Rattle.fux_grid.specs.Exercises.{IsValid}
use Rattle.price_check.specs.declared.floors.ListFloor.{ListFloor}
use Rattle.price_check.specs.declared.priced_list.PricedList.{PricedList}
use Rattle.price_check.specs.Floors.{AreFor, list_of}
use Rattle.price_check.specs.Statements.{HasLargeStated}
use Rattle.price_check.specs.Woven.{list_priced}
use Rattle.price_check.specs.declared.stated.OwnList.{OwnList}
use Rattle.price_check.specs.Owned.{list_owned}
use Rattle.penalty_sheet.specs.declared.sheet.Sheet.{Sheet}
use Rattle.priced_paths.specs.declared.states.WebFault.{WebFault}
use Rattle.priced_paths.specs.declared.states.WebFault.TheVariants as woven
use Rattle.price_check.specs.Stated.{AreEachStated, AreStated, StatedList, and_more, first_above, lists_of, price_in, prices_in}
use Rattle.price_check.specs.PriceLists.{PriceList}
use Rattle.price_check.specs.Lists.{AreLinesOf, AreLists, lists_text}
use Rattle.price_check.specs.PriceLines.{Cases, Claims, Keeps, Line, Price, after}
use Rattle.price_check.specs.declared.line.Before.{Before}

-- ---- where lists stop

module _ (ex : Exercise) (sheet : Sheet) (files : Files) (name : List ℕ) (rose : Type 0) (head : CertHead) where
  pub stop_answer : (piece : Piece) (fault : CertFault) → IsStarted ex files name Third head piece
      → TellsStop ex piece fault → Answers ex sheet files name rose (unstarted (Text fault))
  stop_answer piece (WrongHead at) started stop = record {
    bytes = started.first.bytes;
    had = started.first.had;
    such = inl (inr (record {
      front = started.front;
      head = head;
      heads = started.heads;
      rest = piece.ahead;
      is = started.first.such;
      left = stop.0;
      stop = stop.1;
      place = stop.2 ∙ ap (λ n. n - stop.0) started.at.offset;
    }));
  }
  stop_answer piece (CertWord at) started stop = absurd stop
  stop_answer piece (CertEnd at) started stop = absurd stop
  stop_answer piece Memory started stop = tt

-- nothing else than that is told there
pub stop_headless : (ex : Exercise) (piece : Piece) (fault : CertFault) → TellsStop ex piece fault
    → IfOk (unstarted (Text fault)) IsHeadless
stop_headless ex piece (WrongHead at) stop = (at, refl)
stop_headless ex piece (CertWord at) stop = absurd stop
stop_headless ex piece (CertEnd at) stop = absurd stop
stop_headless ex piece Memory stop = tt

-- ---- behind lists

-- what is left where what stood in front is used
pub used_up : (whole text rest : List ℕ) → whole ≡ text ++ rest → drop (length whole - length rest) whole ≡ rest
used_up whole text rest is =
    let few : length whole - length rest ≡ length text = omega (arith, ap length is, length-append text rest) in
    ap (λ n. drop n whole) few ∙ ap (drop (length text)) is ∙ drop-append_seam text rest

pub lists_opened : (ex : Exercise) (files : Files) (name : List ℕ) (head : CertHead) (lines : List Line) (old new : Piece)
    → IsStarted ex files name Third head old → AreTaken ex lines old new → old.offset ≤ longest_piece
    → IsOpened (IsOpeningText ex) files name (record { head = head; stated = Lists lines })
    (reading_from (new.offset - length new.ahead) new.ahead new.offset)
lists_opened ex files name head lines old new started taken limit =
    let text = lists_text lines in
    let whole = length-append started.front text in
    let parts = length-append text new.ahead in
    let ahead = ap length taken.text in
    record {
      front = started.front ++ text;
      heads = record {
        front = started.front;
        heads = started.heads;
        fits = taken.lists;
        is = refl;
        short = omega (arith, whole, parts, ahead, started.at.offset, limit);
      };
      at = record {
        begins = subst (λ xs. MayBe files name (Begins xs))
            (ap (λ xs. started.front ++ xs) taken.text ∙ sym (append_assoc started.front text new.ahead))
            started.at.begins;
        next = omega (arith, whole, parts, ahead, started.at.offset, taken.offset);
        clear = refl;
        line = nothing_begins;
        unended = tt;
        offset = omega (arith, whole, parts, ahead, started.at.offset, taken.offset);
      };
    }

module _ (ex : Exercise) (sheet : Sheet) (files : Files) (name : List ℕ) (rose : Type 0) (head : CertHead)
    (lines : List Line) (reader : Reading)
    (opened : IsOpened (IsOpeningText ex) files name (record { head = head; stated = Lists lines }) reader) where
  abbrev bytes : List ℕ
  bytes = opened.at.begins.bytes

  abbrev own_lists : HasLists ex head bytes
  own_lists = record {
    lines = lines;
    opening = opened.front;
    opens = opened.heads;
    begins = begins_front bytes opened.front _ opened.at.begins.such;
  }

  own_head : StartsWith bytes opened.heads.front
  own_head =
      begins_front bytes opened.heads.front (lists_text lines)
      (subst (λ xs. StartsWith bytes xs) opened.heads.is own_lists.begins)

  front_told : (refused : Refused) → TellsFront ex sheet head lines refused
      → RefusesFront ex sheet head refused.number refused.why bytes
  front_told refused (inl unsound) =
      subst (λ (r : Refused). RefusesFront ex sheet head r.number r.why bytes) (sym unsound.1) record {
        numbered = refl;
        form = Third;
        front = opened.heads.front;
        begins = own_head;
        heads = opened.heads.heads;
        listed = own_lists;
        unsound = unsound.0;
      }
  front_told refused (inr high) =
      subst (λ (r : Refused). RefusesFront ex sheet head r.number r.why bytes) (sym high.is) record {
        sound = high.sound;
        lists = own_lists;
        before = high.before;
        numbered = refl;
        first = high.first;
      }

  -- where the head isn't sound, or a price isn't due
  pub front_answer : (refused : Refused) → TellsFront ex sheet head lines refused
      → Answers ex sheet files name rose (Ok (verdict.Claim refused))
  front_answer refused told = record {
    bytes = bytes;
    had = opened.at.begins.had;
    such = inl (head, front_told refused told);
  }

  -- where there are no webs
  pub unwoven_answer : (fault : WebFault) → IsFrontSound ex sheet head lines
      → (fault ≡ woven.TooLarge → HasLargeStated ex sheet lines) → Answers ex sheet files name rose (Err (unwoven fault))
  unwoven_answer woven.TooLarge front large = record {
    bytes = bytes;
    had = opened.at.begins.had;
    such = record { head = head; sound = front.sound; lists = own_lists; due = front.due; large = large refl };
  }
  unwoven_answer woven.Memory front large = tt

-- ---- a case with lists, by the names of what a space is of

module _ (task : Task) (ex : Exercise) (sheet : Sheet) (head : CertHead) (same : ex ≡ task.exercise) (also : sheet ≡ task.sheet) where
  pub is_case : IsValid task.exercise → IsHeadSound task.exercise task.sheet head
      → IsCase (record { exercise = ex; sheet = sheet; head = head })
  is_case valid sound = record {
    valid = subst IsValid (sym same) valid;
    sound =
        subst (λ (e : Exercise). IsHeadSound e sheet head) (sym same)
        (subst (λ (s : Sheet). IsHeadSound task.exercise s head) (sym also) sound);
  }

  pub has_tails : (tables : Task) → tables ≡ task → AreNarrow task.exercise
      → HasTails (record { exercise = ex; sheet = sheet; head = head }) (basis_of tables)
  has_tails tables are narrow = record {
    exercise = ap (λ (t : Task). t.exercise) are ∙ sym same;
    sheet = ap (λ (t : Task). t.sheet) are ∙ sym also;
    narrow = subst AreNarrow (sym same) narrow;
  }

  pub are_for : (floors : List ListFloor) → AreFor task.exercise task.sheet floors → AreFor ex sheet floors
  are_for floors are j floor there =
      let own = are j floor there in (own.0 ∙ sym same, own.1 ∙ sym also)

-- floors are those of the lists that lines state
pub floors_stated : (sheet : Sheet) (lines : List Line) (own : List OwnList) (lists : List PricedList) (floors : List ListFloor)
    → AreStated sheet lines (map list_owned own) → map list_priced lists ≡ map list_owned own
    → map list_of floors ≡ map list_priced lists → AreStated sheet lines (map list_of floors)
floors_stated sheet lines own lists floors stated priced made =
    subst (AreStated sheet lines) (sym (made ∙ priced)) stated

-- ---- how many there are

-- the number of a price that isn't due is one of the lines'
above_later : (most n number : ℕ) (numbers : List ℕ)
    → ((k : ℕ) → first_above most numbers ≡ Some k → k < length numbers)
    → first_above most (number ∷ numbers) ≡ Some n → n < suc (length numbers)
above_later most n number numbers later e = at (nat_lt most number) (first_above most numbers) refl e
  where
    at : (b : Bool) (found : Option ℕ) → first_above most numbers ≡ found
        → (if b then Some 0 else option_map (λ k. k + 1) found) ≡ Some n → n < suc (length numbers)
    at true found is f = let none : 0 ≡ n = cc in omega (arith, none)
    at false None is f = cc
    at false (Some k) is f = let same : k + 1 ≡ n = cc in omega (arith, later k is, same)

above_within : (most n : ℕ) (numbers : List ℕ) → first_above most numbers ≡ Some n → n < length numbers
above_within most n [] e = cc
above_within most n (number ∷ numbers) e = above_later most n number numbers (λ k is. above_within most k numbers is) e

more_few : (found : Option ℕ) (numbers : List ℕ) → length (and_more found numbers) ≤ suc (length numbers)
more_few None numbers = omega arith
more_few (Some n) numbers = omega arith

prices_few : (lines : List Line) → length (prices_in lines) ≤ length lines
prices_few [] = omega arith
prices_few (line ∷ lines) = omega (arith, more_few (price_in line) (prices_in lines), prices_few lines)

pub high_within : (most n : ℕ) (lines : List Line) → first_above most (prices_in lines) ≡ Some n → n < length lines
high_within most n lines e = omega (arith, above_within most n (prices_in lines) e, prices_few lines)

-- lines that are whole lists state eight at most
few_lists : (ex : Exercise) (before : Before) (lines : List Line) → before.lists ≤ 8 → AreLinesOf ex before lines
    → length (lists_of lines) + before.lists ≤ 8
few_lists ex before [] few are = omega (arith, few)
few_lists ex before (Keeps turns runs ∷ lines) few are =
    omega (arith, few_lists ex (after before (Keeps turns runs)) lines (omega (arith, are.0)) are.2)
few_lists ex before (Cases voice keys ∷ lines) few are = few_lists ex (after before (Cases voice keys)) lines few are.2
few_lists ex before (Price case voice pitch number ∷ lines) few are =
    few_lists ex (after before (Price case voice pitch number)) lines few are.2
few_lists ex before (Claims ∷ lines) few are = few_lists ex (after before Claims) lines few are.2

as_many : (sheet : Sheet) (all : List StatedList) (lists : List PriceList) → AreEachStated sheet all lists
    → length lists ≡ length all
as_many sheet [] [] are = refl
as_many sheet [] (list ∷ lists) are = absurd are
as_many sheet (stated ∷ all) [] are = absurd are
as_many sheet (stated ∷ all) (list ∷ lists) are = ap suc (as_many sheet all lists are.1)

pub few_stated : (ex : Exercise) (sheet : Sheet) (lines : List Line) (lists : List PriceList) → AreLists ex lines
    → AreStated sheet lines lists → length lists ≤ 8
few_stated ex sheet lines lists are stated =
    omega (arith, as_many sheet (lists_of lines) lists stated, few_lists ex _ lines (omega arith) are)
