-- The entries that are still to come where a writer stands (`from_place`, `from_empty`,
-- `here_first`), what the tables say of them (`start_is`, `rest_is`), and the lines that come next
-- (`start_next`, `column_next`).
use Rattle.std.proofs.Common.{◌≡◌, ℕ, suc, ◌+◌, ◌-◌, ◌<◌, ◌≤◌, List, [], ◌∷◌, ◌++◌, Option, drop, length, sym, ap, ◌∙◌, subst, arith, append_assoc, add-one}
use Rattle.std.specs.List.{flat_map}
use Rattle.std.proofs.Math.Seq.{drop-cons}
use Rattle.std.proofs.lemmas.List.{drop_all, get_or-map, length-map, nil_from_length}
use Rattle.cert_law.proofs.CostBounds.{rest_small, start_small}
use Rattle.cert_law.proofs.WrittenEntries.{rest_is_behind, start_is_rest}
use Rattle.cert_law.specs.Cases.{Matter}
use Rattle.cert_law.specs.Entries.{menu_column}
use Rattle.cert_law.specs.Rests.{entries_at, entries_from, entries_of, rest_behind, stating}
use Rattle.cert_text.specs.declared.potential.Potential.{Potential}
use Rattle.cert_text.specs.declared.potential.Potential.TheVariants.{NoChain}
use Rattle.cert_text.specs.Potentials.{IsPotential, last_line, potential_line}
use Rattle.cert_writer.specs.declared.lines.Stage.{Stage}
use Rattle.cert_writer.specs.declared.lines.Stage.TheVariants.{Start, Column}
use Rattle.cert_writer.specs.Stages.{entries_left, last_left, stage_text}
use Rattle.cert_writer.specs.Writing.{IsTask}
use Rattle.floor_tables.specs.Floors.{rest_of}
use Rattle.floor_tables.specs.Tables.{IsRest, IsStart, Task}
use Rattle.fux_grid.specs.declared.exercise.Exercise.{Exercise}
use Rattle.fux_grid.specs.Exercises.{columns_in}
use Rattle.fux_grid.specs.Menus.{menu_of}
use Rattle.penalty_sheet.specs.declared.sheet.Sheet.{Sheet}

-- ---- what the tables say

module _ (t : Matter) (tables : Task) (task : IsTask t tables) where
  pub start_is : (rest : Option ℕ) → IsStart tables.exercise tables.sheet rest → rest ≡ rest_of t.exercise t.sheet []
  start_is rest least =
      start_is_rest tables.exercise tables.sheet rest least
      ∙ ap (λ (ex : Exercise). rest_of ex tables.sheet []) task.has.exercise
      ∙ ap (λ (sheet : Sheet). rest_of t.exercise sheet []) task.has.sheet

  pub rest_is : (i k : ℕ) (rest : Option ℕ) → i < columns_in t.exercise
      → IsRest tables.exercise tables.sheet i (menu_column tables.exercise i k) rest
      → rest ≡ rest_behind t.exercise t.sheet i (menu_column t.exercise i k)
  rest_is i k rest within least =
      let there : i < columns_in tables.exercise
      = subst (λ (ex : Exercise). i < columns_in ex) (sym task.has.exercise) within in
      rest_is_behind tables.exercise tables.sheet i (menu_column tables.exercise i k) rest there least
      ∙ ap (λ (ex : Exercise). rest_behind ex tables.sheet i (menu_column ex i k)) task.has.exercise
      ∙ ap (λ (sheet : Sheet). rest_behind t.exercise sheet i (menu_column t.exercise i k)) task.has.sheet

  pub start_fits : (rest : Option ℕ) → IsStart tables.exercise tables.sheet rest → IsPotential (stating rest)
  start_fits rest least =
      subst (λ (sum : Option ℕ). IsPotential (stating sum)) (sym (start_is rest least))
      (start_small t.exercise t.sheet task.small task.case.valid)

  pub rest_fits : (i k : ℕ) (rest : Option ℕ) → i < columns_in t.exercise
      → IsRest tables.exercise tables.sheet i (menu_column tables.exercise i k) rest → IsPotential (stating rest)
  rest_fits i k rest within least =
      subst (λ (sum : Option ℕ). IsPotential (stating sum)) (sym (rest_is i k rest within least))
      (rest_small t.exercise t.sheet task.small task.case.valid i (menu_column t.exercise i k))

-- ---- the entries that are still to come

module _ (ex : Exercise) (sheet : Sheet) where
  pub from_place : (i n : ℕ) → i < n
      → entries_from ex sheet i (n - i) ≡ entries_at ex sheet i ++ entries_from ex sheet (i + 1) (n - (i + 1))
  from_place i n within =
      let more : n - i ≡ suc (n - (i + 1)) = omega (arith, within) in ap (entries_from ex sheet i) more

  empty : (i : ℕ) → length (menu_of ex i) ≡ 0 → entries_at ex sheet i ≡ []
  empty i none =
      nil_from_length (entries_at ex sheet i)
      (length-map (menu_of ex i) (λ col. stating (rest_behind ex sheet i col)) ∙ none)

  pub from_empty : (i n : ℕ) → i < n → length (menu_of ex i) ≡ 0
      → entries_from ex sheet i (n - i) ≡ entries_from ex sheet (i + 1) (n - (i + 1))
  from_empty i n within none =
      from_place i n within ∙ ap (λ entries. entries ++ entries_from ex sheet (i + 1) (n - (i + 1))) (empty i none)

  pub from_end : (i n : ℕ) → n ≤ i → entries_from ex sheet i (n - i) ≡ []
  from_end i n past = let none : n - i ≡ 0 = omega (arith, past) in ap (entries_from ex sheet i) none

  -- the entry of a column comes before those of the columns behind it
  pub here_first : (i k : ℕ) → k < length (menu_of ex i)
      → drop k (entries_at ex sheet i)
      ≡ stating (rest_behind ex sheet i (menu_column ex i k)) ∷ drop (k + 1) (entries_at ex sheet i)
  here_first i k within =
      let size = length-map (menu_of ex i) (λ col. stating (rest_behind ex sheet i col)) in
      drop-cons (entries_at ex sheet i) k NoChain (omega (arith, size, within))
      ∙ ap (λ entry. entry ∷ drop (suc k) (entries_at ex sheet i))
      (get_or-map (λ col. stating (rest_behind ex sheet i col)) (menu_of ex i) k [] NoChain within)
      ∙ ap (λ n. stating (rest_behind ex sheet i (menu_column ex i k)) ∷ drop n (entries_at ex sheet i)) (sym (add-one k))

  pub behind_last : (i k : ℕ) → length (menu_of ex i) ≤ k → drop k (entries_at ex sheet i) ≡ []
  behind_last i k past =
      let size = length-map (menu_of ex i) (λ col. stating (rest_behind ex sheet i col)) in
      drop_all k (entries_at ex sheet i) (omega (arith, size, past))

-- ---- the lines that come next

pub entry_next : (entries left : List Potential) (entry : Potential) (line last : List ℕ) → entries ≡ entry ∷ left
    → line ≡ potential_line entry → last ≡ last_line
    → flat_map potential_line entries ++ last_line ≡ line ++ (flat_map potential_line left ++ last)
entry_next entries left entry line last e is end =
    ap (λ all. flat_map potential_line all ++ last_line) e
    ∙ append_assoc (potential_line entry) (flat_map potential_line left) last_line
    ∙ ap (λ bs. bs ++ (flat_map potential_line left ++ last_line)) (sym is)
    ∙ ap (λ bs. line ++ (flat_map potential_line left ++ bs)) (sym end)

module _ (t : Matter) (old next : Stage) (entry : Potential) (line : List ℕ) (wrote : line ≡ potential_line entry)
    (last : last_left next ≡ last_line) where
  pub start_next : old ≡ Start
      → entries_left t next ≡ entries_from t.exercise t.sheet 0 (columns_in t.exercise - 0)
      → entry ≡ stating (rest_of t.exercise t.sheet []) → stage_text t old ≡ line ++ stage_text t next
  unfolding entries_of
  start_next is left e =
      let all : columns_in t.exercise ≡ columns_in t.exercise - 0 = omega arith in
      ap (stage_text t) is
      ∙ entry_next (entries_of t.exercise t.sheet) (entries_left t next) entry line (last_left next)
      (ap (λ first. first ∷ entries_from t.exercise t.sheet 0 (columns_in t.exercise)) (sym e)
      ∙ ap (λ later. entry ∷ later) (ap (entries_from t.exercise t.sheet 0) all ∙ sym left))
      wrote last

  pub column_next : (i k : ℕ) → k < length (menu_of t.exercise i) → old ≡ Column i k
      → entries_left t next
      ≡ drop (k + 1) (entries_at t.exercise t.sheet i)
      ++ entries_from t.exercise t.sheet (i + 1) (columns_in t.exercise - (i + 1))
      → entry ≡ stating (rest_behind t.exercise t.sheet i (menu_column t.exercise i k))
      → stage_text t old ≡ line ++ stage_text t next
  column_next i k within is left e =
      let later : List Potential = entries_from t.exercise t.sheet (i + 1) (columns_in t.exercise - (i + 1)) in
      ap (stage_text t) is
      ∙ entry_next (entries_left t (Column i k)) (entries_left t next) entry line (last_left next)
      (ap (λ here. here ++ later) (here_first t.exercise t.sheet i k within)
      ∙ ap (λ first. first ∷ (drop (k + 1) (entries_at t.exercise t.sheet i) ++ later)) (sym e)
      ∙ ap (λ behind. entry ∷ behind) (sym left))
      wrote last
