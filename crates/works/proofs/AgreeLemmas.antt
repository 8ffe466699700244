-- `compose` and `best` make the same of the same files, where neither is spent
-- (`best_is_composed`), and `best` with no lower budget is spent only where `compose` is
-- (`best_ends_as_composed`).
use Rattle.std.proofs.Common.{◌≡◌, ◌≢◌, ℕ, ◌+◌, ◌<◌, ◌≤◌, ◌++◌, ◌⊎◌, inl, inr, List, Result, Ok, Err, length, refl, sym, ap, ap₂, subst, ◌∙◌, arith}
use Rattle.std.proofs.lemmas.Bool.{cases_lt}
use Rattle.fux_grid.specs.declared.cell.Cell.{Cell}
use Rattle.fux_grid.specs.declared.exercise.Exercise.{Exercise}
use Rattle.fux_grid.specs.declared.exercise.Place.{Place}
use Rattle.fux_grid.specs.Exercises.{bar_of, slot_of}
use Rattle.fux_grid.specs.Menus.{menu_of}
use Rattle.fux_grid.specs.Order.{IsEarlier}
use Rattle.fux_grid.proofs.OrderLemmas.{earlier-cases, earlier-chained, earlier-itself}
use Rattle.tree_search.specs.Quests.{HasAtMost, HasMany, IsLiveBegun, IsLoaded}
use Rattle.floor_tables.specs.Tables.{IsTooWide}
use Rattle.fux_judge.specs.Penalties.{penalty_of}
use Rattle.fux_text.specs.declared.fault.TextKind.{TextKind}
use Rattle.fux_text.specs.Lines.{setting_text}
use Rattle.fux_text.specs.Texts.{HasFault}
use Rattle.fux_text.proofs.ReadTexts.{texts-faultless, texts-one_fault}
use Rattle.penalty_sheet.specs.declared.fault.SheetFault.{SheetFault}
use Rattle.penalty_sheet.specs.declared.sheet.Sheet.{Sheet}
use Rattle.species_space.specs.Loads.{IsBest, IsBestWithin}
use Rattle.species_space.specs.Trees.{settings}
use Rattle.command_words.specs.declared.command.Job.TheVariants.{Best, Compose}
use Rattle.works.specs.declared.refusal.Refusal.{Refusal}
use Rattle.works.specs.declared.refusal.Refusal.TheVariants as refusal
use Rattle.works.specs.declared.work.Output.{Output}
use Rattle.works.specs.declared.work.Verdict.{Verdict}
use Rattle.works.specs.declared.work.Verdict.TheVariants.{Favorable, Unfavorable, Spent}
use Rattle.works.specs.Composed.{Composes, ComposesSharply, Tells, TellsBest, TellsSharply, penalty_line}
use Rattle.works.specs.Searched.{IsBestOf, IsNarrow, RefusesWidth}
use Rattle.works.specs.Sheets.{OnSheet, RefusesSheet, sheet_said}
use Rattle.works.specs.Texts.{OnText, RefusesText, Work}
use Rattle.works.specs.Works.{BestEndsAsComposed, BestIsComposed, IsUnspent, MakesOfText}

-- ---- what the texts tell

-- there is one best setting
pub best_is_one : (ex : Exercise) (sheet : Sheet) (s t : List (List Cell)) → IsBest ex sheet s → IsBest ex sheet t → s ≡ t
best_is_one ex sheet s t one other =
    decide (earlier-cases s t (one.lawful.setting.whole ∙ sym other.lawful.setting.whole))
  where
    level : penalty_of ex sheet s ≡ penalty_of ex sheet t
    level =
        let no_more : penalty_of ex sheet s ≤ penalty_of ex sheet t = one.least t other.lawful in
        let no_less : penalty_of ex sheet t ≤ penalty_of ex sheet s = other.least s one.lawful in
        omega (arith, no_more, no_less)

    decide : IsEarlier s t ⊎ ((s ≡ t) ⊎ IsEarlier t s) → s ≡ t
    decide (inl before) =
        let P : List (List Cell) → Type 0 = λ u. IsEarlier s u in
        absurd (earlier-itself s (earlier-chained s t s before
        (other.first s one.lawful level (λ same. earlier-itself s (subst P same before)))))
    decide (inr (inl same)) = same
    decide (inr (inr after)) =
        let P : List (List Cell) → Type 0 = λ u. IsEarlier t u in
        absurd (earlier-itself t (earlier-chained t s t after
        (one.first t other.lawful (sym level) (λ same. earlier-itself t (subst P same after)))))

-- so there is one text of it
same_best : (ex : Exercise) (sheet : Sheet) (budget : ℕ) (one two : List ℕ)
    → TellsBest ex (IsBestWithin ex sheet budget) one → TellsBest ex (IsBestOf ex sheet) two → one ≡ two
same_best ex sheet budget one two told other =
    let same : told.setting ≡ other.setting = best_is_one ex sheet told.setting other.setting told.best.best
    other.best.best in
    let level : told.penalty ≡ other.penalty = told.best.charged ∙ ap (penalty_of ex sheet) same
    ∙ sym other.best.charged in
    told.spelled ∙ ap₂ (λ s penalty. setting_text ex s ++ penalty_line penalty) same level ∙ sym other.spelled

same_told : (ex : Exercise) (sheet : Sheet) (budget other_budget : ℕ) (v w : Verdict) (one two : List ℕ)
    → Tells ex sheet budget v one → TellsSharply ex sheet other_budget w two → v ≢ Spent → w ≢ Spent → (v ≡ w) × (one ≡ two)
same_told ex sheet budget other_budget Favorable Favorable one two told other unspent its =
    (refl, same_best ex sheet budget one two told other)
same_told ex sheet budget other_budget Favorable Unfavorable one two told other unspent its =
    absurd (other.none told.setting told.best.best.lawful)
same_told ex sheet budget other_budget Unfavorable Favorable one two told other unspent its =
    absurd (told.none.none other.setting other.best.best.lawful)
same_told ex sheet budget other_budget Unfavorable Unfavorable one two told other unspent its =
    (refl, told.spelled ∙ sym other.spelled)
same_told ex sheet budget other_budget Spent w one two told other unspent its = absurd (unspent refl)
same_told ex sheet budget other_budget v Spent one two told other unspent its = absurd (its refl)

-- no more than so many are no more than that
pub few_or_many : (Kind : List (List Cell) → Type 0) (count more : ℕ) → count ≤ more → HasAtMost Kind count
    → HasMany Kind (more + 1) → ⊥
few_or_many Kind count more within few many =
    let short = few many.lists many.differ many.kind in omega (arith, within, short, many.counted)

-- where `compose` tells no bound, `best` with no lower budget tells none
ends_told : (ex : Exercise) (sheet : Sheet) (budget other_budget : ℕ) (v w : Verdict) (one two : List ℕ)
    → budget ≤ other_budget → Tells ex sheet budget v one → TellsSharply ex sheet other_budget w two → v ≢ Spent
    → w ≢ Spent
ends_told ex sheet budget other_budget v Favorable one two within told other unspent = λ same. cc
ends_told ex sheet budget other_budget v Unfavorable one two within told other unspent = λ same. cc
ends_told ex sheet budget other_budget Favorable Spent one two within told other unspent = λ same.
    few_or_many (IsLoaded (settings ex sheet) (penalty_of ex sheet told.setting)) budget other_budget within
    (subst (λ (penalty : ℕ). HasAtMost (IsLoaded (settings ex sheet) penalty) budget) told.best.charged told.best.load)
    (other.is_bound.over.load told.setting told.best.best)
ends_told ex sheet budget other_budget Unfavorable Spent one two within told other unspent = λ same.
    few_or_many (IsLiveBegun (settings ex sheet)) budget other_budget within told.none.load (other.is_bound.over.whole told.none.none)
ends_told ex sheet budget other_budget Spent Spent one two within told other unspent = absurd (unspent refl)

-- ---- what the refusals tell

-- a refusal of a width, of a text and of a sheet
abbrev WidthOf : Exercise → Refusal → Type 0
WidthOf ex said = (place : Place) × (count : ℕ) × (said ≡ refusal.TooWide place count) × IsTooWide ex place count

abbrev TextOf : List ℕ → Refusal → Type 0
TextOf bytes said = (kind : TextKind) × (line : ℕ) × (column : ℕ) × (said ≡ refusal.Text kind line column)
    × HasFault bytes kind line column

abbrev SheetOf : List (List ℕ) → Refusal → Type 0
SheetOf sheets said = (fault : SheetFault) × (said ≡ refusal.Sheet fault) × (sheet_said sheets ≡ Err fault)

pub width_of : (ex : Exercise) (said : Refusal) → RefusesWidth ex said → WidthOf ex said
width_of ex (refusal.TooWide place count) h = (place, count, refl, h)
width_of ex (refusal.Text kind line column) h = absurd h
width_of ex refusal.NoSetting h = absurd h
width_of ex (refusal.Lesson kind line column) h = absurd h
width_of ex (refusal.With voice) h = absurd h
width_of ex (refusal.List line) h = absurd h
width_of ex (refusal.Canon line) h = absurd h
width_of ex refusal.LongCertificate h = absurd h
width_of ex refusal.LargeGraph h = absurd h
width_of ex (refusal.Sheet fault) h = absurd h
width_of ex (refusal.Midi fault) h = absurd h
width_of ex (refusal.Join fault) h = absurd h

pub text_of : (bytes : List ℕ) (said : Refusal) → RefusesText bytes said → TextOf bytes said
text_of bytes (refusal.Text kind line column) h = (kind, line, column, refl, h)
text_of bytes (refusal.TooWide place count) h = absurd h
text_of bytes refusal.NoSetting h = absurd h
text_of bytes (refusal.Lesson kind line column) h = absurd h
text_of bytes (refusal.With voice) h = absurd h
text_of bytes (refusal.List line) h = absurd h
text_of bytes (refusal.Canon line) h = absurd h
text_of bytes refusal.LongCertificate h = absurd h
text_of bytes refusal.LargeGraph h = absurd h
text_of bytes (refusal.Sheet fault) h = absurd h
text_of bytes (refusal.Midi fault) h = absurd h
text_of bytes (refusal.Join fault) h = absurd h

pub sheet_of : (sheets : List (List ℕ)) (said : Refusal) → RefusesSheet sheets said → SheetOf sheets said
sheet_of sheets (refusal.Sheet fault) h = (fault, refl, h)
sheet_of sheets (refusal.TooWide place count) h = absurd h
sheet_of sheets (refusal.Text kind line column) h = absurd h
sheet_of sheets refusal.NoSetting h = absurd h
sheet_of sheets (refusal.Lesson kind line column) h = absurd h
sheet_of sheets (refusal.With voice) h = absurd h
sheet_of sheets (refusal.List line) h = absurd h
sheet_of sheets (refusal.Canon line) h = absurd h
sheet_of sheets refusal.LongCertificate h = absurd h
sheet_of sheets refusal.LargeGraph h = absurd h
sheet_of sheets (refusal.Midi fault) h = absurd h
sheet_of sheets (refusal.Join fault) h = absurd h

pub not_wide : (ex : Exercise) (place : Place) (count : ℕ) → IsNarrow ex → IsTooWide ex place count → ⊥
not_wide ex place count narrow wide =
    let few = narrow wide.column wide.within in omega (arith, few, wide.width, wide.wide)

-- the first menu that is too wide is one
pub same_width : (ex : Exercise) (place other : Place) (count its : ℕ) → IsTooWide ex place count → IsTooWide ex other its
    → refusal.TooWide place count ≡ refusal.TooWide other its
same_width ex place other count its wide too =
    let level : wide.column ≡ too.column = one_column (cases_lt wide.column too.column) (cases_lt too.column wide.column) in
    ap₂ (λ at n. refusal.TooWide at n)
    (one_place (wide.bar ∙ ap bar_of level ∙ sym too.bar) (wide.slot ∙ ap slot_of level ∙ sym too.slot))
    (wide.width ∙ ap (λ c. length (menu_of ex c)) level ∙ sym too.width)
  where
    one_column : (wide.column < too.column) ⊎ (too.column ≤ wide.column)
        → (too.column < wide.column) ⊎ (wide.column ≤ too.column) → wide.column ≡ too.column
    one_column (inl less) rest =
        let few = too.first wide.column less in absurd (omega (arith, few, wide.width, wide.wide))
    one_column (inr more) (inl less) =
        let few = wide.first too.column less in absurd (omega (arith, few, too.width, too.wide))
    one_column (inr more) (inr less) = omega (arith, more, less)

    one_place : place.bar ≡ other.bar → place.slot ≡ other.slot → place ≡ other
    one_place bar slot =
        let made : ℕ → ℕ → Place = λ b s. record { bar = b; slot = s } in
        ap₂ made bar slot

-- ---- work

ends_made : (budget other : ℕ) (sheet : Sheet) (ex : Exercise) (one two : Work) → budget ≤ other
    → Composes budget sheet ex one → ComposesSharply other sheet ex two → IsUnspent one → IsUnspent two
ends_made budget other sheet ex (Ok output) (Ok its) within told sharp unspent =
    ends_told ex sheet budget other output.verdict its.verdict output.bytes its.bytes within told.tells sharp.tells unspent
ends_made budget other sheet ex (Err said) (Ok its) within told sharp unspent =
    let wide = width_of ex said told in absurd (not_wide ex wide.0 wide.1 sharp.narrow wide.3)
ends_made budget other sheet ex one (Err said) within told sharp unspent = tt

same_made : (budget other_budget : ℕ) (sheet : Sheet) (ex : Exercise) (one two : Work) → Composes budget sheet ex one
    → ComposesSharply other_budget sheet ex two → IsUnspent one → IsUnspent two → one ≡ two
same_made budget other_budget sheet ex (Ok output) (Ok other) told its unspent too =
    let same = same_told ex sheet budget other_budget output.verdict other.verdict output.bytes other.bytes told.tells its.tells
    unspent too in
    ap Ok (one_output same.0 same.1)
  where
    one_output : output.verdict ≡ other.verdict → output.bytes ≡ other.bytes → output ≡ other
    one_output verdict bytes =
        let made : Verdict → List ℕ → Output = λ v text. record { verdict = v; bytes = text } in
        ap₂ made verdict bytes
same_made budget other_budget sheet ex (Ok output) (Err said) told its unspent too =
    let wide = width_of ex said its in absurd (not_wide ex wide.0 wide.1 told.narrow wide.3)
same_made budget other_budget sheet ex (Err said) (Ok other) told its unspent too =
    let wide = width_of ex said told in absurd (not_wide ex wide.0 wide.1 its.narrow wide.3)
same_made budget other_budget sheet ex (Err said) (Err other) told its unspent too =
    let wide = width_of ex said told in
    let too_wide = width_of ex other its in
    ap Err (wide.2 ∙ same_width ex wide.0 too_wide.0 wide.1 too_wide.1 wide.3 too_wide.3 ∙ sym too_wide.2)

module _ (Made Made' : Sheet → Work → Type 0) (sheets : List (List ℕ)) (one two : Work)
    (so : (sheet : Sheet) → Made sheet one → Made' sheet two → one ≡ two) where
  pub same_over : OnSheet Made sheets one → OnSheet Made' sheets two → one ≡ two
  same_over (inl made) (inl its) =
      let same : made.sheet ≡ its.sheet = said_once (sheet_said sheets) made.sheet its.sheet made.said its.said in
      so its.sheet (subst (λ (s : Sheet). Made s one) same made.made) its.made
    where
      said_once : (said : Result Sheet SheetFault) (a b : Sheet) → said ≡ Ok a → said ≡ Ok b → a ≡ b
      said_once said a b h k = cc
  same_over (inl made) (inr its) =
      let fault = sheet_of sheets its.refusal its.cause in
      absurd (no_fault (sheet_said sheets) made.sheet fault.0 made.said fault.2)
    where
      no_fault : (said : Result Sheet SheetFault) (a : Sheet) (f : SheetFault) → said ≡ Ok a → said ≡ Err f → ⊥
      no_fault said a f h k = cc (h, k)
  same_over (inr made) (inl its) =
      let fault = sheet_of sheets made.refusal made.cause in
      absurd (no_fault (sheet_said sheets) its.sheet fault.0 its.said fault.2)
    where
      no_fault : (said : Result Sheet SheetFault) (a : Sheet) (f : SheetFault) → said ≡ Ok a → said ≡ Err f → ⊥
      no_fault said a f h k = cc (h, k)
  same_over (inr made) (inr its) =
      let fault = sheet_of sheets made.refusal made.cause in
      let other = sheet_of sheets its.refusal its.cause in
      made.is ∙ ap Err (fault.1 ∙ ap (λ f. refusal.Sheet f) (one_fault (sheet_said sheets) fault.0 other.0 fault.2 other.2)
      ∙ sym other.1) ∙ sym its.is
    where
      one_fault : (said : Result Sheet SheetFault) (f g : SheetFault) → said ≡ Err f → said ≡ Err g → f ≡ g
      one_fault said f g h k = cc

module _ (Made Made' : Exercise → Work → Type 0) (bytes : List ℕ) (one two : Work)
    (so : (ex : Exercise) → Made ex one → Made' ex two → one ≡ two) where
  pub same_on : OnText Made bytes one → OnText Made' bytes two → one ≡ two
  same_on (inl made) (inl its) =
      let same : made.exercise ≡ its.exercise = made.text.only its.exercise its.text.text in
      so its.exercise (subst (λ (ex : Exercise). Made ex one) same made.made) its.made
  same_on (inl made) (inr its) =
      let fault = text_of bytes its.refusal its.cause in
      absurd (texts-faultless bytes made.exercise fault.0 fault.1 fault.2 made.text.text fault.4)
  same_on (inr made) (inl its) =
      let fault = text_of bytes made.refusal made.cause in
      absurd (texts-faultless bytes its.exercise fault.0 fault.1 fault.2 its.text.text fault.4)
  same_on (inr made) (inr its) =
      let fault = text_of bytes made.refusal made.cause in
      let other = text_of bytes its.refusal its.cause in
      let same = texts-one_fault bytes fault.0 other.0 fault.1 fault.2 other.1 other.2 fault.4 other.4 in
      made.is ∙ ap Err (fault.3 ∙ one_text fault.0 other.0 fault.1 other.1 fault.2 other.2 same.0 same.1 same.2
      ∙ sym other.3) ∙ sym its.is
    where
      one_text : (kind other : TextKind) (line l column c : ℕ) → kind ≡ other → line ≡ l → column ≡ c
          → refusal.Text kind line column ≡ refusal.Text other l c
      one_text kind other line l column c same its level = rw (same, its, level) refl

-- what is so of the work on an exercise is so of that on a text
over_text : (budget other : ℕ) (sheets : List (List ℕ)) (text : List ℕ) (composed best : Work)
    → ((sheet : Sheet) (ex : Exercise) → Composes budget sheet ex composed → ComposesSharply other sheet ex best
    → composed ≡ best)
    → MakesOfText (Compose budget) sheets text composed → MakesOfText (Best other) sheets text best → composed ≡ best
over_text budget other sheets text composed best so made its =
    same_on (λ ex. OnSheet (λ sheet. Composes budget sheet ex) sheets)
    (λ ex. OnSheet (λ sheet. ComposesSharply other sheet ex) sheets) text composed best
    (λ ex. same_over (λ sheet. Composes budget sheet ex) (λ sheet. ComposesSharply other sheet ex) sheets composed best
    (λ sheet. so sheet ex)) made its

pub best_is_composed : BestIsComposed
best_is_composed budget other sheets text composed best made its unspent too =
    over_text budget other sheets text composed best
    (λ sheet ex one two. same_made budget other sheet ex composed best one two unspent too) made its

pub best_ends_as_composed : BestEndsAsComposed
best_ends_as_composed budget other sheets text composed best within made its unspent =
    over_text budget other sheets text composed best
    (λ sheet ex one two.
    same_made budget other sheet ex composed best one two unspent
    (ends_made budget other sheet ex composed best within one two unspent)) made its
