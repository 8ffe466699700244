-- What `compose`, `best` and `mixed` write of a best setting is read back (`composed_is_read`,
-- `best_is_read`, `mixed_is_read`).
use Rattle.std.proofs.Common.{◌≡◌, ℕ, suc, ◌<◌, ◌≤◌, Bool, true, false, List, [], ◌∷◌, length, Option, None, Some, Ok, Err, inl, inr, refl, sym, ap, subst, ◌∙◌, arith, length-append}
use Rattle.std.specs.Prelude.{All, ◌==◌, ◌&&◌, Contains, IsTrue, slice_index_or}
use Rattle.std.specs.List.{find}
use Rattle.std.proofs.lemmas.Bool.{eqb-true, ne_eqb}
use Rattle.class_marker.specs.Markings.{IsTheText}
use Rattle.fux_grid.specs.declared.cell.Cell.{Cell}
use Rattle.fux_grid.specs.declared.exercise.Exercise.{Exercise}
use Rattle.fux_grid.specs.declared.given.GivenBar.{GivenBar}
use Rattle.fux_grid.specs.Cells.{cell_in}
use Rattle.fux_grid.specs.Exercises.{FitsGiven, IsComplete, IsGivenBar, IsValid, as_mixed, bar_of, columns_in, given_at}
use Rattle.fux_grid.specs.Givens.{fits}
use Rattle.fux_grid.specs.Grid.{Grid}
use Rattle.fux_grid.specs.Menus.{cells_at}
use Rattle.fux_grid.proofs.CellLemmas.{cells_at-given}
use Rattle.fux_grid.proofs.GivenLemmas.{given_at-none}
use Rattle.command_words.specs.Commands.{mixing}
use Rattle.fux_text.specs.Lines.{setting_text}
use Rattle.fux_text.specs.Texts.{IsTextOf}
use Rattle.fux_text.proofs.OwnText.{note_text-back}
use Rattle.fux_text.proofs.ReadTexts.{texts-of_one}
use Rattle.penalty_sheet.specs.declared.sheet.Sheet.{Sheet}
use Rattle.rule_law.specs.Prefixes.{IsSetting}
use Rattle.species_space.specs.Loads.{IsBestWithin}
use Rattle.species_space.specs.MixedLoads as mixed
use Rattle.species_space.specs.Naming.{all_species_with}
use Rattle.works.specs.declared.refusal.Refusal.{Refusal}
use Rattle.works.specs.declared.work.Output.{Output}
use Rattle.works.specs.declared.work.Verdict.{Verdict}
use Rattle.works.specs.Composed.{Composes, ComposesSharply, Tells, TellsBest, TellsSharply, penalty_line}
use Rattle.works.specs.Mixed.{MakesOfMixed, OnNames, TellsMixed, TellsMixedSharply}
use Rattle.works.specs.ReadBack.{BestIsRead, ComposedIsRead, IsReadBack, MixedIsRead}
use Rattle.works.specs.Searched.{IsBestOf}
use Rattle.works.specs.Sheets.{OnSheet}
use Rattle.works.proofs.CertificateTexts.{setting_of}
use Rattle.works.proofs.Commented.{commented_text}

-- ---- a setting fits what is given

-- nothing is given to the cantus
none_of_cantus : (ex : Exercise) (v bar : ℕ) (lines : List GivenBar) → v ≡ ex.cantus_voice → All (IsGivenBar ex) lines
    → find (λ line. (line.voice == v) && (line.bar == bar)) lines ≡ None
none_of_cantus ex v bar [] same fit = refl
none_of_cantus ex v bar (line ∷ lines) same fit =
    let one = fit 0 line (omega arith) in
    let other : (line.voice == v) ≡ false = ne_eqb line.voice v (λ e. one.free.no_cantus (e ∙ same)) in
    rw other (none_of_cantus ex v bar lines same (λ k d lt. fit (suc k) d (omega arith)))

-- another exercise of the same voices, bars and cantus, to which the same is given
record IsAlike (ex other : Exercise) : Type 0 where
  pub voices : other.voices ≡ ex.voices
  pub columns : columns_in other ≡ columns_in ex
  pub cantus : other.cantus_voice ≡ ex.cantus_voice
  pub given : (i v : ℕ) → given_at other i v ≡ given_at ex i v

itself : (ex : Exercise) → IsAlike ex ex
itself ex = record { voices = refl; columns = refl; cantus = refl; given = λ i v. refl }

mixed_alike : (ex : Exercise) (species : List ℕ) → IsAlike ex (as_mixed ex species)
unfolding given_at
mixed_alike ex species = record { voices = refl; columns = refl; cantus = refl; given = λ i v. refl }

-- a cell that such another exercise has there fits what is given
cell_fits : (ex other : Exercise) (i v : ℕ) (c : Cell) → IsAlike ex other → IsValid ex → Contains (cells_at other i v) c
    → IsTrue (fits (given_at ex i v) c)
cell_fits ex other i v c alike valid among = by (v == ex.cantus_voice) refl
  where
    differ : (v == ex.cantus_voice) ≡ false → v ≡ ex.cantus_voice → ⊥
    differ e same = grind (arith, e, same)

    by : (b : Bool) → (v == ex.cantus_voice) ≡ b → IsTrue (fits (given_at ex i v) c)
    by true e =
        subst (λ given. IsTrue (fits given c))
        (given_at-none ex i v (none_of_cantus ex v (bar_of i) ex.given (eqb-true v ex.cantus_voice e) valid.given_fit)) refl
    by false e =
        subst (λ given. IsTrue (fits given c)) (alike.given i v)
        (cells_at-given other i v c (λ same. differ e (same ∙ alike.cantus)) among).1

-- so a setting of it fits
fits_given : (ex other : Exercise) (s : List (List Cell)) → IsAlike ex other → IsValid ex → IsSetting other s
    → FitsGiven ex s
fits_given ex other s alike valid setting i v within there =
    cell_fits ex other i v (cell_in (slice_index_or s i []) v) alike valid
    ((setting.prefix.menus i within).cells v (subst (λ n. v < n) (sym alike.voices) there))

-- ---- texts

-- the exercise of a text is within the limits and isn't mixed
text_parts : (text : List ℕ) (ex : Exercise) → IsTextOf text ex → IsValid ex × (ex.mixed ≡ None)
unfolding IsTextOf
text_parts text ex t = (t.valid, t.unmixed)

module _ (ex other : Exercise) (alike : IsAlike ex other) (AreBest : List (List Cell) → ℕ → Type 0)
    (settings : (s : List (List Cell)) (penalty : ℕ) → AreBest s penalty → IsSetting other s)
    (text bytes : List ℕ) (is : IsTheText text ex) (told : TellsBest ex AreBest bytes) (short : length bytes ≤ 65536) where
  abbrev score : Grid
  score = record { voices = ex.voices; columns = told.setting }

  setting : IsSetting other told.setting
  setting = settings told.setting told.penalty told.best

  own : IsTextOf (setting_text ex told.setting) (record ex { setting = Some score })
  own =
      let parts = text_parts text ex is.text in
      let complete : IsComplete ex score = record { voices = refl; whole = setting.whole ∙ alike.columns } in
      note_text-back ex (Some score) parts.0 parts.1 (setting_of ex other score alike.voices setting told.cantus complete)
      (fits_given ex other told.setting alike parts.0 setting)
      (omega (
        arith,
        short,
        ap length told.spelled,
        length-append (setting_text ex told.setting) (penalty_line told.penalty),
      ))

  read : IsTextOf bytes (record ex { setting = Some score })
  read =
      subst (λ (bs : List ℕ). IsTextOf bs (record ex { setting = Some score })) (sym told.spelled)
      (commented_text ex (record ex { setting = Some score }) told.setting told.penalty own
      (subst (λ (bs : List ℕ). length bs ≤ 65536) told.spelled short))

  read_back : IsReadBack text bytes
  read_back = record {
    exercise = ex;
    is = is;
    score = score;
    penalty = told.penalty;
    spelled = told.spelled;
    read = record {
      text = read;
      only = λ another its. texts-of_one bytes (record ex { setting = Some score }) another read its;
    };
  }

-- ---- the commands

no_refusal : (output : Output) (said : Refusal) → Ok output ≡ Err said → ⊥
no_refusal output said is = cc is

pub composed_is_read : ComposedIsRead
composed_is_read budget sheets text written (inl on) favorable short = over on.made
  where
    over : OnSheet (λ sheet. Composes budget sheet on.exercise) sheets (Ok written) → IsReadBack text written.bytes
    over (inl made) =
        read_back on.exercise on.exercise (itself on.exercise) (IsBestWithin on.exercise made.sheet budget)
        (λ s penalty best. best.best.lawful.setting) text written.bytes on.text
        (subst (λ (v : Verdict). Tells on.exercise made.sheet budget v written.bytes) favorable made.made.tells) short
    over (inr none) = absurd (no_refusal written none.refusal none.is)
composed_is_read budget sheets text written (inr none) favorable short =
    absurd (no_refusal written none.refusal none.is)

pub best_is_read : BestIsRead
best_is_read budget sheets text written (inl on) favorable short = over on.made
  where
    over : OnSheet (λ sheet. ComposesSharply budget sheet on.exercise) sheets (Ok written) → IsReadBack text written.bytes
    over (inl made) =
        read_back on.exercise on.exercise (itself on.exercise) (IsBestOf on.exercise made.sheet)
        (λ s penalty best. best.best.lawful.setting) text written.bytes on.text
        (subst (λ (v : Verdict). TellsSharply on.exercise made.sheet budget v written.bytes) favorable made.made.tells)
        short
    over (inr none) = absurd (no_refusal written none.refusal none.is)
best_is_read budget sheets text written (inr none) favorable short =
    absurd (no_refusal written none.refusal none.is)

abbrev mixed_of : Exercise → List (Option ℕ) → Exercise
mixed_of ex named = as_mixed ex (all_species_with ex named)

pub mixed_is_read : MixedIsRead
mixed_is_read named budget by_sharper sheets text written (inl on) favorable short = named_as on.made
  where
    of_made : (sharper : Bool) (sheet : Sheet)
        → MakesOfMixed (mixing budget sharper) sheet on.exercise (mixed_of on.exercise named) (Ok written)
        → IsReadBack text written.bytes
    of_made false sheet made =
        read_back on.exercise (mixed_of on.exercise named)
        (mixed_alike on.exercise (all_species_with on.exercise named))
        (mixed.IsBestWithin (mixed_of on.exercise named) sheet budget) (λ s penalty best. best.best.lawful.setting)
        text written.bytes on.text
        (subst (λ (v : Verdict). TellsMixed on.exercise (mixed_of on.exercise named) sheet budget v written.bytes)
        favorable made.tells) short
    of_made true sheet made =
        read_back on.exercise (mixed_of on.exercise named)
        (mixed_alike on.exercise (all_species_with on.exercise named))
        (IsBestOf (mixed_of on.exercise named) sheet) (λ s penalty best. best.best.lawful.setting) text written.bytes
        on.text
        (subst
        (λ (v : Verdict). TellsMixedSharply on.exercise (mixed_of on.exercise named) sheet budget v written.bytes)
        favorable made.tells) short

    over : OnSheet (λ sheet. MakesOfMixed (mixing budget by_sharper) sheet on.exercise (mixed_of on.exercise named))
        sheets (Ok written) → IsReadBack text written.bytes
    over (inl made) = of_made by_sharper made.sheet made.made
    over (inr none) = absurd (no_refusal written none.refusal none.is)

    named_as : OnNames
        (λ of_named. OnSheet (λ sheet. MakesOfMixed (mixing budget by_sharper) sheet on.exercise of_named) sheets)
        named on.exercise (Ok written) → IsReadBack text written.bytes
    named_as (inl free) = over free.made
    named_as (inr none) = absurd (no_refusal written none.refusal none.is)
mixed_is_read named budget by_sharper sheets text written (inr none) favorable short =
    absurd (no_refusal written none.refusal none.is)
