-- What the commands on mixed exercises make of the bytes of their files (`of_mixed_texts`), from
-- what is answered where the names or the sheet are refused (`refused_names`, `refused_sheet`) and
-- where they are not (`made_of_mixed`). A setting of the mixed exercise is a whole score of the
-- exercise (`is_whole`) and has its cantus (`has_cantus`).
use Rattle.std.proofs.Common.{◌≡◌, ℕ, List, [], ◌∷◌, Option, Result, Ok, Err, inl, inr, refl, ap, ◌∙◌, length, subst}
use Rattle.class_marker.specs.Markings.{IsContent, IsTheText}
use Rattle.class_marker.specs.declared.one.Text.{Text as Content}
use Rattle.fux_grid.specs.declared.exercise.Exercise.{Exercise}
use Rattle.fux_grid.specs.declared.cell.Cell.{Cell}
use Rattle.fux_grid.specs.Exercises.{HasCantus, IsComplete, IsValid, as_mixed, columns_in}
use Rattle.fux_grid.specs.Grid.{Grid}
use Rattle.species_space.specs.Naming.{AreFreelyNamed, all_species_with}
use Rattle.penalty_sheet.specs.declared.sheet.Sheet.{Sheet}
use Rattle.rule_law.specs.Prefixes.{IsSetting}
use Rattle.command_words.specs.declared.command.MixedJob.{MixedJob}
use Rattle.works.specs.declared.work.Output.{Output}
use Rattle.works.specs.declared.work.Stop.{Stop}
use Rattle.works.specs.declared.work.Stop.TheVariants as stop
use Rattle.works.specs.TaskFiles.{as_list}
use Rattle.command_words.specs.Commands.{on_mixed}
use Rattle.works.specs.Mixed.{MakesMixed, MakesOfMixed, NamesSpecies}
use Rattle.works.specs.Sheets.{ReadsSheet, sheet_said}
use Rattle.works.specs.Works.{Answers, AreContents, Files, Makes}
use Rattle.works.proofs.BestLemmas.{prefix_has_cantus}

pub of_mixed_texts : (files : Files) (name : List ℕ) (sheet : Option (List ℕ)) (named : List (Option ℕ)) (job : MixedJob)
    (text : Content) (weights : Option Content) (answer : Result Output Stop)
    → ((bytes : List ℕ) (sheets : List (List ℕ)) → IsContent 65536 text bytes
    → AreContents 65536 (as_list weights) sheets
    → Answers (MakesMixed named job sheets bytes) answer)
    → (all : List (List ℕ)) → AreContents 65536 (text ∷ as_list weights) all
    → Answers (Makes (on_mixed name sheet named job) files all) answer
of_mixed_texts files name sheet named job text weights (Ok output) made (bytes ∷ sheets) content =
    made bytes sheets content.0 content.1
of_mixed_texts files name sheet named job text weights (Err (stop.Refused refusal)) made (bytes ∷ sheets) content =
    made bytes sheets content.0 content.1
of_mixed_texts files name sheet named job text weights (Err stop.Memory) made all content = tt
of_mixed_texts files name sheet named job text weights (Ok output) made [] content = absurd content
of_mixed_texts files name sheet named job text weights (Err (stop.Refused refusal)) made [] content = absurd content

module _ (named : List (Option ℕ)) (job : MixedJob) (sheets : List (List ℕ)) (bytes : List ℕ) (ex : Exercise)
    (text : IsTheText bytes ex) where
  pub refused_names : (why : Stop) (answer : Result Output Stop) → NamesSpecies ex named (Err why) → answer ≡ Err why
      → Answers (MakesMixed named job sheets bytes) answer
  refused_names (stop.Refused refusal) answer cause e = rw e (inl record {
    exercise = ex;
    text = text;
    made = inr record { refusal = refusal; is = refl; cause = cause };
  })
  refused_names stop.Memory answer cause e = rw e tt

  module _ (free : AreFreelyNamed ex named) where
    pub refused_sheet : (why : Stop) (answer : Result Output Stop) → ReadsSheet sheets (Err why) → answer ≡ Err why
        → Answers (MakesMixed named job sheets bytes) answer
    refused_sheet (stop.Refused refusal) answer cause e = rw e (inl record {
      exercise = ex;
      text = text;
      made = inl record { free = free; made = inr record { refusal = refusal; is = refl; cause = cause } };
    })
    refused_sheet stop.Memory answer cause e = rw e tt

    pub made_of_mixed : (sheet : Sheet) (answer : Result Output Stop) → sheet_said sheets ≡ Ok sheet
        → Answers (MakesOfMixed job sheet ex (as_mixed ex (all_species_with ex named))) answer
        → Answers (MakesMixed named job sheets bytes) answer
    made_of_mixed sheet (Ok output) said made = inl record {
      exercise = ex;
      text = text;
      made = inl record { free = free; made = inl record { sheet = sheet; said = said; made = made } };
    }
    made_of_mixed sheet (Err (stop.Refused refusal)) said made = inl record {
      exercise = ex;
      text = text;
      made = inl record { free = free; made = inl record { sheet = sheet; said = said; made = made } };
    }
    made_of_mixed sheet (Err stop.Memory) said made = tt

module _ (ex mixed : Exercise) (species : List ℕ) (same : mixed ≡ as_mixed ex species) (s : List (List Cell))
    (setting : IsSetting mixed s) where
  pub is_whole : (score : Grid) → score ≡ record { voices = mixed.voices; columns = s } → IsComplete ex score
  is_whole score is = record {
    voices = ap (λ (g : Grid). g.voices) is ∙ ap (λ (e : Exercise). e.voices) same;
    whole = ap (λ (g : Grid). length g.columns) is ∙ setting.whole ∙ ap (λ (e : Exercise). columns_in e) same;
  }

  pub has_cantus : IsValid ex → HasCantus ex s
  has_cantus valid =
      let own = subst (λ (e : Exercise). IsSetting e s) same setting in
      prefix_has_cantus (as_mixed ex species) s valid.cantus_there own.prefix
