-- The line of a new cantus is that of the cantus in an exercise's text, where the number of a voice
-- is put in (`new_cantus_is_read`).
use Rattle.std.proofs.Common.{◌≡◌, ℕ, Option, Some, None, List, [], ◌∷◌, ◌++◌, Ok, Err, codes, inl, inr, map, sym, ap, subst, ◌∙◌, append_assoc}
use Rattle.std.specs.Fmt.{decimal}
use Rattle.std.specs.List.{join_with_byte}
use Rattle.std.proofs.lemmas.List.{append-nil}
use Rattle.cantus_space.specs.declared.plan.CantusPlan.{CantusPlan}
use Rattle.cantus_space.specs.Lawful.{quest_of}
use Rattle.fux_pitch.specs.declared.pitch.Pitch.{Pitch}
use Rattle.fux_grid.specs.declared.exercise.Exercise.{Exercise}
use Rattle.fux_pitch.specs.Names.{name_of}
use Rattle.fux_text.specs.Lines.{cantus_words}
use Rattle.fux_text.specs.Words.{spaced, text_line}
use Rattle.works.specs.declared.refusal.Refusal.{Refusal}
use Rattle.works.specs.declared.work.Output.{Output}
use Rattle.works.specs.declared.work.Verdict.{Verdict}
use Rattle.works.specs.declared.work.Verdict.TheVariants.{Favorable}
use Rattle.works.specs.Composed.{TellsFound}
use Rattle.works.specs.Invented.{TellsCantus, cantus_answer, cantus_line, plan_of}
use Rattle.works.specs.ReadBack.{IsCantusRead, NewCantusIsRead, with_voice}
use Rattle.works.specs.Sheets.{prices_in_use}
use Rattle.works.specs.Told.{TellsSought}

joined : (word : List ℕ) (words : List (List ℕ)) → join_with_byte 32 (word ∷ words) ≡ word ++ spaced words
joined word [] = sym (append-nil word)
joined word (next ∷ words) = ap (λ rest. word ++ 32 ∷ rest) (joined next words)

own_line : (ex : Exercise) → with_voice ex.cantus_voice (cantus_line ex.cantus) ≡ text_line (cantus_words ex)
own_line ex =
    let voice = decimal ex.cantus_voice in
    let names = map name_of ex.cantus in
    sym (ap (λ rest. codes "cantus" ++ 32 ∷ rest)
    (ap (λ bytes. bytes ++ 10 ∷ []) (joined voice names) ∙ append_assoc voice (spaced names) (10 ∷ [])))

no_refusal : (output : Output) (said : Refusal) → Ok output ≡ Err said → ⊥
no_refusal output said is = cc is

found_read : {AreIt : List Pitch → ℕ → Type 0} (bytes : List ℕ) → TellsFound AreIt cantus_answer bytes
    → IsCantusRead bytes
found_read bytes told = record {
  cantus = told.found;
  penalty = told.penalty;
  spelled = told.spelled;
  read = λ ex same. subst (λ cantus. with_voice ex.cantus_voice (cantus_line cantus) ≡ text_line (cantus_words ex)) same
      (own_line ex);
}

sought_read : (plan : CantusPlan) (before : Option ℕ) (budget : ℕ) (bytes : List ℕ)
    → TellsSought (quest_of plan) before budget (λ AreIt. TellsFound AreIt cantus_answer) Favorable bytes
    → IsCantusRead bytes
sought_read plan None budget bytes told = found_read bytes told
sought_read plan (Some before) budget bytes told = found_read bytes told

pub new_cantus_is_read : NewCantusIsRead
new_cantus_is_read wanted search sheets written (inl over) favorable =
    let plan = plan_of wanted over.sheet (prices_in_use sheets) in
    sought_read plan search.before search.budget written.bytes
    (subst (λ (v : Verdict). TellsCantus plan search v written.bytes) favorable over.made)
new_cantus_is_read wanted search sheets written (inr none) favorable = absurd (no_refusal written none.refusal none.is)
