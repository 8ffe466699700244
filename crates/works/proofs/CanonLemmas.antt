-- What `canon` makes of the bytes of its files (`of_canon`), and of a text that is too long
-- (`long_refused`), and what is told of the canons of a space (`tells_canon`).
use Rattle.std.proofs.Common.{◌≡◌, ◌<◌, ℕ, List, [], ◌∷◌, Option, Result, Ok, Err, true, length, refl, subst, arith}
use Rattle.std.proofs.lemmas.Bool.Decides.{nat_tests}
use Rattle.std.specs.Prelude.{nat_lt}
use Rattle.canon_space.specs.declared.canon.Canon.{Canon}
use Rattle.canon_space.specs.Paths.{bars_at}
use Rattle.canon_space.specs.Tasks.{CanonTask}
use Rattle.canon_space.specs.Texts.{canon_of}
use Rattle.canon_space.specs.Trees.{canons}
use Rattle.class_marker.specs.Markings.{IsContent}
use Rattle.class_marker.specs.declared.one.Text.{Text as Content}
use Rattle.penalty_sheet.specs.declared.sheet.Sheet.{Sheet}
use Rattle.works.specs.declared.work.Output.{Output}
use Rattle.works.specs.declared.work.Stop.{Stop}
use Rattle.works.specs.declared.work.Stop.TheVariants as stop
use Rattle.works.specs.declared.work.Verdict.{Verdict}
use Rattle.works.specs.TaskFiles.{as_list}
use Rattle.command_words.specs.Commands.{find_canon}
use Rattle.command_words.specs.declared.command.Search.{Search}
use Rattle.works.specs.Imitated.{MakesCanon, TellsCanon, canon_answer}
use Rattle.works.specs.Told.{TellsPath, TellsSought}
use Rattle.works.specs.Works.{Answers, AreContents, Files, Makes}
use Rattle.works.proofs.ToldLemmas.{of_found, told_as}

pub of_canon : (files : Files) (name : List ℕ) (sheet : Option (List ℕ)) (search : Search) (text : Content)
    (weights : Option Content) (answer : Result Output Stop)
    → ((bytes : List ℕ) (sheets : List (List ℕ)) → IsContent 65536 text bytes
    → AreContents 65536 (as_list weights) sheets
    → Answers (MakesCanon search sheets bytes) answer)
    → (all : List (List ℕ)) → AreContents 65536 (text ∷ as_list weights) all
    → Answers (Makes (find_canon name sheet search) files all) answer
of_canon files name sheet search text weights (Ok output) made (bytes ∷ sheets) content =
    made bytes sheets content.0 content.1
of_canon files name sheet search text weights (Err (stop.Refused refusal)) made (bytes ∷ sheets) content =
    made bytes sheets content.0 content.1
of_canon files name sheet search text weights (Err stop.Memory) made all content = tt
of_canon files name sheet search text weights (Ok output) made [] content = absurd content
of_canon files name sheet search text weights (Err (stop.Refused refusal)) made [] content = absurd content

-- a text of more than 65,536 bytes is at fault in its first line
pub long_refused : (bytes : List ℕ) → 65536 < length bytes → canon_of bytes ≡ Err 1
unfolding canon_of
long_refused bytes long =
    let more : nat_lt 65536 (length bytes) ≡ true = grind (arith, nat_tests) in
    rw more refl

-- what is told of the canons of a space is told of those that a text asks for
pub tells_canon : (text : List ℕ) (space : CanonTask) (canon : Canon) (sheet : Sheet) (search : Search) (verdict : Verdict)
    (bytes : List ℕ)
    → space ≡ record { canon = canon; sheet = sheet }
    → TellsSought (canons space.canon space.sheet) search.before search.budget
    (TellsPath bars_at (λ path penalty written. written ≡ canon_answer text (bars_at path) penalty)) verdict bytes
    → TellsCanon text canon sheet search verdict bytes
tells_canon text space canon sheet search verdict bytes is told =
    subst (λ (s : CanonTask). TellsCanon text s.canon s.sheet search verdict bytes) is
    (told_as (canons space.canon space.sheet) search.before search.budget _ _ (of_found bars_at (canon_answer text)) verdict
    bytes told)
