use Rattle.std.proofs.Common.{List, ℕ, ap, ◌∙◌, sym, subst, []}
use Rattle.std.specs.Prelude.{Result}
use Rattle.std.specs.Str.Lines.{lines}
use Rattle.class_marker.specs.Lists.{Gives}
use Rattle.class_marker.proofs.ListLemmas.{none_listed, some_listed}
use Rattle.class_marker.specs.LooseLists.{names_from}
use Rattle.class_marker.proofs.loose_list.read_loose_list.Goals as goal

abbrev says : List ℕ → Result (List (List ℕ)) ℕ
says bytes = names_from 1 [] (lines bytes)

pub returns-in-Some : goal.returns-in-Some
returns-in-Some c = λ bytes content.
    let listed = c.in-Some.ensures.text bytes content in
    subst (Gives c.names_in.result) (ap says listed.1 ∙ sym (some_listed says bytes listed.0)) c.names_in.ensures

pub returns-in-None : goal.returns-in-None
returns-in-None c = λ bytes content. none_listed says bytes (c.in-None.ensures.text bytes content)
