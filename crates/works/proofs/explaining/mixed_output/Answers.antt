use Rattle.std.proofs.Common.{List, ℕ, Err, inl, ap, ◌∙◌, subst}
use Rattle.std.proofs.lemmas.Result.{err_from_is_err_and}
use Rattle.fux_grid.specs.Exercises.{as_mixed}
use Rattle.class_marker.specs.Explanations.{ExplainsBy}
use Rattle.works.proofs.ExplainLemmas.{refuses_names}
use Rattle.works.proofs.explaining.mixed_output.Goals as goal

pub returns-in_err-species : goal.returns-in_err-species
returns-in_err-species c =
    let told = err_from_is_err_and c.from_residual.result c.from_residual.ensures.1 in
    refuses_names c.args.ex.now c.args.named.now c.in_err-species.field-0.0 c.from_residual.result
    c.in_err-species.ensures (told.1 ∙ ap Err told.2)

pub returns : goal.returns
returns c =
    let ex = c.args.ex.now in
    inl record {
      free = c.in_ok-species.ensures.0;
      made = record {
        told = c.in_ok-told.told;
        holds = subst (λ (species : List ℕ). ExplainsBy (as_mixed ex species) ex.setting c.in_ok-told.told)
            c.in_ok-species.ensures.1 c.in_ok-told.ensures;
        is = c.output_of.ensures;
      };
    }
