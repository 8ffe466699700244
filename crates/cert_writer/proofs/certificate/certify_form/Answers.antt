use Rattle.std.proofs.Common.{◌≡◌, sym, ap, ◌∙◌, subst}
use Rattle.cert_law.proofs.CostBounds.{entries_small}
use Rattle.cert_law.proofs.PrefixTruths.{sound}
use Rattle.cert_law.specs.Certificates.{Holds}
use Rattle.cert_law.specs.Rests.{HasSmallWeights}
use Rattle.cert_text.specs.declared.answers.CertHead.{CertHead}
use Rattle.floor_tables.specs.Tables.{AreNarrow, Task}
use Rattle.fux_grid.specs.declared.exercise.Exercise.{Exercise}
use Rattle.fux_grid.specs.Exercises.{IsValid}
use Rattle.penalty_sheet.specs.declared.sheet.Sheet.{Sheet}
use Rattle.cert_writer.proofs.certificate.certify_form.Goals as goal

pub new-requires : goal.new-requires
new-requires g c =
    let there = c.exercise-exercise.ensures.value in
    record {
      valid = subst IsValid (sym there) c.exercise-exercise.ensures.valid;
      narrow = subst AreNarrow (sym there) c.tables-kept.ensures.narrow;
      same = ap (λ (t : Task). t.exercise) c.tables-kept.ensures.value ∙ sym there;
    }

pub write_for_head-requires : goal.write_for_head-requires
write_for_head-requires g c =
    let ex : Exercise = c.exercise-exercise.result.now in
    let sheet : Sheet = c.sheet-sheet.result.now in
    let head : CertHead = c.in-Ok.head in
    let there = c.exercise-exercise.ensures.value in
    let its = c.sheet-sheet.ensures in
    let same : c.in-Ok-new.tables ≡ c.args.space.now = c.in-Ok-new.ensures ∙ c.tables-kept.ensures.value in
    let holds : Holds ex sheet head =
    subst (λ (e : Exercise). Holds e sheet head) (sym there)
    (subst (λ (s : Sheet). Holds c.args.space.now.exercise s head) (sym its)
    (subst (λ (h : CertHead). Holds c.args.space.now.exercise c.args.space.now.sheet h) (sym c.in-Ok.ensures)
    c.requires.holds)) in
    record {
      task = record {
        case = record {
          valid = subst IsValid (sym there) c.exercise-exercise.ensures.valid;
          sound = sound ex sheet head holds;
        };
        unmixed = ap (λ (e : Exercise). e.mixed) there ∙ c.requires.unmixed;
        has = record {
          exercise = ap (λ (t : Task). t.exercise) same ∙ sym there;
          sheet = ap (λ (t : Task). t.sheet) same ∙ sym its;
          narrow = subst AreNarrow (sym there) c.tables-kept.ensures.narrow;
        };
        small = c.weights_are_small.ensures;
        holds = holds;
      };
    }

pub returns-in_default-clause-small : goal.returns-in_default-clause-small
returns-in_default-clause-small g c =
    entries_small c.args.space.now.exercise c.args.space.now.sheet
    (subst HasSmallWeights c.sheet-sheet.ensures c.weights_are_small.ensures) c.exercise-exercise.ensures.valid

pub returns-in_default-new-clause-small : goal.returns-in_default-new-clause-small
returns-in_default-new-clause-small g c =
    entries_small c.args.space.now.exercise c.args.space.now.sheet
    (subst HasSmallWeights c.sheet-sheet.ensures c.weights_are_small.ensures) c.exercise-exercise.ensures.valid

pub returns-clause-small : goal.returns-clause-small
returns-clause-small g c =
    entries_small c.args.space.now.exercise c.args.space.now.sheet
    (subst HasSmallWeights c.sheet-sheet.ensures c.weights_are_small.ensures) c.exercise-exercise.ensures.valid
