use Rattle.std.proofs.Common.{List, ℕ, subst}
use Rattle.text_faults.specs.declared.found.FoundFault.{FoundFault}
use Rattle.text_faults.specs.Explained.{TellsFaults}
use Rattle.works.specs.Texts.{RefusesText}
use Rattle.works.proofs.ExplainLemmas.{faults_told}
use Rattle.works.proofs.explaining.refused_output.Goals as goal

pub returns-in_ok-faults_output-in-Text : goal.returns-in_ok-faults_output-in-Text
returns-in_ok-faults_output-in-Text c = λ bytes same refuses.
    let first : FoundFault = record { kind = c.in-Text.kind; line = c.in-Text.line; column = c.in-Text.column } in
    let output = c.in_ok-faults_output-in-Text.field-0 in
    faults_told c.args.name.now bytes first output (subst (RefusesText bytes) c.in-Text.is refuses)
    (subst (λ (shown : List ℕ). TellsFaults c.args.name.now shown first output.bytes) same
    c.in_ok-faults_output-in-Text.ensures.told)
    c.in_ok-faults_output-in-Text.ensures.verdict
