use Rattle.std.proofs.Common.{◌≡◌, sym, ◌∙◌}
use Rattle.text_lines.specs.declared.fault.TextFault.TheVariants.{At, Memory}
use Rattle.cert_text.proofs.SungScores.{written-lines_read}
use Rattle.cert_text.proofs.heads.best_head.Goals as goal

-- lines of a setting are read
pub unreachable-requires : goal.unreachable-requires
unreachable-requires c =
    let memory : c.in-Err-At.field-0 ≡ Memory =
    c.in-Err-At.ensures.only c.requires.lines.0
    (written-lines_read c.args.ex.now c.args.lines.now c.requires.lines.0 c.requires.valid c.requires.lines.1) in
    let both : At c.in-Err-At.field-0-0 c.in-Err-At.field-0-1 c.in-Err-At.field-0-2 ≡ Memory =
    sym c.in-Err-At.field-0-is ∙ memory in
    cc
