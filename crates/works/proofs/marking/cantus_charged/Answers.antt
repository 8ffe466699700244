use Rattle.std.proofs.Common.{◌++◌, string_bytes, ap, ◌∙◌}
use Rattle.works.specs.declared.work.Output.{Output}
use Rattle.works.proofs.marking.cantus_charged.Goals as goal

pub returns : goal.returns
returns c = record {
  lines = c.in_ok-lines.lines;
  told = record {
    marks = c.in_ok-marks.marks.items;
    exact = c.in_ok-marks.ensures;
    told = rw c.deref.ensures.value at c.in_ok-lines.ensures;
  };
  bytes =
      ap (λ (o : Output). o.bytes) c.in_ok-output_above.ensures
      ∙ ap (λ text. string_bytes c.in_ok-lines.lines.text ++ text) (c.as_str.ensures.value ∙ c.in_ok-text.ensures);
  verdict = ap (λ (o : Output). o.verdict) c.in_ok-output_above.ensures;
}
