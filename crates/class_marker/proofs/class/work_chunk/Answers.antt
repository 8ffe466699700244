use Rattle.std.proofs.Common.{◌+◌, ◌++◌, subst, zip, ap, ◌∙◌, arith}
use Rattle.std.specs.Prelude.{string_bytes}
use Rattle.std.proofs.lemmas.List.{take_all}
use Rattle.std.proofs.lemmas.Slice.Zip.{length-zip}
use Rattle.class_marker.specs.Reports.{Exercises, IsPart, has_mark, is_refused, report_of}
use Rattle.class_marker.proofs.ReportLemmas.{at_most_one, one_more}
use Rattle.class_marker.proofs.class.work_chunk.Goals as goal

pub loop-k-preserved : goal.loop-k-preserved
loop-k-preserved c =
    let part = c.loop-k.part in
    let marking = c.in_ok-marking.marking in
    record {
      so_far = one_more c.args.names.now c.args.texts.now c.loop-k.k c.index-names-k.result c.index-texts-k.result marking part _
          c.requires c.loop-k-test.true c.index-names-k.is c.index-texts-k.is c.in_ok-marking.ensures
          c.loop-k.invariant.so_far
          (c.in_ok-put_report.ensures
          ∙ ap (λ name. string_bytes part.text ++ report_of name marking) c.as_str.ensures.value)
          (ap (λ n. part.marked + n) c.marked.ensures) (ap (λ n. part.refused + n) c.refused.ensures);
      marked = omega (arith, c.loop-k.invariant.marked, c.marked.ensures, at_most_one (has_mark marking));
      refused = omega (arith, c.loop-k.invariant.refused, c.refused.ensures, at_most_one (is_refused marking));
    }

pub returns : goal.returns
returns c =
    let both : Exercises = zip c.args.names.now c.args.texts.now in
    subst (λ (es : Exercises). IsPart es c.loop-k.part)
    (take_all c.loop-k.k both (omega (arith, length-zip c.args.names.now c.args.texts.now))) c.loop-k.invariant.so_far
