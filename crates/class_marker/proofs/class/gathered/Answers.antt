use Rattle.std.proofs.Common.{◌≡◌, ◌++◌, Ok, get_or, ap, ◌∙◌, refl, arith}
use Rattle.std.specs.Prelude.{string_bytes}
use Rattle.class_marker.specs.Reports.{marked_of, refused_of}
use Rattle.class_marker.proofs.ReportLemmas.{one_part}
use Rattle.class_marker.proofs.class.gathered.Goals as goal

pub loop-part-preserved : goal.loop-part-preserved
loop-part-preserved c =
    let parts = c.args.parts.now in
    let n = c.loop-part.part-index in
    let here : get_or parts n c.part-item.result ≡ Ok c.in-Ok.more = cc in
    let small = c.requires.small n c.part-item.result (omega arith) in
    record {
      so_far = one_part parts n c.part-item.result c.in-Ok.more c.loop-part.whole _ (omega arith) here
          c.loop-part.invariant.so_far
          (c.in_ok-push_str-in-Ok.ensures.bytes
          ∙ ap (λ more. string_bytes c.loop-part.whole.text ++ more) c.as_str.ensures.value)
          refl refl;
      marked = omega (arith, small.0, ap marked_of here);
      refused = omega (arith, small.1, ap refused_of here);
    }
