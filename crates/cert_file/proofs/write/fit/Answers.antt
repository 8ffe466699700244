use Rattle.std.proofs.Common.{◌++◌, length, ap, sym, ◌∙◌, arith, length-append}
use Rattle.cert_file.proofs.KeptLemmas.{kept_end, kept_more}
use Rattle.cert_file.proofs.write.fit.Goals as goal

pub loop-line-preserved : goal.loop-line-preserved
loop-line-preserved g c =
    let source = c.args.source.now in
    let later = g.S.LineSource.left source c.next_line.new.place in
    let text = c.in-Some.ensures.text ∙ ap (λ bs. bs ++ later) (sym c.as_str-text.ensures.value) in
    let size = ap length text ∙ length-append c.as_str-text.result.now later in
    record {
      stands = c.next_line.ensures.stands;
      left = omega (arith, size, c.loop-line.invariant.left);
      kept =
          kept_more c.loop-line.kept c.keep.new.self c.as_str-text.result.now
          (g.S.LineSource.left source c.loop-line.place) later (g.S.LineSource.left source c.args.place.now)
          c.keep.ensures text c.loop-line.invariant.kept;
    }

pub returns-clause-kept : goal.returns-clause-kept
returns-clause-kept g c =
    let source = c.args.source.now in
    kept_end c.loop-line.kept (g.S.LineSource.left source c.loop-line.place)
    (g.S.LineSource.left source c.args.place.now) c.in_default.ensures.text c.loop-line.invariant.kept
