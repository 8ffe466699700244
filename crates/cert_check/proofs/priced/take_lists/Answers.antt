use Rattle.std.proofs.Common.{◌-◌, ◌++◌, ap, arith, drop, length, length-append, map, sym, ◌∙◌}
use Rattle.cert_file.specs.Readings.{Piece}
use Rattle.price_check.specs.Lists.{lists_text}
use Rattle.price_check.specs.PriceLines.{line_of}
use Rattle.price_check.proofs.WholeLists.{read_lists_fit}
use Rattle.cert_check.proofs.PricedLemmas.{used_up}
use Rattle.cert_check.proofs.priced.take_lists.Goals as goal

pub overflow_sub-lines : goal.overflow_sub-lines
overflow_sub-lines c =
    let lines = map line_of c.in-Ok.lines.items in
    let rest = c.in-Ok.rest.now in
    let fit = read_lists_fit c.args.ex.now lines c.ahead-ahead.result.now rest c.in-Ok.ensures in
    omega (arith, ap length fit.text, length-append (lists_text lines) rest)

pub returns-clause-taken : goal.returns-clause-taken
returns-clause-taken c =
    let lines = map line_of c.in-Ok.lines.items in
    let rest = c.in-Ok.rest.now in
    let fit = read_lists_fit c.args.ex.now lines c.ahead-ahead.result.now rest c.in-Ok.ensures in
    let bytes = c.ahead-ahead.ensures.bytes in
    record {
      lists = fit.lists;
      text = sym bytes ∙ fit.text
          ∙ ap (λ xs. lists_text lines ++ xs)
          (sym (ap (λ (p : Piece). p.ahead) c.use_up.ensures
          ∙ ap (drop (length c.ahead-ahead.result.now - length rest)) (sym bytes)
          ∙ used_up c.ahead-ahead.result.now (lists_text lines) rest fit.text));
      offset = ap (λ (p : Piece). p.offset) c.use_up.ensures;
    }
