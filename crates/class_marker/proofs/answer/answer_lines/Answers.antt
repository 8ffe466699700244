use Rattle.std.proofs.Common.{◌≡◌, ◌++◌, ◌∙◌, length, nat_lt, string_bytes, ap, refl, arith}
use Rattle.class_marker.specs.DifferenceLines.{difference_lines, differs_line}
use Rattle.class_marker.specs.Differences.{differences}
use Rattle.class_marker.proofs.answer.answer_lines.Goals as goal

pub returns : goal.returns
returns c =
    let ds = differences c.args.lesson.now c.args.answer.now c.args.score.now.columns in
    let marked = c.in_ok-marked.marked in
    let count = c.len-count.result in
    let many : count ≡ length ds = omega (arith, c.len-count.ensures, ap length c.in_ok-differences.ensures) in
    record {
      marked = marked;
      marks = c.in_ok-marked.ensures;
      text = c.in_ok-put_count.ensures ∙ ap (λ t. t ++ differs_line count) c.in_ok-push_str.ensures.bytes
          ∙ ap (λ t. (t ++ c.as_str.result.now) ++ differs_line count)
          (c.in_ok-put_differences.ensures ∙ ap (λ t. t ++ difference_lines c.deref.result.now) c.new-text.ensures.bytes)
          ∙ ap (λ d. (difference_lines d ++ c.as_str.result.now) ++ differs_line count)
          (c.deref.ensures.value ∙ c.in_ok-differences.ensures)
          ∙ ap (λ t. (difference_lines ds ++ t) ++ differs_line count) c.as_str.ensures.value
          ∙ ap (λ n. (difference_lines ds ++ string_bytes marked.text) ++ differs_line n) many;
      has_mark = refl;
      differs = ap (λ n. nat_lt 0 n) many;
    }
