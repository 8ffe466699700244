use Rattle.std.proofs.Common.{◌∷◌, ◌++◌, string_bytes, map, sym, ap, ◌∙◌}
use Rattle.std.proofs.lemmas.Result.{on_ok_weaker}
use Rattle.fux_text.specs.Lines.{cantus_words, head_lines, range_words, relax_words, version_of, version_words}
use Rattle.fux_text.specs.Words.{text_line, text_of}
use Rattle.fux_text.proofs.TextParts.{appended, text_before_given-parts}
use Rattle.fux_text.proofs.exercise_lines.put_before_given.Goals as goal

pub returns : goal.returns
returns c =
    let ex = c.args.ex.now in
    on_ok_weaker c.put_relax_lines.result
    (λ last. appended (string_bytes c.args.out.now) (string_bytes c.put_head.new.out)
    (string_bytes c.put_cantus.new.out) (string_bytes c.put_ranges.new.out) (string_bytes c.put_relax_lines.new.out)
    (text_of (version_words (version_of ex.given) ∷ head_lines ex)) (text_line (cantus_words ex)) (text_of (map range_words ex.ranges))
    (text_of (map relax_words ex.relax))
    c.in_ok-put_head.ensures c.in_ok-put_cantus.ensures
    (c.in_ok-put_ranges.ensures ∙ ap (λ lines. string_bytes c.put_cantus.new.out ++ text_of (map range_words lines))
    c.as_slice.ensures)
    (last ∙ ap (λ lines. string_bytes c.put_ranges.new.out ++ text_of (map relax_words lines)) c.as_slice-2.ensures)
    ∙ ap (λ text. string_bytes c.args.out.now ++ text) (sym (text_before_given-parts ex)))
    c.put_relax_lines.ensures
