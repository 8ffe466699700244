use Rattle.std.proofs.Common.{◌++◌, string_bytes, map, sym, ap, ◌∙◌, append_assoc}
use Rattle.std.proofs.lemmas.Result.{on_ok_weaker}
use Rattle.fux_text.specs.Lines.{given_words, text_before_given}
use Rattle.fux_text.specs.Words.{text_of}
use Rattle.fux_text.proofs.TextParts.{exercise_text-parts}
use Rattle.fux_text.proofs.exercise_lines.put_exercise.Goals as goal

pub returns : goal.returns
returns c =
    let ex = c.args.ex.now in
    let out = string_bytes c.args.out.now in
    on_ok_weaker c.put_given_lines.result
    (λ last. last
    ∙ ap (λ lines. string_bytes c.put_before_given.new.out ++ text_of (map given_words lines)) c.as_slice.ensures
    ∙ ap (λ text. text ++ text_of (map given_words ex.given)) c.in_ok-put_before_given.ensures
    ∙ append_assoc out (text_before_given ex) (text_of (map given_words ex.given))
    ∙ ap (λ text. out ++ text) (sym (exercise_text-parts ex)))
    c.put_given_lines.ensures
