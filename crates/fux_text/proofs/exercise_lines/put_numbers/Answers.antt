use Rattle.std.proofs.Common.{ℕ, List, ◌++◌, ◌∷◌, map, length, get_or, string_bytes, ap, ◌∙◌, sym, append_assoc, arith}
use Rattle.std.specs.Fmt.{decimal}
use Rattle.std.specs.List.{between, flat_map, join_with_byte}
use Rattle.std.proofs.lemmas.Result.{on_ok_weaker}
use Rattle.std.proofs.lemmas.Slice.{first_rest}
use Rattle.fux_text.proofs.WordLemmas.{join_with_byte-cons}
use Rattle.fux_text.proofs.exercise_lines.put_numbers.Goals as goal

pub returns-in_ok-write-in-len1-up : goal.returns-in_ok-write-in-len1-up
returns-in_ok-write-in-len1-up c =
    let numbers = c.args.numbers.now in
    let others = between 1 (length numbers) numbers in
    let out = string_bytes c.args.out.now in
    let rest : List ℕ = flat_map (λ word. 44 ∷ word) (map decimal others) in
    on_ok_weaker c.put_more_numbers.result
    (λ last. last
    ∙ ap (λ text. text ++ rest) c.in_ok-write-in-len1-up.ensures.bytes
    ∙ append_assoc out (decimal (get_or numbers 0 0)) rest
    ∙ ap (λ text. out ++ text) (sym (join_with_byte-cons 44 (decimal (get_or numbers 0 0)) (map decimal others)))
    ∙ ap (λ all. out ++ join_with_byte 44 (map decimal all)) (sym (first_rest numbers 0 (omega arith))))
    c.put_more_numbers.ensures
