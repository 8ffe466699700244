use Rattle.std.proofs.Common.{◌≡◌, take, drop, sym, ◌∙◌}
use Rattle.text_lines.specs.Words.{words_of}
use Rattle.text_lines.proofs.Parts.{first-none, no_words, beyond, is_inked, word_found}
use Rattle.text_lines.proofs.places.Words.first.Goals as goal

pub returns-in_err-start : goal.returns-in_err-start
returns-in_err-start c =
    let line = c.args.self in
    rw c.from_residual.ensures
    (first-none (words_of line) (no_words line.line line.column line.rest.now
    (beyond is_inked line.rest.now (sym c.word_start.ensures.first ∙ c.in_err-start.was))))

pub returns : goal.returns
returns c =
    let line = c.args.self in
    let start = c.in_ok-start.start in
    let k = c.word_end-end.result in
    let parts : (c.split_at-2.result.0.now ≡ take k c.split_at.result.1.now)
    × (c.split_at-2.result.1.now ≡ drop k c.split_at.result.1.now)
    = (c.split_at-2.ensures.front, c.split_at-2.ensures.back) in
    rw (parts.0, parts.1)
    (word_found line.line line.column start line.rest.now c.split_at.result.1.now k
    (sym c.word_start.ensures.first ∙ c.in_ok-start.was) c.split_at.ensures.back c.word_end-end.ensures.value)
