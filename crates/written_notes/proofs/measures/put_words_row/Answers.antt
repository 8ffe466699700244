use Rattle.std.proofs.Common.{◌++◌, string_bytes, codes}
use Rattle.written_notes.proofs.Pushed.{pushed}
use Rattle.written_notes.specs.Measures.{rules_words, words_row}
use Rattle.written_notes.proofs.measures.put_words_row.Goals as goal

pub returns : goal.returns
unfolding words_row
returns c =
    let start = string_bytes c.args.out.now in
    let t1 = codes "<direction placement=\"above\"><direction-type><words color=\"#C00000\">" in
    let t2 = t1 ++ rules_words c.args.rules.now in
    pushed start t2 (codes "</words></direction-type></direction>\n")
    (pushed start t1 (rules_words c.args.rules.now)
    c.in_ok-push_str.ensures.bytes c.in_ok-put_rules.ensures) c.in_ok-push_str-2.ensures.bytes
