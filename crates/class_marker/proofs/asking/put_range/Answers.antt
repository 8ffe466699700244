use Rattle.std.proofs.Common.{◌++◌, string_bytes, codes}
use Rattle.class_marker.proofs.Pushed.{pushed, said}
use Rattle.class_marker.specs.Asked.{bars_words, ends_words, range_sentence}
use Rattle.class_marker.specs.Words.{part_name}
use Rattle.class_marker.proofs.asking.put_range.Goals as goal

pub returns : goal.returns
unfolding range_sentence
returns c =
    let start = string_bytes c.args.out.now in
    let line = c.args.line.now in
    let name = part_name c.args.voices line.voice in
    let t1 = codes "The range of the " in
    let t2 = t1 ++ name in
    let t3 = t2 ++ codes " voice is " in
    let t4 = t3 ++ ends_words line.low line.high in
    pushed start t4 (bars_words line.bars)
    (pushed start t3 (ends_words line.low line.high)
    (pushed start t2 (codes " voice is ")
    (pushed start t1 name c.in_ok-push_str.ensures.bytes
    (said (string_bytes c.push_str.new.self) c.in_ok-push_str-2.ensures.bytes c.part_name.ensures))
    c.in_ok-push_str-3.ensures.bytes)
    c.in_ok-put_ends.ensures)
    c.in_ok-put_bars.ensures
