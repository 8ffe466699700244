use Rattle.std.proofs.Common.{◌++◌, string_bytes, codes}
use Rattle.class_marker.proofs.Pushed.{pushed}
use Rattle.class_marker.specs.Asked.{relax_words, told}
use Rattle.class_marker.proofs.relaxed.put_words.Goals as goal

pub returns : goal.returns
unfolding relax_words
returns c =
    let start = string_bytes c.args.out.now in
    let line = c.args.line.now in
    let t1 = told (codes "S") line.rule in
    let t2 = t1 ++ told (codes " may be broken in bars ") line.from in
    let t3 = t2 ++ told (codes " to ") line.to in
    pushed start t3 (told (codes " at a price of ") line.price)
    (pushed start t2 (told (codes " to ") line.to)
    (pushed start t1 (told (codes " may be broken in bars ") line.from)
    c.in_ok-write.ensures.bytes
    c.in_ok-write-2.ensures.bytes)
    c.in_ok-write-3.ensures.bytes)
    c.in_ok-write-4.ensures.bytes
