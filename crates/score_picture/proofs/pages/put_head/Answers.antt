use Rattle.std.proofs.Common.{◌++◌, string_bytes, codes}
use Rattle.score_picture.proofs.Pushed.{pushed}
use Rattle.score_picture.specs.declared.symbols.TheConstants.{SYMBOLS}
use Rattle.score_picture.specs.Pictures.{head, size}
use Rattle.score_picture.proofs.pages.put_head.Goals as goal

pub returns : goal.returns
unfolding head
returns c =
    let start = string_bytes c.args.out.now in
    let height = c.args.height in
    let t1 = codes "<svg xmlns=\"http://www.w3.org/2000/svg\" " in
    let t2 = t1 ++ codes "xmlns:xlink=\"http://www.w3.org/1999/xlink\" " in
    let t3 = t2 ++ size height in
    let t4 = t3 ++ codes "<rect width=\"100%\" height=\"100%\" fill=\"#fff\"/>\n" in
    pushed start t4 (SYMBOLS.now)
    (pushed start t3 (codes "<rect width=\"100%\" height=\"100%\" fill=\"#fff\"/>\n")
    (pushed start t2 (size height)
    (pushed start t1 (codes "xmlns:xlink=\"http://www.w3.org/1999/xlink\" ")
    c.in_ok-push_str.ensures.bytes c.in_ok-push_str-2.ensures.bytes)
    c.in_ok-put_size.ensures)
    c.in_ok-push_str-3.ensures.bytes)
    c.in_ok-push_str-4.ensures.bytes
