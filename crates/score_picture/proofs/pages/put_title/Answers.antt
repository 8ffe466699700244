use Rattle.std.proofs.Common.{◌++◌, string_bytes, codes}
use Rattle.score_picture.proofs.Pushed.{pushed}
use Rattle.written_notes.specs.Titles.{title_words}
use Rattle.score_picture.specs.Pictures.{title_row}
use Rattle.score_picture.proofs.pages.put_title.Goals as goal

pub returns : goal.returns
unfolding title_row
returns c =
    let start = string_bytes c.args.out.now in
    let words = title_words c.args.ex.now c.args.marks in
    let t1 = codes "<text x=\"78\" y=\"34\" font-size=\"20\">" in
    let t2 = t1 ++ words in
    pushed start t2 (codes "</text>\n")
    (pushed start t1 (words)
    c.in_ok-push_str.ensures.bytes c.in_ok-put_title_words.ensures)
    c.in_ok-push_str-2.ensures.bytes
