use Rattle.std.proofs.Common.{[], ◌∷◌, ◌++◌, string_bytes, codes}
use Rattle.std.specs.Fmt.{decimal}
use Rattle.score_picture.proofs.Pushed.{pushed, said}
use Rattle.score_picture.specs.Names.{rule_words}
use Rattle.score_picture.specs.Pictures.{mark_row, voice_numbers}
use Rattle.score_picture.specs.Pieces.{joined}
use Rattle.score_picture.proofs.foot.put_mark.Goals as goal

pub returns : goal.returns
unfolding mark_row
returns c =
    let start = string_bytes c.args.out.now in
    let mark = c.args.mark.now in
    let t1 = joined (codes "<text x=\"78\" y=\"" ∷ decimal c.args.y
    ∷ codes "\" font-size=\"13\" fill=\"#c00000\">bar " ∷ decimal mark.bar ∷ codes " slot " ∷ decimal mark.slot
    ∷ codes " S" ∷ decimal mark.rule ∷ codes " voices" ∷ []) in
    let t2 = t1 ++ voice_numbers mark.voices.bits in
    let t3 = t2 ++ codes ": " in
    let t4 = t3 ++ rule_words mark.rule in
    pushed start t4 (codes "</text>\n")
    (pushed start t3 (rule_words mark.rule)
    (pushed start t2 (codes ": ")
    (pushed start t1 (voice_numbers mark.voices.bits)
    c.in_ok-write.ensures.bytes c.in_ok-put_voices.ensures)
    c.in_ok-push_str.ensures.bytes)
    (said (string_bytes c.push_str.new.self) c.in_ok-push_str-2.ensures.bytes c.rule_words.ensures))
    c.in_ok-push_str-3.ensures.bytes
