use Rattle.std.proofs.Common.{◌≡◌, ◌++◌, string_bytes, drop}
use Rattle.score_picture.specs.Pictures.{staves_in_bar}
use Rattle.score_picture.proofs.bars.put_staves.Given as goal

-- what is written so far, and what is left, are what is to be written
abbrev pub invariant-loop-staff : goal.invariant-loop-staff
invariant-loop-staff l =
    string_bytes l.out ++ staves_in_bar l.marked.ex.now l.marked.marks.now l.lines l.bar.bar l.bar.place l.bar.tie_end
    (drop l.staff-index l.staves)
    ≡ string_bytes l.fn.out ++ staves_in_bar l.marked.ex.now l.marked.marks.now l.lines l.bar.bar l.bar.place
    l.bar.tie_end l.staves
