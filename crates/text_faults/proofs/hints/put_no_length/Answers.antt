use Rattle.std.proofs.Common.{◌++◌, append_assoc}
use Rattle.std.specs.Prelude.{codes}
use Rattle.text_faults.specs.Shown.{name_in}
use Rattle.text_faults.proofs.hints.put_no_length.Goals as goal

pub returns : goal.returns
returns c =
    rw (c.in_ok-put_named.ensures, c.in_ok-put_text.ensures)
    (append_assoc c.args.out.now.items (codes "a length is 1 to 8: a whole bar is ")
    (name_in c.args.word.now ++ codes ":8"))
