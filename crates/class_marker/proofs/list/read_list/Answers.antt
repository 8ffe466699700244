use Rattle.std.proofs.Common.{ap, ◌∙◌, sym, subst}
use Rattle.whole_lines.specs.Ended.{is_feed, said}
use Rattle.class_marker.specs.Lists.{Gives, names_row}
use Rattle.class_marker.proofs.ListLemmas.{none_listed, some_listed}
use Rattle.class_marker.proofs.list.read_list.Goals as goal

pub returns-in-Some : goal.returns-in-Some
returns-in-Some c = λ bytes content.
    let listed = c.in-Some.ensures.text bytes content in
    subst (Gives c.names_in.result)
    (ap (said is_feed names_row) listed.1 ∙ sym (some_listed (said is_feed names_row) bytes listed.0))
    c.names_in.ensures

pub returns-in-None : goal.returns-in-None
returns-in-None c = λ bytes content.
    none_listed (said is_feed names_row) bytes (c.in-None.ensures.text bytes content)
