use Rattle.std.proofs.Common.{◌++◌, codes, ap, ◌∙◌}
use Rattle.class_marker.proofs.Pushed.{pushed, said}
use Rattle.class_marker.specs.declared.page.TheConstants.{HEAD}
use Rattle.class_marker.specs.Pages.{numbered, page_of, row_of, section, symbols, table}
use Rattle.class_marker.proofs.page.whole_page.Goals as goal

pub returns : goal.returns
unfolding page_of
returns c = λ class is.
    let start = c.new-out.result.items in
    let t1 = HEAD.now in
    let t2 = t1 ++ symbols in
    let t3 = t2 ++ table (numbered row_of 1 class) in
    let t4 = t3 ++ numbered section 1 class in
    pushed start t4 (codes "</body>\n</html>\n")
    (pushed start t3 (numbered section 1 class)
    (pushed start t2 (table (numbered row_of 1 class))
    (pushed start t1 symbols c.in_ok-put.ensures c.in_ok-put_symbols.ensures)
    (said c.put_symbols.new.out.items c.in_ok-put_table.ensures (ap table (c.deref.ensures.value ∙ is.rows))))
    (said c.put_table.new.out.items c.in_ok-extend_from_slice.ensures.items (c.deref-2.ensures.value ∙ is.sections)))
    c.in_ok-put-2.ensures
    ∙ ap (λ begun. begun ++ page_of class) c.new-out.ensures.items
