use Rattle.std.proofs.Common.{◌+◌, refl}
use Rattle.class_marker.specs.declared.page.ClassPage.{ClassPage}
use Rattle.class_marker.proofs.PageLemmas.{one_more}
use Rattle.class_marker.proofs.page.put_entry.Goals as goal

pub returns : goal.returns
returns c = λ class is.
    let new : ClassPage = record {
      rows = c.put_row.new.out;
      sections = c.put_section.new.out;
      count = c.args.page.now.count + 1;
      all_right = c.still_right-page.result;
    } in
    one_more class (c.args.name.now, c.args.entry.now) c.args.page.now new is c.in_ok-put_row.ensures
    c.in_ok-put_section.ensures refl c.still_right-page.ensures
