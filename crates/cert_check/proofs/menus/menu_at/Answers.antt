use Rattle.std.proofs.Common.{Err, ap}
use Rattle.cert_check.proofs.menus.menu_at.Goals as goal

pub returns-in-Err-TooWide-clause-wide : goal.returns-in-Err-TooWide-clause-wide
returns-in-Err-TooWide-clause-wide c =
    let wide = (c.in-Err-TooWide.ensures.wide c.in-Err-TooWide.count).0 (ap Err c.in-Err-TooWide.field-0-is) in
    (c.place_of.ensures.bar, c.place_of.ensures.slot, wide.0, wide.1)
