use Rattle.std.proofs.Common.{arith}
use Rattle.class_marker.proofs.WholeReportLemmas.{unread_text}
use Rattle.class_marker.proofs.whole_report.put_text.Goals as goal

pub returns-in_ok-push_str-in-Unread-2 : goal.returns-in_ok-push_str-in-Unread-2
returns-in_ok-push_str-in-Unread-2 c =
    rw c.in-Unread.is (unread_text _ _ _ _ _ _ _ (c.in_ok-push.ensures.ascii (omega arith))
    c.in_ok-push_str.ensures.bytes c.in_ok-push.ensures.bytes
    c.in_ok-push_str-in-Unread.ensures.bytes c.in_ok-push_str-in-Unread-2.ensures.bytes)
