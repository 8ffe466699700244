use Rattle.std.proofs.Common.{refl}
use Rattle.class_marker.proofs.said.say_alone.Goals as goal

pub returns-in-Marked : goal.returns-in-Marked
returns-in-Marked c = λ bytes content. record {
  marks = c.in-Marked.lines;
  told = (rw c.in-Marked.is at c.in_ok-lines.ensures) bytes content;
  has_mark = refl;
  differs = refl;
  text = refl;
}
