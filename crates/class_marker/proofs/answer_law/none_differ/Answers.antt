use Rattle.class_marker.proofs.AnsweringLemmas.{answers_where_none, none_where_answers}
use Rattle.class_marker.proofs.answer_law.none_differ.Goals as goal

pub returns : goal.returns
returns c = λ lesson answer score valid answer_valid complete. (
  answers_where_none lesson answer score valid answer_valid complete,
  none_where_answers lesson answer score valid answer_valid complete,
)
