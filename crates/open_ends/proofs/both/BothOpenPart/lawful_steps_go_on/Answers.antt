use Rattle.open_ends.proofs.Followed.{both-followed}
use Rattle.open_ends.proofs.both.BothOpenPart.lawful_steps_go_on.Goals as goal

pub returns : goal.returns
returns g c = λ ex keeps voices.
    both-followed ex _ _ _ _ _ _ (c.lawful_steps_go_on.ensures ex keeps voices)
    (c.lawful_steps_go_on-2.ensures ex keeps voices)
