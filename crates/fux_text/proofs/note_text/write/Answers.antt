use Rattle.std.proofs.Common.{rules}
use Rattle.fux_text.specs.Lines.{setting_text}
use Rattle.fux_text.proofs.note_text.write.Goals as goal
use Rattle.fux_text.proofs.note_text.write.Goals.{in-Some+in_ok-put_setting, in_default}

pub returns : goal.returns
unfolding setting_text
returns c =
    elim c.match-score.branch [
      | in-Some+in_ok-put_setting w ↦ search rules
      | in_default w ↦ search rules
    ]
