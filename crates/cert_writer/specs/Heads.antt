-- What the head says of a setting with its penalty, or of none; and the certificate that is written
-- for it.
use Rattle.std.specs.Prelude.{ℕ, ◌==◌, not, List, [], ◌∷◌, Option, Some, None, filter}
use Rattle.std.specs.Borrow.{Bor}
use Rattle.std.specs.List.{flat_map}
use Rattle.cert_law.specs.Writer.{written_certificate}
use Rattle.cert_text.specs.declared.answers.CertHead.{CertHead}
use Rattle.cert_text.specs.declared.answers.CertHead.TheVariants.{Best, Nothing}
use Rattle.cert_text.specs.declared.answers.Form.{Form}
use Rattle.fux_grid.specs.declared.exercise.Exercise.{Exercise}
use Rattle.fux_grid.specs.Grid.{Grid}
use Rattle.fux_text.specs.Lines.{sing_text}
use Rattle.species_space.specs.Task.{Task}

-- the head that says that the setting is the best one, or that none is lawful
abbrev pub head_with : Option (Bor Grid × ℕ) → CertHead
head_with None = Nothing
head_with (Some best) = Best best.1 best.0.now

-- the line of a voice, if it is free
abbrev pub line_if_free : Exercise → Grid → ℕ → List ℕ
line_if_free ex score v =
    flat_map (λ w. sing_text w score.columns) (filter (λ w. not (w == ex.cantus_voice)) (v ∷ []))

-- the certificate of a form, of what a search of a space found: of the best setting with its
-- penalty, or that there is none
abbrev pub found_text : Task → Form → Option (Bor Grid × ℕ) → List ℕ
found_text space form best = written_certificate space.exercise space.sheet form (head_with best)
