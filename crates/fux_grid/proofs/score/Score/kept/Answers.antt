use Rattle.std.proofs.Common.{◌≡◌, length, All, subst}
use Rattle.std.proofs.lemmas.List.Elements.{All-map}
use Rattle.fux_grid.specs.Grid.{Grid}
use Rattle.fux_grid.proofs.score.Score.kept.Goals as goal

pub returns-clause-full : goal.returns-clause-full
returns-clause-full c =
    let IsFull : Grid → Type 0 = λ s. All (λ col. length col ≡ s.voices) s.columns in
    subst IsFull c.self.view_is (All-map (λ col. length col ≡ c.self.inside.voices) (λ col. col.items)
    c.self.inside.columns.items c.self.invariant.full)
