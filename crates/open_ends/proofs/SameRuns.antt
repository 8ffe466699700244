-- A test of two equal runs, and what it tells (`runs_decide`).
use Rattle.std.specs.Prelude.{◌≡◌, ℕ, ◌==◌, ◌&&◌, List}
use Rattle.std.specs.Bool.{Decides}
use Rattle.std.proofs.Common.{ap, ◌∙◌}
use Rattle.std.proofs.lemmas.Bool.Decides.{Decides-and, Decides-eqb, Decides-like}
use Rattle.open_ends.specs.declared.runs.OpenRuns.{OpenRuns}
use Rattle.open_ends.specs.declared.runs.Run.{Run}

abbrev pub run_from : ℕ → ℕ → Run
run_from thirds sixths = record { thirds = thirds; sixths = sixths }

pub runs_decide : (a b : Run) → Decides ((a.thirds == b.thirds) && (a.sixths == b.sixths)) (a ≡ b)
runs_decide a b =
    Decides-like _ (λ same. ap (λ n. run_from n a.sixths) same.0 ∙ ap (run_from b.thirds) same.1)
    (λ e. (ap (λ (r : Run). r.thirds) e, ap (λ (r : Run). r.sixths) e))
    (Decides-and _ _ (Decides-eqb a.thirds b.thirds) (Decides-eqb a.sixths b.sixths))

abbrev pub open_from : List Run → OpenRuns
open_from pairs = record { pairs = pairs }
