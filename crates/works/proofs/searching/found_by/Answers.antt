use Rattle.std.proofs.Common.{ℕ, List, refl, subst}
use Rattle.works.specs.Searched.{IsScoreAt}
use Rattle.works.proofs.searching.found_by.Goals as goal

pub returns-in_ok-setting_at-in-Found : goal.returns-in_ok-setting_at-in-Found
returns-in_ok-setting_at-in-Found c =
    rw c.in-Found.is (
      subst (λ (path : List ℕ). IsScoreAt c.args.space.now path c.in_ok-setting_at-in-Found.field-0) c.as_slice.ensures
          c.in_ok-setting_at-in-Found.ensures,
      refl,
    )
