-- Two places where each voice has the same cells have the same menu (`menus_same`).
use Rattle.std.proofs.Common.{◌≡◌, ℕ, ◌+◌, ◌++◌, ◌∷◌, [], ap, sym, ◌∙◌}
use Rattle.fux_grid.specs.declared.exercise.Exercise.{Exercise}
use Rattle.fux_grid.specs.Menus.{cells_at, combinations, menu_of}
use Rattle.fux_grid.proofs.MenuLemmas.{first_choices, first_choices-all, first_choices-more}

-- the first n voices have the same cells at two places
abbrev pub HaveSameCells : Exercise → ℕ → ℕ → ℕ → Type 0
HaveSameCells ex n i j = first_choices ex i n ≡ first_choices ex j n

pub voice_more : (ex : Exercise) (n i j : ℕ) → HaveSameCells ex n i j → cells_at ex i n ≡ cells_at ex j n
    → HaveSameCells ex (n + 1) i j
voice_more ex n i j same here =
    first_choices-more ex i n ∙ ap (λ lists. lists ++ cells_at ex i n ∷ []) same
    ∙ ap (λ cells. first_choices ex j n ++ cells ∷ []) here ∙ sym (first_choices-more ex j n)

pub menus_same : (ex : Exercise) (n i j : ℕ) → n ≡ ex.voices → HaveSameCells ex n i j → menu_of ex i ≡ menu_of ex j
unfolding menu_of
menus_same ex n i j e same =
    ap combinations (sym (first_choices-all ex i n e) ∙ same ∙ first_choices-all ex j n e)
