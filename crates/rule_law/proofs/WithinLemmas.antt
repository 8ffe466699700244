-- The notes of a voice in the first columns of a list, from one column on and from the next.
use Rattle.std.specs.Prelude.{◌≡◌, ℕ, suc, ◌+◌, ◌<◌, ◌≤◌, List, [], ◌∷◌, drop, take, length, slice_index_or, refl}
use Rattle.std.proofs.Common.{ap, sym, ◌∙◌, arith}
use Rattle.std.proofs.lemmas.List.{drop_all, drop_more, get_or-take, length-take-le}
use Rattle.fux_pitch.specs.declared.pitch.Pitch.{Pitch}
use Rattle.fux_grid.specs.declared.cell.Cell.{Cell}
use Rattle.fux_grid.specs.declared.cell.Cell.TheVariants.{Rest, Hold, Start}
use Rattle.fux_grid.specs.Cells.{cell_in, onsets_from}
use Rattle.fux_grid.specs.Columns.{line}
use Rattle.rule_law.specs.Within.{notes_within}

notes-first : (n : ℕ) (c : Cell) (p : Pitch) (cells : List Cell) → c ≡ Start p → onsets_from n (c ∷ cells)
    ≡ record { start = n; pitch = p } ∷ onsets_from (n + 1) cells
notes-first n c p cells e =
    let next : suc n ≡ n + 1 = omega arith in
    ap (λ d. onsets_from n (d ∷ cells)) e ∙ ap (λ k. record { start = n; pitch = p } ∷ onsets_from k cells) next

notes-later : (n : ℕ) (c : Cell) (cells : List Cell) → ((p : Pitch) → c ≡ Start p → ⊥) → onsets_from n (c ∷ cells)
    ≡ onsets_from (n + 1) cells
notes-later n Rest cells other = let next : suc n ≡ n + 1 = omega arith in ap (λ k. onsets_from k cells) next
notes-later n (Hold p) cells other = let next : suc n ≡ n + 1 = omega arith in ap (λ k. onsets_from k cells) next
notes-later n (Start p) cells other = absurd (other p refl)

module _ (s : List (List Cell)) (end v : ℕ) (fits : end ≤ length s) where
  notes-cell : (j : ℕ) → j < end → notes_within s end v j
      ≡ onsets_from j (cell_in (slice_index_or s j []) v ∷ line v (drop (j + 1) (take end s)))
  notes-cell j h =
      ap (λ cols. onsets_from j (line v cols))
      (drop_more (take end s) j [] (omega (arith, h, length-take-le end s fits)))
      ∙ ap (λ col. onsets_from j (cell_in col v ∷ line v (drop (j + 1) (take end s)))) (get_or-take end s j [] h)

  pub notes-start : (j : ℕ) (c : Cell) (p : Pitch) → j < end → c ≡ cell_in (slice_index_or s j []) v → c ≡ Start p
      → notes_within s end v j ≡ record { start = j; pitch = p } ∷ notes_within s end v (j + 1)
  notes-start j c p h e f = notes-cell j h
      ∙ notes-first j (cell_in (slice_index_or s j []) v) p (line v (drop (j + 1) (take end s))) (sym e ∙ f)

  pub notes-no_start : (j : ℕ) (c : Cell) → j < end → c ≡ cell_in (slice_index_or s j []) v
      → ((p : Pitch) → c ≡ Start p → ⊥) → notes_within s end v j ≡ notes_within s end v (j + 1)
  notes-no_start j c h e other = notes-cell j h
      ∙ notes-later j (cell_in (slice_index_or s j []) v) (line v (drop (j + 1) (take end s))) (λ p f. other p (e ∙ f))

  pub notes-none : (j : ℕ) → end ≤ j → notes_within s end v j ≡ []
  notes-none j h =
      ap (λ cols. onsets_from j (line v cols)) (drop_all j (take end s) (omega (arith, h, length-take-le end s fits)))
