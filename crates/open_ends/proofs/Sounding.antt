-- In a lawful setting a free voice sounds on from its latest note (`sounds_on_in`). A start is the
-- latest note, and other cells leave it (`previous-start`, `previous-no_start`).
use Rattle.std.specs.Prelude.{◌≡◌, ℕ, suc, ◌+◌, ◌-◌, ◌*◌, ◌<◌, true, false, List, [], ◌∷◌, ◌++◌, length, take, slice_index_or, refl}
use Rattle.std.proofs.Common.{sym, ◌∙◌, subst, arith}
use Rattle.std.proofs.lemmas.List.{take_all, take_more}
use Rattle.fux_grid.specs.declared.cell.Cell.{Cell}
use Rattle.fux_grid.specs.declared.cell.Cell.TheVariants.{Rest, Hold, Start}
use Rattle.fux_grid.specs.declared.exercise.Exercise.{Exercise}
use Rattle.fux_grid.specs.Cells.{first_of, notes_from, pitch_of}
use Rattle.fux_grid.specs.Columns.{Columns}
use Rattle.fux_grid.specs.Orderly.{IsOrderly}
use Rattle.fux_grid.proofs.OrderlyLemmas.{orderly-fewer}
use Rattle.rule_law.specs.Around.{SoundsOn}
use Rattle.rule_law.specs.Prefixes.{GoesOn, IsPrefix}
use Rattle.rule_law.specs.Terms.{note_pitch, previous_pitch, starts}
use Rattle.rule_law.proofs.AroundLemmas.{sounds_on}
use Rattle.fux_judge.specs.Lawful.{IsLawful}
use Rattle.fux_judge.proofs.Alive.{alive_if_unbroken, alive_orderly}
use Rattle.open_ends.specs.Parts.{HasVoices}

-- how long the latest note has been held changes no pitch
any_length : (h k : ℕ) (cells : List Cell) → note_pitch (first_of (notes_from h cells))
    ≡ note_pitch (first_of (notes_from k cells))
any_length h k [] = refl
any_length h k (Rest ∷ cells) = refl
any_length h k (Hold p ∷ cells) = any_length (suc h) (suc k) cells
any_length h k (Start p ∷ cells) = refl

pub previous-no_start : (c : Cell) (cells : List Cell) → starts c ≡ false
    → previous_pitch (c ∷ cells) ≡ previous_pitch cells
previous-no_start Rest cells h = refl
previous-no_start (Hold p) cells h = any_length 1 0 cells
previous-no_start (Start p) cells h = cc

pub previous-start : (c : Cell) (cells : List Cell) → starts c ≡ true → previous_pitch (c ∷ cells) ≡ pitch_of c
previous-start Rest cells h = cc
previous-start (Hold p) cells h = cc
previous-start (Start p) cells h = refl

module _ (ex : Exercise) (valid : HasVoices ex) (s : Columns) (lawful : IsLawful ex s) where
  orderly : IsOrderly ex s
  orderly = alive_orderly ex valid.most_voices s
      (alive_if_unbroken ex valid.most_voices s lawful.setting lawful.unbroken)

  -- the last column is put behind the others
  pub sounds_on_in : SoundsOn ex s
  sounds_on_in =
      let last : ℕ = length s - 1 in
      let size : length s ≡ 8 * ex.bars = lawful.setting.whole in
      let there : last < length s = omega (arith, size, valid.fewest_bars) in
      let p : Columns = take last s in
      let col : List Cell = slice_index_or s last [] in
      let whole : s ≡ p ++ col ∷ [] = sym (take_all (last + 1) s (omega (arith, there))) ∙ take_more s last [] there in
      let O : Columns → Type 0 = λ t. IsOrderly ex t in
      let P : Columns → Type 0 = λ t. IsPrefix ex t in
      let S : Columns → Type 0 = λ t. SoundsOn ex t in
      let on : GoesOn ex p (col ∷ []) = record {
        orderly = orderly-fewer ex p (col ∷ []) (subst O whole orderly);
        longer = subst P whole lawful.setting.prefix;
      } in
      subst S (sym whole) (sounds_on ex p col on)
