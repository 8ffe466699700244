-- The words of a `sing` line: one without a colon is no item, and the last cell.
use Rattle.std.proofs.Common.{◌≡◌, ℕ, suc, ◌+◌, ◌-◌, ◌<◌, ◌≤◌, List, [], ◌∷◌, length, get_or, drop, None, refl, ap, ◌∙◌, arith}
use Rattle.std.specs.List.{position, position_or_len}
use Rattle.std.proofs.lemmas.List.{drop_all}
use Rattle.fux_grid.specs.declared.cell.Cell.{Cell}
use Rattle.text_lines.specs.Numbers.{number_of}
use Rattle.text_lines.proofs.Parts.{beyond}
use Rattle.fux_text.specs.Sing.{is_colon, item_parts, latest}

-- a word without a colon is no item
pub colon-none : (text : List ℕ) → position is_colon text ≡ None → None ≡ item_parts text
unfolding item_parts number_of
colon-none text h =
    let le : length text ≤ position_or_len is_colon text = beyond is_colon text h in
    let none : drop (position_or_len is_colon text + 1) text
    ≡ [] = drop_all (position_or_len is_colon text + 1) text (omega arith) in
    rw none refl

-- the last cell stands at the end
pub latest-last : (before : Cell) (cells : List Cell) (d : Cell) → 0 < length cells → latest before cells
    ≡ get_or cells (length cells - 1) d
latest-last before [] d h = absurd (omega arith)
latest-last before (c ∷ []) d h = refl
latest-last before (x ∷ y ∷ ys) d h =
    let one : length (x ∷ y ∷ ys) - 1 ≡ suc (length ys) = omega arith in
    let other : length (y ∷ ys) - 1 ≡ length ys = omega arith in
    rw one (latest-last x (y ∷ ys) d (omega arith) ∙ ap (λ k. get_or (y ∷ ys) k d) other)
