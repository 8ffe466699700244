-- Items that fit have cells that follow one another (`fits-follow`), as many as a line has
-- (`fits-long`), and no other items that fit have the same cells (`fits-same`).
use Rattle.std.proofs.Common.{◌≡◌, ℕ, zero, suc, ◌+◌, ◌-◌, ◌*◌, ◌%◌, ◌<◌, ◌≤◌, Bool, true, false, List, [], ◌∷◌, ◌++◌, length, length-append, replicate, refl, sym, ap, subst, ◌∙◌, ⊎_elim, arith}
use Rattle.std.specs.Prelude.{◌==◌, ◌||◌, IsTrue}
use Rattle.std.proofs.lemmas.Bool.{and_parts, cases_lt}
use Rattle.std.proofs.lemmas.Bool.Decides.{nat_tests}
use Rattle.fux_grid.specs.declared.cell.Cell.{Cell}
use Rattle.fux_grid.specs.declared.cell.Cell.TheVariants.{Rest, Hold, Start}
use Rattle.fux_grid.specs.Cells.{cell_follows, held}
use Rattle.fux_text.proofs.Bars.{cells_of}
use Rattle.fux_text.specs.Sing.{item_cells}
use Rattle.fux_text.proofs.Following.{held-follows}
use Rattle.fux_text.proofs.OnlySing.{item_cells-length}
use Rattle.fux_text.proofs.OwnItems.{follows-held}
use Rattle.cert_text.specs.HeadRows.{can_stand}
use Rattle.cert_text.proofs.ItemTexts.{Fits}
use Rattle.voice_lines.specs.Lines.{LineFollows}
use Rattle.voice_lines.proofs.Scores.{rest_follows}

-- ---- their number

pub fits-long : (bars i : ℕ) (before : Cell) (items : List (Cell × ℕ)) → Fits bars i before items
    → i + length (cells_of items) ≡ 8 * bars
fits-long bars i before [] fits = omega (arith, fits)
fits-long bars i before (item ∷ items) fits =
    omega (
      arith,
      length-append (item_cells item.0 item.1) (cells_of items),
      item_cells-length item.0 item.1 fits.1,
      fits-long bars (i + item.1) (held item.0) items fits.3,
    )

-- ---- each follows the one before it

pub run-follows : (c : Cell) (m : ℕ) (cs : List Cell) → LineFollows (held c) cs
    → LineFollows c (replicate m (held c) ++ cs)
run-follows c zero cs f = follows-held c cs f
run-follows c (suc m) cs f = (
  (held-follows c).0,
  subst (λ h. LineFollows (held c) (replicate m h ++ cs)) (held-follows c).1
      (run-follows (held c) m cs (subst (λ h. LineFollows h cs) (sym (held-follows c).1) f)),
)

pub stands-follows : (i : ℕ) (before c : Cell) → IsTrue (can_stand i before c) → IsTrue (cell_follows before c)
stands-follows i before Rest h = rest_follows before
stands-follows i before (Hold p) h = (and_parts (i % 8 == 0) (cell_follows before (Hold p)) h).1
stands-follows i Rest (Start p) h = refl
stands-follows i (Hold q) (Start p) h = refl
stands-follows i (Start q) (Start p) h = refl

pub fits-follow : (bars i : ℕ) (before : Cell) (items : List (Cell × ℕ)) → Fits bars i before items
    → LineFollows before (cells_of items)
fits-follow bars i before [] fits = tt
fits-follow bars i before (item ∷ items) fits = (
  stands-follows i before item.0 fits.0,
  run-follows item.0 (item.1 - 1) (cells_of items) (fits-follow bars (i + item.1) (held item.0) items fits.3),
)

-- ---- they are of one list of items

-- what stands behind fewer of the same cells
fewer : (z : Cell) (k d n : ℕ) (xs ys : List Cell) → n ≡ k + d → replicate k z ++ xs ≡ replicate n z ++ ys
    → xs ≡ replicate d z ++ ys
fewer z zero d n xs ys same e = let d_is : n ≡ d = omega (arith, same) in e ∙ ap (λ m. replicate m z ++ ys) d_is
fewer z (suc k) d zero xs ys same e = absurd (omega (arith, same))
fewer z (suc k) d (suc n) xs ys same e =
    let rest : replicate k z ++ xs ≡ replicate n z ++ ys = cc in
    fewer z k d n xs ys (omega (arith, same)) rest

-- within a bar no item goes on with what is held
no_held : (j : ℕ) (c : Cell) → (j % 8 ≡ 0 → ⊥) → IsTrue (can_stand j (held c) (held c)) → ⊥
no_held j Rest inside h = inside (zero_from (j % 8 == 0) refl h)
  where
    zero_from : (b : Bool) → (j % 8 == 0) ≡ b → IsTrue (b || false) → j % 8 ≡ 0
    zero_from true e h = grind (arith, nat_tests)
    zero_from false e h = absurd (grind (arith, h))
no_held j (Hold p) inside h =
    let start = (and_parts (j % 8 == 0) (cell_follows (Hold p) (Hold p)) h).0 in
    inside (grind (arith, nat_tests))
no_held j (Start p) inside h =
    let start = (and_parts (j % 8 == 0) (cell_follows (Hold p) (Hold p)) h).0 in
    inside (grind (arith, nat_tests))

no_item : (bars j d : ℕ) (c : Cell) (xs : List (Cell × ℕ)) (ys : List Cell) → (j % 8 ≡ 0 → ⊥) → Fits bars j (held c) xs
    → cells_of xs ≡ replicate (suc d) (held c) ++ ys → ⊥
no_item bars j d c [] ys inside fits e = absurd (grind (arith, e))
no_item bars j d c (x ∷ xs) ys inside fits e =
    let same : x.0 ≡ held c = cc in
    no_held j c inside (subst (λ y. IsTrue (can_stand j (held c) y)) same fits.0)

-- an item isn't shorter than another one
not_shorter : (bars i n m : ℕ) (c : Cell) (xs : List (Cell × ℕ)) (ys : List Cell) → 1 ≤ n → n < m → i % 8 + m ≤ 8
    → Fits bars (i + n) (held c) xs → replicate (n - 1) (held c) ++ cells_of xs ≡ replicate (m - 1) (held c) ++ ys → ⊥
not_shorter bars i n m c xs ys some less within fits e =
    let more : suc (m - n - 1) ≡ m - n = omega (arith, less) in
    let rest : cells_of xs ≡ replicate (m - n) (held c) ++ ys =
    fewer (held c) (n - 1) (m - n) (m - 1) (cells_of xs) ys (omega (arith, some, less)) e in
    no_item bars (i + n) (m - n - 1) c xs ys (λ whole. omega (arith, whole, some, less, within)) fits
    (rest ∙ ap (λ k. replicate k (held c) ++ ys) (sym more))

pub fits-same : (bars i : ℕ) (before : Cell) (xs ys : List (Cell × ℕ)) → Fits bars i before xs → Fits bars i before ys
    → cells_of xs ≡ cells_of ys → xs ≡ ys
fits-same bars i before [] [] fits also e = refl
fits-same bars i before [] (y ∷ ys) fits also e = absurd (grind (arith, e))
fits-same bars i before (x ∷ xs) [] fits also e = absurd (grind (arith, e))
fits-same bars i before ((c, n) ∷ xs) ((d, m) ∷ ys) fits also e =
    let first : c ≡ d = cc in
    let behind : replicate (n - 1) (held c) ++ cells_of xs ≡ replicate (m - 1) (held d) ++ cells_of ys = cc in
    let rest : replicate (n - 1) (held c) ++ cells_of xs ≡ replicate (m - 1) (held c) ++ cells_of ys =
    behind ∙ ap (λ h. replicate (m - 1) (held h) ++ cells_of ys) (sym first) in
    let others : Fits bars (i + m) (held c) ys = subst (λ h. Fits bars (i + m) (held h) ys) (sym first) also.3 in
    let least : m ≤ n = ⊎_elim
    (λ lt. absurd (not_shorter bars i n m c xs (cells_of ys) fits.1 lt also.2 fits.3 rest)) (λ h. h) (cases_lt n m) in
    let most : n ≤ m = ⊎_elim
    (λ lt. absurd (not_shorter bars i m n c ys (cells_of xs) also.1 lt fits.2 others (sym rest))) (λ h. h)
    (cases_lt m n) in
    let same : n ≡ m = omega (arith, least, most) in
    let tail : cells_of xs ≡ cells_of ys =
    fewer (held c) (n - 1) 0 (m - 1) (cells_of xs) (cells_of ys) (omega (arith, same)) rest in
    let items : xs ≡ ys =
    fits-same bars (i + n) (held c) xs ys fits.3 (subst (λ k. Fits bars (i + k) (held c) ys) (sym same) others) tail in
    ap (λ z. (z, n) ∷ xs) first ∙ ap (λ k. (d, k) ∷ xs) same ∙ ap (λ zs. (d, m) ∷ zs) items
