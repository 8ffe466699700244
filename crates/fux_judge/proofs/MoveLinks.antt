-- What two columns cost is what the moves of the voices cost by themselves, and what several voices
-- cost together (`pair_parts`); so it is no less than what the moves cost (`moves_are_least`).
use Rattle.std.proofs.Common.{◌≡◌, ℕ, ◌+◌, ◌*◌, ◌≤◌, ◌&&◌, ◌||◌, Bool, true, false, if◌then◌else◌, List, [], ◌∷◌, Option, Some, None, refl, ap, sym, ◌∙◌, arith}
use Rattle.std.specs.Prelude.{IsSomeAnd, not, nat_lt, ◌^◌}
use Rattle.std.specs.List.{filter, list_any, sum_by}
use Rattle.std.proofs.lemmas.List.Sums.{sum_by-cons}
use Rattle.fux_grid.specs.declared.cell.Cell.{Cell}
use Rattle.fux_grid.specs.declared.exercise.Exercise.{Exercise}
use Rattle.fux_grid.specs.Cells.{cell_in, pitch_of}
use Rattle.fux_grid.specs.Exercises.{species_in}
use Rattle.rule_law.specs.declared.table.Form.TheVariants.{OneVoice}
use Rattle.rule_law.specs.Growth.{list_any-or, list_any-same, sum_by-none, sum_by-plus, sum_by-same}
use Rattle.rule_law.specs.Nearby.{sounding_pitches}
use Rattle.rule_law.specs.Places.{Row}
use Rattle.rule_law.specs.Voices.{is_free, voice_sets}
use Rattle.melody_rules.specs.Rows as melody
use Rattle.penalty_sheet.specs.declared.sheet.Sheet.{Sheet}
use Rattle.penalty_sheet.specs.Weights.{weight_of}
use Rattle.fux_judge.specs.Charges.{move_charge}
use Rattle.fux_judge.specs.Crates.{Melody, crate_with, crate_with_toll}
use Rattle.fux_judge.specs.Links.{behind_of, breaks_between, breaks_strictly, cost_between, is_rule_between, is_toll_between, pair_of, pair_rules, pair_tolls, together}
use Rattle.fux_judge.specs.Moves.{breaks_by_move, charge_by_move, joint_of, joint_rules, joint_tolls, move_of, move_rules, move_tolls, moves_of}
use Rattle.fux_judge.specs.Penalties.{is_strict_at}
use Rattle.fux_judge.specs.Rules.{breaks, costs, is_of_melody, is_toll_of_melody, rule_at, rules_read, toll_at, tolls_read}
use Rattle.fux_judge.proofs.LinkLemmas.{all_sound, for_each_voice, melody_row, melody_toll}
use Rattle.fux_judge.proofs.QuietLemmas.{none_passes}

-- ---- a list by a test

module _ (mine : ℕ → Bool) where
  any_by_test : (test : ℕ → Bool) (xs : List ℕ) → list_any test xs
      ≡ (list_any test (filter mine xs) || list_any test (filter (λ x. not (mine x)) xs))
  any_by_test test [] = refl
  any_by_test test (x ∷ xs) =
      ap (λ b. test x || b) (any_by_test test xs)
      ∙ at (mine x) (filter mine xs) (filter (λ x. not (mine x)) xs)
    where
      front : (t a b : Bool) → (t || (a || b)) ≡ ((t || a) || b)
      front true a b = refl
      front false a b = refl

      middle : (t a b : Bool) → (t || (a || b)) ≡ (a || (t || b))
      middle true true b = refl
      middle true false b = refl
      middle false a b = refl

      at : (m : Bool) (ms os : List ℕ) → (test x || (list_any test ms || list_any test os))
          ≡ (list_any test (if m then x ∷ ms else ms) || list_any test (if not m then x ∷ os else os))
      at true ms os = front (test x) (list_any test ms) (list_any test os)
      at false ms os = middle (test x) (list_any test ms) (list_any test os)

  sum_by_test : (f : ℕ → ℕ) (xs : List ℕ) → sum_by f xs
      ≡ sum_by f (filter mine xs) + sum_by f (filter (λ x. not (mine x)) xs)
  sum_by_test f [] = refl
  sum_by_test f (x ∷ xs) =
      sum_by-cons f x xs
      ∙ at (mine x) (sum_by f xs) (filter mine xs) (filter (λ x. not (mine x)) xs) (sum_by_test f xs)
    where
      at : (m : Bool) (r : ℕ) (ms os : List ℕ) → r ≡ sum_by f ms + sum_by f os
          → f x + r ≡ sum_by f (if m then x ∷ ms else ms) + sum_by f (if not m then x ∷ os else os)
      at true r ms os e = omega (arith, e, sum_by-cons f x ms)
      at false r ms os e = omega (arith, e, sum_by-cons f x os)

-- ---- rows and columns

any_across : (test : ℕ → ℕ → Bool) (xs ys : List ℕ)
    → list_any (λ x. list_any (test x) ys) xs ≡ list_any (λ y. list_any (λ x. test x y) xs) ys
any_across test [] ys = none ys
  where
    none : (ys : List ℕ) → false ≡ list_any (λ y. false) ys
    none [] = refl
    none (y ∷ ys) = none ys
any_across test (x ∷ xs) ys =
    ap (λ b. list_any (test x) ys || b) (any_across test xs ys)
    ∙ sym (list_any-or (test x) (λ y. list_any (λ x. test x y) xs) ys)

sum_across : (f : ℕ → ℕ → ℕ) (xs ys : List ℕ)
    → sum_by (λ x. sum_by (f x) ys) xs ≡ sum_by (λ y. sum_by (λ x. f x y) xs) ys
sum_across f [] ys = sym (sum_by-none (λ y. 0) ys (λ y. refl))
sum_across f (x ∷ xs) ys =
    sum_by-cons (λ x. sum_by (f x) ys) x xs
    ∙ ap (λ n. sum_by (f x) ys + n) (sum_across f xs ys)
    ∙ sym (sum_by-plus (f x) (λ y. sum_by (λ x. f x y) xs) ys)
    ∙ sum_by-same (λ y. f x y + sum_by (λ x. f x y) xs) (λ y. sum_by (λ x. f x y) (x ∷ xs)) ys
    (λ y. sym (sum_by-cons (λ x. f x y) x xs))

-- ---- costs of which some may be lacking

abbrev told : Bool → ℕ → Option ℕ
told broken cost = if broken then None else Some cost

both_told : (a b : Bool) (x y : ℕ) → together (told a x) (told b y) ≡ told (a || b) (x + y)
both_told true b x y = refl
both_told false true x y = refl
both_told false false x y = refl

four_told : (a b c d : Bool) (w x y z : ℕ)
    → together (told a w) (together (told b x) (together (told c y) (told d z)))
    ≡ told (a || (b || (c || d))) (w + (x + (y + z)))
four_told a b c d w x y z =
    ap (λ o. together (told a w) (together (told b x) o)) (both_told c d y z)
    ∙ ap (λ o. together (told a w) o) (both_told b (c || d) x (y + z))
    ∙ both_told a (b || (c || d)) w (x + (y + z))

abbrev value_of : Option ℕ → ℕ
value_of None = 0
value_of (Some n) = n

first_within : (a b : Option ℕ) (x : ℕ) → together a b ≡ Some x → IsSomeAnd a (λ y. y ≤ x)
first_within None b x h = cc
first_within (Some u) None x h = cc
first_within (Some u) (Some v) x h = let k : u + v ≡ x = ap value_of h in let l : u ≤ x = omega arith in l

-- ---- the moves of four voices

abbrev four_voices : List ℕ
four_voices = 0 ∷ 1 ∷ 2 ∷ 3 ∷ []

spread : (a b c d w : ℕ) → (0 + a + b + c + d) * w ≡ 0 + a * w + b * w + c * w + d * w
spread a b c d w = omega arith

module _ (ex : Exercise) (i : ℕ) (before next : List Cell) where
  -- the voice breaks a rule by its move there
  abbrev moves_break : ℕ → ℕ → Bool
  moves_break rule v = breaks_by_move ex i v (cell_in before v) (cell_in next v) rule

  module _ (rule : ℕ) (between : is_rule_between rule ≡ true) (its : crate_with rule ≡ Some Melody) where
    one_set : (voices : ℕ) → (breaks_between ex i (Some before) next rule voices && is_strict_at rule ex voices i)
        ≡ (melody.near_rows rule ex voices i before (sounding_pitches before) next && is_strict_at rule ex voices i)
    one_set voices =
        ap (λ b. (b && breaks rule ex voices i (behind_of (Some before)) next []) && is_strict_at rule ex voices i)
        between
        ∙ ap (λ (r : Row Bool). r i (behind_of (Some before)) next [] && is_strict_at rule ex voices i)
        (melody_row rule between ex voices its)
        ∙ ap (λ pitches. melody.near_rows rule ex voices i before pitches next && is_strict_at rule ex voices i)
        (all_sound before)

    by_voices : (rule_at rule).form ≡ OneVoice
        → breaks_strictly ex i (Some before) next rule ≡ list_any (moves_break rule) four_voices
    by_voices form =
        sym (for_each_voice ex i (Some before) next rule form)
        ∙ list_any-same (λ voices. breaks_between ex i (Some before) next rule voices && is_strict_at rule ex voices i)
        (λ voices. melody.near_rows rule ex voices i before (sounding_pitches before) next
        && is_strict_at rule ex voices i) voice_sets one_set

  rules_by_moves : list_any (breaks_strictly ex i (Some before) next) move_rules
      ≡ list_any (λ v. list_any (λ rule. moves_break rule v) move_rules) four_voices
  unfolding move_rules pair_rules rules_read rule_at
  rules_by_moves =
      rw (by_voices 4 refl refl refl, by_voices 5 refl refl refl, by_voices 26 refl refl refl)
      (any_across moves_break (4 ∷ 5 ∷ 26 ∷ []) four_voices)

  module _ (sheet : Sheet) where
    abbrev charge : ℕ → ℕ
    charge toll = cost_between ex i (Some before) next toll * weight_of sheet toll

    -- what the voice pays by a toll there
    abbrev move_pays : ℕ → ℕ → ℕ
    move_pays toll v = melody.move_cost toll ex v (pitch_of (cell_in before v)) (cell_in next v) * weight_of sheet toll

    charged_by_voices : (toll : ℕ) → is_toll_between toll ≡ true → crate_with_toll toll ≡ Some Melody
        → charge toll ≡ sum_by (move_pays toll) four_voices
    unfolding melody.toll_rows
    charged_by_voices toll between its =
        ap (λ b. (if b then costs toll ex i (behind_of (Some before)) next [] else 0) * weight_of sheet toll) between
        ∙ ap (λ (r : Row ℕ). r i (behind_of (Some before)) next [] * weight_of sheet toll)
        (melody_toll toll between ex its)
        ∙ ap (λ pitches. melody.toll_rows toll ex i before pitches next * weight_of sheet toll) (all_sound before)
        ∙ spread _ _ _ _ (weight_of sheet toll)

    tolls_by_moves : sum_by charge move_tolls ≡ sum_by (λ v. sum_by (λ toll. move_pays toll v) move_tolls) four_voices
    unfolding move_tolls pair_tolls tolls_read toll_at
    tolls_by_moves =
        rw (
          charged_by_voices 7 refl refl,
          charged_by_voices 8 refl refl,
          charged_by_voices 9 refl refl,
          charged_by_voices 10 refl refl,
        )
        (sum_across move_pays (7 ∷ 8 ∷ 9 ∷ 10 ∷ []) four_voices)

    -- what the four moves cost, as one
    abbrev move_breaks : ℕ → Bool
    move_breaks v = list_any (λ rule. moves_break rule v) move_rules

    abbrev paid_by_move : ℕ → ℕ
    paid_by_move v = charge_by_move ex sheet v (cell_in before v) (cell_in next v)

    four_moves : moves_of ex sheet i before next
        ≡ told (move_breaks 0 || (move_breaks 1 || (move_breaks 2 || move_breaks 3)))
        (paid_by_move 0 + (paid_by_move 1 + (paid_by_move 2 + paid_by_move 3)))
    unfolding move_of
    four_moves =
        four_told (move_breaks 0) (move_breaks 1) (move_breaks 2) (move_breaks 3) (paid_by_move 0) (paid_by_move 1)
        (paid_by_move 2) (paid_by_move 3)

    moves_told : moves_of ex sheet i before next
        ≡ told (list_any (breaks_strictly ex i (Some before) next) move_rules) (sum_by charge move_tolls)
    moves_told =
        four_moves
        ∙ ap (λ b. told b (paid_by_move 0 + (paid_by_move 1 + (paid_by_move 2 + paid_by_move 3))))
        (last (move_breaks 0) (move_breaks 1) (move_breaks 2) (move_breaks 3) ∙ sym rules_by_moves)
        ∙ ap (told (list_any (breaks_strictly ex i (Some before) next) move_rules))
        (grouped (paid_by_move 0) (paid_by_move 1) (paid_by_move 2) (paid_by_move 3) ∙ sym tolls_by_moves)
      where
        last : (a b c d : Bool) → (a || (b || (c || d))) ≡ (a || (b || (c || (d || false))))
        last true b c d = refl
        last false true c d = refl
        last false false true d = refl
        last false false false true = refl
        last false false false false = refl

        grouped : (a b c d : ℕ) → a + (b + (c + d)) ≡ 0 + a + b + c + d
        grouped a b c d = omega arith

    pub pair_parts : pair_of ex sheet i (Some before) next
        ≡ together (moves_of ex sheet i before next) (joint_of ex sheet i (Some before) next)
    unfolding pair_of joint_of move_rules joint_rules move_tolls joint_tolls
    pair_parts =
        ap (λ b. told b (sum_by charge pair_tolls))
        (any_by_test is_of_melody (breaks_strictly ex i (Some before) next) pair_rules)
        ∙ ap (told (list_any (breaks_strictly ex i (Some before) next) move_rules
        || list_any (breaks_strictly ex i (Some before) next) joint_rules))
        (sum_by_test is_toll_of_melody charge pair_tolls)
        ∙ sym (both_told (list_any (breaks_strictly ex i (Some before) next) move_rules)
        (list_any (breaks_strictly ex i (Some before) next) joint_rules) (sum_by charge move_tolls)
        (sum_by charge joint_tolls))
        ∙ ap (λ o. together o (joint_of ex sheet i (Some before) next)) (sym moves_told)

-- where two columns may follow one another, so may the voices' moves, and they cost no more
pub moves_are_least : (ex : Exercise) (sheet : Sheet) (i : ℕ) (before next : List Cell) (x : ℕ)
    → pair_of ex sheet i (Some before) next ≡ Some x → IsSomeAnd (moves_of ex sheet i before next) (λ y. y ≤ x)
moves_are_least ex sheet i before next x e =
    first_within (moves_of ex sheet i before next) (joint_of ex sheet i (Some before) next) x
    (sym (pair_parts ex i before next sheet) ∙ e)

-- ---- the answers of one move

module _ (ex : Exercise) (sheet : Sheet) (i v : ℕ) (before next : Cell) where
  -- Q7 to Q10 charge each move of a free voice by its size alone
  paid_if_free : is_free ex v ≡ true → move_charge sheet (pitch_of before) next ≡ charge_by_move ex sheet v before next
  unfolding move_tolls pair_tolls tolls_read toll_at
  paid_if_free free = omega (arith, paid 7, paid 8, paid 9, paid 10)
    where
      pays : ℕ → Bool
      pays toll = melody.pays_move toll (pitch_of before) next

      once : (f b : Bool) (w : ℕ) → f ≡ true → (if b then w else 0) ≡ (if f && b then 1 else 0) * w
      once true true w h = omega arith
      once true false w h = omega arith
      once false b w h = cc

      paid : (toll : ℕ) → (if pays toll then weight_of sheet toll else 0)
          ≡ melody.move_cost toll ex v (pitch_of before) next * weight_of sheet toll
      paid toll = once (is_free ex v) (pays toll) (weight_of sheet toll) free

  pub move_broken : true ≡ list_any (breaks_by_move ex i v before next) move_rules
      → None ≡ move_of ex sheet i v before next
  unfolding move_of
  move_broken h = ap (λ b. told b (charge_by_move ex sheet v before next)) h

  pub move_whole : false ≡ list_any (breaks_by_move ex i v before next) move_rules → is_free ex v ≡ true
      → Some (move_charge sheet (pitch_of before) next) ≡ move_of ex sheet i v before next
  unfolding move_of
  move_whole h free = ap Some (paid_if_free free) ∙ ap (λ b. told b (charge_by_move ex sheet v before next)) h

  -- the cantus makes no break and pays nothing
  module _ (cantus : is_free ex v ≡ false) where
    pays_nothing : (toll : ℕ) → melody.move_cost toll ex v (pitch_of before) next * weight_of sheet toll ≡ 0
    pays_nothing toll =
        ap (λ f. (if f && melody.pays_move toll (pitch_of before) next then 1 else 0) * weight_of sheet toll) cantus
        ∙ nothing (weight_of sheet toll)
      where
        nothing : (w : ℕ) → 0 * w ≡ 0
        nothing w = omega arith

    breaks_nothing : (rule : ℕ) → breaks_by_move ex i v before next rule ≡ false
    breaks_nothing rule =
        ap (λ f. (nat_lt v ex.voices && (f && melody.voice_rule rule (species_in ex v) (pitch_of before) next))
        && is_strict_at rule ex (2 ^ v) i) cantus
        ∙ never (nat_lt v ex.voices) (is_strict_at rule ex (2 ^ v) i)
      where
        never : (there strict : Bool) → ((there && false) && strict) ≡ false
        never true strict = refl
        never false strict = refl

    pub move_of_cantus : Some 0 ≡ move_of ex sheet i v before next
    unfolding move_of
    move_of_cantus =
        ap Some (sym (sum_by-none (λ toll. melody.move_cost toll ex v (pitch_of before) next * weight_of sheet toll)
        move_tolls pays_nothing))
        ∙ ap (λ b. told b (charge_by_move ex sheet v before next))
        (sym (none_passes (breaks_by_move ex i v before next) move_rules breaks_nothing))

  -- it costs no more than the weights of all four tolls
  paid_within : charge_by_move ex sheet v before next
      ≤ weight_of sheet 7 + weight_of sheet 8 + weight_of sheet 9 + weight_of sheet 10
  unfolding move_tolls pair_tolls tolls_read toll_at
  paid_within = omega (arith, paid 7, paid 8, paid 9, paid 10)
    where
      once : (b : Bool) (w : ℕ) → (if b then 1 else 0) * w ≤ w
      once true w = omega arith
      once false w = omega arith

      paid : (toll : ℕ) → melody.move_cost toll ex v (pitch_of before) next * weight_of sheet toll
          ≤ weight_of sheet toll
      paid toll = once (is_free ex v && melody.pays_move toll (pitch_of before) next) (weight_of sheet toll)

-- ---- the answers of two columns, where it is known what the moves cost

module _ (ex : Exercise) (sheet : Sheet) (i : ℕ) (before next : List Cell) (moves : ℕ)
    (known : moves_of ex sheet i before next ≡ Some moves) where
  pub moves_within : weight_of sheet 7 ≤ 65535 → weight_of sheet 8 ≤ 65535 → weight_of sheet 9 ≤ 65535
      → weight_of sheet 10 ≤ 65535 → moves ≤ 1048560
  moves_within seven eight nine ten =
      at (move_breaks ex i before next sheet 0 || (move_breaks ex i before next sheet 1
      || (move_breaks ex i before next sheet 2 || move_breaks ex i before next sheet 3)))
      _ _ _ _ (within 0) (within 1) (within 2) (within 3) (sym (four_moves ex i before next sheet) ∙ known)
    where
      within : (v : ℕ) → paid_by_move ex i before next sheet v ≤ 262140
      within v = let h = paid_within ex sheet i v (cell_in before v) (cell_in next v) in
          omega (arith, h, seven, eight, nine, ten)

      at : (broken : Bool) (a b c d : ℕ) → a ≤ 262140 → b ≤ 262140 → c ≤ 262140 → d ≤ 262140
          → told broken (a + (b + (c + d))) ≡ Some moves → moves ≤ 1048560
      at true a b c d ha hb hc hd e = cc
      at false a b c d ha hb hc hd e = let k : a + (b + (c + d)) ≡ moves = ap value_of e in omega arith

  from_parts : (joint : Option ℕ) → joint ≡ joint_of ex sheet i (Some before) next
      → together (Some moves) joint ≡ pair_of ex sheet i (Some before) next
  from_parts joint e =
      ap (λ o. together (Some moves) o) e
      ∙ ap (λ o. together o (joint_of ex sheet i (Some before) next)) (sym known)
      ∙ sym (pair_parts ex i before next sheet)

  pub joint_broken : true ≡ list_any (breaks_strictly ex i (Some before) next) joint_rules
      → None ≡ pair_of ex sheet i (Some before) next
  unfolding joint_of
  joint_broken h =
      from_parts None (ap (λ b. told b (sum_by (charge ex i before next sheet) joint_tolls)) h)

  pub joint_whole : (cost : ℕ) → cost ≡ sum_by (charge ex i before next sheet) joint_tolls
      → false ≡ list_any (breaks_strictly ex i (Some before) next) joint_rules
      → Some (moves + cost) ≡ pair_of ex sheet i (Some before) next
  unfolding joint_of
  joint_whole cost paid h =
      from_parts (Some cost) (ap Some paid ∙ ap (λ b. told b (sum_by (charge ex i before next sheet) joint_tolls)) h)
