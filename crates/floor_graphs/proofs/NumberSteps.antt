-- A label more of a node (`least_more`), labels without edges (`none_below`, `least_over`), a node
-- more of a graph (`least_push`), and what is checked of least numbers (`checked_from_least`).
use Rattle.std.proofs.Common.{◌≡◌, ℕ, ◌+◌, ◌*◌, ◌^◌, ◌<◌, ◌≤◌, ◌⊎◌, inl, inr, ⊎_elim, Bool, true, false, List, [], ◌∷◌, ◌++◌, length, Option, Some, None, IsSomeAnd, option_map, min, refl, sym, ap, subst, ◌∙◌, arith, length-append}
use Rattle.std.specs.Prelude.{IfSome}
use Rattle.std.proofs.Math.ListN.{get_or-append}
use Rattle.std.proofs.lemmas.List.{get_or_past, get_or_push}
use Rattle.std.proofs.lemmas.Bool.{cases_lt}
use Rattle.floor_graphs.specs.Graphs.{AreChecked}
use Rattle.floor_graphs.specs.Numbers.{Step, LeadBack, AreSpanned, IsEndBelow, is_edge_by, number_in, sum_behind, lesser_of, lesser_low-first, lesser_low-second, IsLeastBelow, IsNumber, AreLeast, AreSmall}

-- ---- the lesser of two sums

-- a sum is no higher than itself
itself : (o : Option ℕ) (x : ℕ) → o ≡ Some x → IsSomeAnd o (λ least. least ≤ x)
itself None x h = cc
itself (Some y) x h = let same : y ≡ x = cc in omega (arith, same)

lesser_reached : (one other : Option ℕ) (least : ℕ) → lesser_of one other ≡ Some least
    → (one ≡ Some least) ⊎ (other ≡ Some least)
lesser_reached None other least h = inr h
lesser_reached (Some a) None least h = inl h
lesser_reached (Some a) (Some b) least h =
    let same : min a b ≡ least = cc in
    ⊎_elim
    (λ less. let e : a ≡ least = omega (arith, same, less) in inl (ap (λ n. Some n) e))
    (λ more. let e : b ≡ least = omega (arith, same, more) in inr (ap (λ n. Some n) e))
    (cases_lt a b)

pub lesser-small : (one other : Option ℕ) (most : ℕ) → IfSome one (λ x. x ≤ most) → IfSome other (λ x. x ≤ most)
    → IfSome (lesser_of one other) (λ x. x ≤ most)
lesser-small None other most h k = k
lesser-small (Some a) None most h k = h
lesser-small (Some a) (Some b) most h k = omega (arith, h, k)

-- ---- a label more

pub least_more : (sum : ℕ → Option ℕ) (bound : ℕ) (own next more : Option ℕ) → IsLeastBelow sum bound own
    → next ≡ sum bound → more ≡ lesser_of own next → IsLeastBelow sum (bound + 1) more
least_more sum bound own next more h next_is more_is = record {
  low = λ label x within is. rw more_is (⊎_elim
      (λ before. lesser_low-first own next x (h.low label x before is))
      (λ after.
      let same : label ≡ bound = omega (arith, within, after) in
      lesser_low-second own next x (itself next x (next_is ∙ sym (ap sum same) ∙ is)))
      (cases_lt label bound));
  reached = λ least is. ⊎_elim
      (λ first. let way = h.reached least first in (way.0, omega (arith, way.1), way.2))
      (λ second. (bound, omega arith, sym next_is ∙ second))
      (lesser_reached own next least (sym more_is ∙ is));
}

-- ---- labels without edges

-- there is an edge where there is a sum behind it
edge_behind : (number : ℕ → Option ℕ) (edge : Option Step) (x : ℕ) → sum_behind number edge ≡ Some x
    → (step : Step) × (edge ≡ Some step)
edge_behind number None x h = cc
edge_behind number (Some step) x h = (step, refl)

-- labels below all that have edges have no sums
pub none_below : (number : ℕ → Option ℕ) (edge : ℕ → Option Step) (low high : ℕ) → AreSpanned edge low high
    → IsLeastBelow (λ label. sum_behind number (edge label)) low None
none_below number edge low high spanned = record {
  low = λ label x within is.
      let its = edge_behind number (edge label) x is in
      absurd (omega (arith, within, (spanned label its.0 its.1).0));
  reached = λ least is. cc;
}

-- labels beyond all that have edges change nothing
pub least_over : (number : ℕ → Option ℕ) (edge : ℕ → Option Step) (low high bound width : ℕ) (own : Option ℕ)
    → AreSpanned edge low high → high ≤ bound → high ≤ width
    → IsLeastBelow (λ label. sum_behind number (edge label)) bound own
    → IsLeastBelow (λ label. sum_behind number (edge label)) width own
least_over number edge low high bound width own spanned past room h = record {
  low = λ label x within is.
      let its = edge_behind number (edge label) x is in
      h.low label x (omega (arith, past, (spanned label its.0 its.1).1)) is;
  reached = λ least is.
      let way = h.reached least is in
      let its = edge_behind number (edge way.0) least way.2 in
      (way.0, omega (arith, room, (spanned way.0 its.0 its.1).1), way.2);
}

-- ---- a node more

-- numbers that are alike behind each edge give the same sum
number-same : (is_end : Bool) (edge : ℕ → Option Step) (width : ℕ) (number other : ℕ → Option ℕ) (own : Option ℕ)
    → ((label : ℕ) → sum_behind number (edge label) ≡ sum_behind other (edge label))
    → IsNumber is_end edge width number own → IsNumber is_end edge width other own
number-same true edge width number other own same h = h
number-same false edge width number other own same h = record {
  low = λ label x within is. h.low label x within (same label ∙ is);
  reached = λ least is. let way = h.reached least is in (way.0, way.1, sym (same way.0) ∙ way.2);
}

sum-earlier : (numbers : List (Option ℕ)) (more : Option ℕ) (step : Option Step)
    → ((it : Step) → step ≡ Some it → it.0 < length numbers)
    → sum_behind (number_in numbers) step ≡ sum_behind (number_in (numbers ++ more ∷ [])) step
sum-earlier numbers more None earlier = refl
sum-earlier numbers more (Some it) earlier =
    ap (option_map (λ behind. it.1 + behind))
    (sym (get_or-append numbers (more ∷ []) None it.0 (earlier it refl)))

pub least_push : (edge : ℕ → ℕ → Option Step) (width : ℕ → ℕ) (is_end : ℕ → Bool) (nodes node : ℕ)
    (numbers longer : List (Option ℕ)) (number : Option ℕ) → LeadBack edge width nodes
    → AreLeast edge width is_end node numbers
    → IsNumber (is_end node) (edge node) (width node) (number_in numbers) number → longer ≡ numbers ++ number ∷ []
    → AreLeast edge width is_end (node + 1) longer
least_push edge width is_end nodes node numbers longer number back h own is =
    subst (AreLeast edge width is_end (node + 1)) (sym is) record {
      all = omega (arith, length-append numbers (number ∷ []), h.all);
      each = λ m within. ⊎_elim
          (λ before. at m (number_in numbers m) (omega (arith, before, h.all))
          (get_or-append numbers (number ∷ []) None m (omega (arith, before, h.all))) (h.each m before))
          (λ after.
          let same : m ≡ node = omega (arith, within, after) in
          at m number (omega (arith, h.all, after, within))
          (get_or_push numbers number None m (omega (arith, h.all, after, within)))
          (subst (λ (k : ℕ). IsNumber (is_end k) (edge k) (width k) (number_in numbers) number) (sym same) own))
          (cases_lt m node);
    }
  where
    at : (m : ℕ) (its : Option ℕ) → m ≤ length numbers → number_in (numbers ++ number ∷ []) m ≡ its
        → IsNumber (is_end m) (edge m) (width m) (number_in numbers) its
        → IsNumber (is_end m) (edge m) (width m) (number_in (numbers ++ number ∷ []))
        (number_in (numbers ++ number ∷ []) m)
    at m its within e h =
        subst (IsNumber (is_end m) (edge m) (width m) (number_in (numbers ++ number ∷ []))) (sym e)
        (number-same (is_end m) (edge m) (width m) (number_in numbers) (number_in (numbers ++ number ∷ [])) its
        (λ label. sum-earlier numbers number (edge m label)
        (λ it is. let earlier : it.0 < m = (back m label it is).2 in omega (arith, earlier, within))) h)

pub small_push : (numbers longer : List (Option ℕ)) (number : Option ℕ) (node : ℕ) → length numbers ≡ node
    → AreSmall numbers → IfSome number (λ x. x ≤ node * 2 ^ 32) → longer ≡ numbers ++ number ∷ [] → AreSmall longer
small_push numbers longer number node long h small is =
    subst AreSmall (sym is) (λ m x its. ⊎_elim
    (λ before. h m x (sym (get_or-append numbers (number ∷ []) None m before) ∙ its))
    (λ after. ⊎_elim
    (λ here.
    last number small m x (omega (arith, long, after, here))
    (sym (get_or_push numbers number None m (omega (arith, after, here))) ∙ its))
    (λ past. beyond m x (omega (arith, past, length-append numbers (number ∷ []))) its)
    (cases_lt m (length numbers + 1)))
    (cases_lt m (length numbers)))
  where
    last : (own : Option ℕ) → IfSome own (λ x. x ≤ node * 2 ^ 32) → (m x : ℕ) → m ≡ node → own ≡ Some x
        → x ≤ m * 2 ^ 32
    last None h m x same is = cc
    last (Some y) h m x same is = let e : y ≡ x = cc in omega (arith, h, e, same)

    beyond : (m x : ℕ) → length (numbers ++ number ∷ []) ≤ m → number_in (numbers ++ number ∷ []) m ≡ Some x
        → x ≤ m * 2 ^ 32
    beyond m x past its = let e = sym (get_or_past (numbers ++ number ∷ []) m None past) ∙ its in cc

-- ---- what is checked

pub checked_from_least : (edge : ℕ → ℕ → Option Step) (width : ℕ → ℕ) (is_end : ℕ → Bool) (nodes : ℕ)
    (numbers : List (Option ℕ)) → LeadBack edge width nodes → AreLeast edge width is_end nodes numbers
    → AreChecked (is_edge_by edge) (IsEndBelow is_end nodes) (number_in numbers)
checked_from_least edge width is_end nodes numbers back h = record {
  ends = λ node here. at_end (is_end node) (edge node) (width node) (number_in numbers node) here.1
      (h.each node here.0);
  low = λ from to cost behind edge_is behind_is.
      let inside = back from edge_is.0 (to, cost) edge_is.1 in
      below (is_end from) (edge from) (width from) (number_in numbers from) (h.each from inside.0) edge_is.0 to cost
      behind inside.1 edge_is.1 behind_is;
}
  where
    at_end : (b : Bool) (its : ℕ → Option Step) (w : ℕ) (own : Option ℕ) → b ≡ true
        → IsNumber b its w (number_in numbers) own → own ≡ Some 0
    at_end true its w own e h = h
    at_end false its w own e h = cc

    below : (b : Bool) (its : ℕ → Option Step) (w : ℕ) (own : Option ℕ) → IsNumber b its w (number_in numbers) own
        → (label to cost behind : ℕ) → label < w → its label ≡ Some (to, cost) → number_in numbers to ≡ Some behind
        → IsSomeAnd own (λ least. least ≤ cost + behind)
    below true its w own h label to cost behind within is behind_is = rw h (omega arith)
    below false its w own h label to cost behind within is behind_is =
        h.low label (cost + behind) within
        (ap (sum_behind (number_in numbers)) is ∙ ap (option_map (λ b. cost + b)) behind_is)
