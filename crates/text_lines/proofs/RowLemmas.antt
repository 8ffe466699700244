-- Reading a row gives what its right words say, or its first fault, and just that.
use Rattle.std.proofs.Common.{◌≡◌, ◌↔◌, inl, inr, List, [], ◌∷◌, Option, Some, None, Result, Ok, Err, refl, sym, ap, subst}
use Rattle.std.specs.Option.{ok_or}
use Rattle.text_lines.specs.Faults.{Fault, ◌>>=◌}
use Rattle.text_lines.specs.Reading.{done, fault_past, next, none_left}
use Rattle.text_lines.specs.Rows.{IsRow, IsRowFault, IsRun, IsRunFault, Lacks, Place, Row, Run, Stands, left_behind, place_in, row_in, run_in, texts_of, told_at, told_beyond}
use Rattle.text_lines.specs.Words.{LineWords, PlacedWord, first_word}

-- ---- runs

abbrev RunTold : {K S R : Type 0} → Run K S R → S → LineWords → List PlacedWord → Result R (Fault K) → Type 0
RunTold m s at ws (Ok x) = IsRun m s (texts_of ws) x
RunTold m s at ws (Err f) = IsRunFault m s at ws f

pub run-told : {K S R : Type 0} (m : Run K S R) (s : S) (at : LineWords) (ws : List PlacedWord) → RunTold m s at ws (run_in m s at ws)
unfolding run_in
run-told {K = K} {R = R} m s at [] = by (m.end s) refl
  where
    by : (r : Result R K) → m.end s ≡ r → RunTold m s at [] (told_beyond at r)
    by (Ok x) e = e
    by (Err kind) e = (kind, e, refl)
run-told {K = K} {S = S} {R = R} m s at (w ∷ ws) = by (m.word s w.text) refl (λ t. run-told m t at ws)
  where
    behind : (t : S) → m.word s w.text ≡ Ok t → (r : Result R (Fault K)) → RunTold m t at ws r → RunTold m s at (w ∷ ws) r
    behind t e (Ok x) told = (t, e, told)
    behind t e (Err f) told = inr (t, e, told)

    by : (r : Result S K) → m.word s w.text ≡ r → ((t : S) → RunTold m t at ws (run_in m t at ws))
        → RunTold m s at (w ∷ ws) (told_at w r >>= λ t. run_in m t at ws)
    by (Ok t) e later = behind t e (run_in m t at ws) (later t)
    by (Err kind) e later = inl (kind, e, refl)

pub run-gives : {K S R : Type 0} (m : Run K S R) (s : S) (at : LineWords) (ws : List PlacedWord) (x : R) → IsRun m s (texts_of ws) x
    → run_in m s at ws ≡ Ok x
unfolding run_in
run-gives m s at [] x h = rw h refl
run-gives m s at (w ∷ ws) x h = rw h.1 (run-gives m h.0 at ws x h.2)

run-fails : {K S R : Type 0} (m : Run K S R) (s : S) (at : LineWords) (ws : List PlacedWord) (f : Fault K)
    → IsRunFault m s at ws f → run_in m s at ws ≡ Err f
unfolding run_in
run-fails m s at [] f h = rw h.1 (ap Err (sym h.2))
run-fails m s at (w ∷ ws) f (inl h) = rw h.1 (ap Err (sym h.2))
run-fails m s at (w ∷ ws) f (inr h) = rw h.1 (run-fails m h.0 at ws f h.2)

-- ---- rows

-- what reading tells
abbrev Told : {K R : Type 0} → Row K R → LineWords → Result R (Fault K) → Type 0
Told row at (Ok x) = IsRow row at x
Told row at (Err f) = IsRowFault row at f

row-told : {K R : Type 0} (row : Row K R) (at : LineWords) → Told row at (row_in row at)
unfolding row_in next done
row-told {K = K} {R = R} (Row.ends extra x) at = by (first_word at) refl
  where
    by : (o : Option (PlacedWord × LineWords)) → first_word at ≡ o
        → Told (Row.ends extra x) at (none_left extra o >>= λ end. Ok x)
    by None n = (n, refl)
    by (Some found) n = record { word = found.0; rest = found.1; next = n; fault = refl }
row-told {K = K} {R = R} (Row.place {V = V} p more) at = by (first_word at) refl (λ x rest. row-told (more x) rest)
  where
    Later : Type 0
    Later = (x : V) (rest : LineWords) → Told (more x) rest (row_in (more x) rest)

    behind : (rest : LineWords) (x : V) → Stands p x at rest → (r : Result R (Fault K)) → Told (more x) rest r
        → Told (Row.place p more) at r
    behind rest x s (Ok y) t = (x, rest, s, t)
    behind rest x s (Err f) t = inr (x, rest, s, t)

    found : (w : PlacedWord) (rest : LineWords) → first_word at ≡ Some (w, rest) → (r : Result V K)
        → p.says rest w.text ≡ r → Later
        → Told (Row.place p more) at (told_at w r >>= λ x. row_in (more x) rest)
    found w rest n (Ok x) e later =
        behind rest x (record { word = w; next = n; right = e }) (row_in (more x) rest) (later x rest)
    found w rest n (Err kind) e later = inl (Lacks.refused w rest kind n e refl)

    by : (o : Option (PlacedWord × LineWords)) → first_word at ≡ o → Later
        → Told (Row.place p more) at (ok_or o (fault_past p.missing at)
        >>= λ w. told_at w.0 (p.says w.1 w.0.text) >>= λ x. row_in (more x) w.1)
    by None n later = inl (Lacks.missing n refl)
    by (Some o) n later = found o.0 o.1 n (p.says o.1 o.0.text) refl later
row-told {K = K} {R = R} (Row.runs m s) at = by (run_in m s at at.words) (run-told m s at at.words)
  where
    by : (r : Result R (Fault K)) → RunTold m s at at.words r → Told (Row.runs m s) at r
    by (Ok x) told = told
    by (Err f) told = told

pub row-gives : {K R : Type 0} (row : Row K R) (at : LineWords) (x : R) → IsRow row at x → row_in row at ≡ Ok x
unfolding row_in next done
row-gives (Row.ends extra x) at y h = rw h.0 (ap Ok h.1)
row-gives (Row.place p more) at y h = rw (h.2.next, h.2.right) (row-gives (more h.0) h.1 y h.3)
row-gives (Row.runs m s) at y h = run-gives m s at at.words y h

pub row-fails : {K R : Type 0} (row : Row K R) (at : LineWords) (f : Fault K) → IsRowFault row at f → row_in row at ≡ Err f
unfolding row_in next done
row-fails (Row.ends extra x) at f h = rw h.next (ap Err (sym h.fault))
row-fails (Row.place p more) at f (inl (Lacks.missing n e)) = rw n (ap Err (sym e))
row-fails (Row.place p more) at f (inl (Lacks.refused w rest kind n r e)) = rw (n, r) (ap Err (sym e))
row-fails (Row.place p more) at f (inr (x, rest, s, h)) = rw (s.next, s.right) (row-fails (more x) rest f h)
row-fails (Row.runs m s) at f h = run-fails m s at at.words f h

pub row-right : {K R : Type 0} (row : Row K R) (at : LineWords) (x : R) → row_in row at ≡ Ok x → IsRow row at x
row-right row at x e = subst (Told row at) e (row-told row at)

pub row-wrong : {K R : Type 0} (row : Row K R) (at : LineWords) (f : Fault K) → row_in row at ≡ Err f → IsRowFault row at f
row-wrong row at f e = subst (Told row at) e (row-told row at)

pub rows-read : {K R : Type 0} (row : Row K R) (at : LineWords)
    → ((x : R) → IsRow row at x ↔ (row_in row at ≡ Ok x)) × ((f : Fault K) → IsRowFault row at f ↔ (row_in row at ≡ Err f))
rows-read row at = (λ x. (row-gives row at x, row-right row at x), λ f. (row-fails row at f, row-wrong row at f))

-- a row is read place by place
pub row-place : {K V R : Type 0} (p : Place K V) (more : V → Row K R) (at : LineWords)
    → row_in (Row.place p more) at ≡ (place_in p at >>= λ x. row_in (more x.0) x.1)
unfolding row_in
row-place {K = K} {V = V} p more at = by (next p.missing at)
  where
    said : (w : PlacedWord) (rest : LineWords) (r : Result V K)
        → (told_at w r >>= λ x. row_in (more x) rest)
        ≡ ((told_at w r >>= left_behind rest) >>= λ x. row_in (more x.0) x.1)
    said w rest (Ok x) = refl
    said w rest (Err kind) = refl

    by : (r : Result (PlacedWord × LineWords) (Fault K))
        → (r >>= λ w. told_at w.0 (p.says w.1 w.0.text) >>= λ x. row_in (more x) w.1)
        ≡ ((r >>= λ w. told_at w.0 (p.says w.1 w.0.text) >>= left_behind w.1) >>= λ x. row_in (more x.0) x.1)
    by (Ok w) = said w.0 w.1 (p.says w.1 w.0.text)
    by (Err f) = refl
