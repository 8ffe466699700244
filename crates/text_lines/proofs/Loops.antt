-- Reading lines of one name, or the words of a run, one after the other, as a loop does.
use Rattle.std.proofs.Common.{◌≡◌, ℕ, ◌+◌, ◌<◌, true, false, List, [], ◌∷◌, ◌++◌, length, Some, None, Result, Ok, refl, sym, subst, ◌∙◌, arith}
use Rattle.text_lines.specs.declared.fault.TextFault.{TextFault}
use Rattle.text_lines.specs.declared.fault.TextFault.TheVariants as faults
use Rattle.text_lines.specs.Faults.{Fault, Fails, ◌>>=◌}
use Rattle.text_lines.specs.Lines.{TextLines}
use Rattle.text_lines.specs.Rows.{Run, run_in, told_at, told_beyond}
use Rattle.text_lines.specs.Tables.{Many, goes_on, line_in, many_in}
use Rattle.text_lines.specs.Words.{LineWords, PlacedWord, first_of}
use Rattle.text_lines.proofs.TableLemmas.{line-rest, many-one, many-stops, none_go}

-- one line more
pub many-more : {K V : Type 0} (m : Many K V) (before : List V) (after : ℕ) (lines : List LineWords) (x : V)
    (rest : TextLines) (total : Result (List V × TextLines) (Fault K))
    → true ≡ goes_on m before (record { after = after; lines = lines })
    → line_in m.other m.other m.name (m.row before) (record { after = after; lines = lines }) ≡ Ok (x, rest)
    → many_in m before after lines ≡ total
    → (many_in m (before ++ x ∷ []) rest.after rest.lines ≡ total) × (length rest.lines < length lines)
many-more m before after [] x rest total b h so_far = absurd (grind (arith, b, none_go m before after))
many-more m before after (first ∷ others) x rest total b h so_far =
    let same = line-rest m.other m.other m.name (m.row before) after first others x rest h in
    let one : many_in m before after (first ∷ others) ≡ many_in m (before ++ x ∷ []) after others =
    many-one m before after first others (sym b) ∙ rw h refl in
    subst (λ (t : TextLines). (many_in m (before ++ x ∷ []) t.after t.lines ≡ total)
    × (length t.lines < length (first ∷ others))) (sym same) (sym one ∙ so_far, omega arith)

-- no more where a line is wrong
pub many-fail : {K V : Type 0} (e : TextFault K) (m : Many K V) (before : List V) (after : ℕ) (lines : List LineWords)
    (total : Result (List V × TextLines) (Fault K)) → true ≡ goes_on m before (record { after = after; lines = lines })
    → Fails e (line_in m.other m.other m.name (m.row before) (record { after = after; lines = lines }))
    → many_in m before after lines ≡ total → Fails e total
many-fail faults.Memory m before after lines total b h so_far = tt
many-fail (faults.At kind line column) m before after [] total b h so_far =
    absurd (grind (arith, b, none_go m before after))
many-fail (faults.At kind l column) m before after (first ∷ others) total b h so_far =
    sym so_far ∙ many-one m before after first others (sym b) ∙ rw h refl

-- all lines
pub many-all : {K V : Type 0} (m : Many K V) (before : List V) (after : ℕ) (lines : List LineWords)
    (total : Result (List V × TextLines) (Fault K)) → false ≡ goes_on m before (record { after = after; lines = lines })
    → many_in m before after lines ≡ total → total ≡ Ok (before, record { after = after; lines = lines })
many-all m before after lines total b so_far = sym so_far ∙ many-stops m before after lines (sym b)

-- ---- runs

-- a word is the next one
run-next : {K S R : Type 0} (m : Run K S R) (s : S) (line at : LineWords) (ws : List PlacedWord) (w : PlacedWord)
    (rest : LineWords) → Some (w, rest) ≡ first_of at ws
    → run_in m s line ws ≡ (told_at w (m.word s w.text) >>= λ t. run_in m t line rest.words)
unfolding run_in
run-next m s line at [] w rest e = absurd (grind (arith, e))
run-next {S = S} m s line at (v ∷ vs) w rest e = by (found e)
  where
    left : LineWords
    left = record at { past = v.column + length v.text; words = vs }

    found : Some (w, rest) ≡ first_of at (v ∷ vs) → (w ≡ v) × (rest ≡ left)
    found e = (grind (arith, e), grind (arith, e))

    by : (w ≡ v) × (rest ≡ left)
        → run_in m s line (v ∷ vs) ≡ (told_at w (m.word s w.text) >>= λ t. run_in m t line rest.words)
    by same = rw (same.0, same.1) refl

-- a word at fault
pub run-fail : {K S R : Type 0} (e : TextFault K) (m : Run K S R) (s : S) (line at : LineWords) (ws : List PlacedWord)
    (w : PlacedWord) (rest : LineWords) (total : Result R (Fault K)) → Some (w, rest) ≡ first_of at ws
    → Fails e (told_at w (m.word s w.text)) → run_in m s line ws ≡ total → Fails e total
run-fail faults.Memory m s line at ws w rest total first h so_far = tt
run-fail (faults.At kind l column) m s line at ws w rest total first h so_far =
    sym so_far ∙ run-next m s line at ws w rest first ∙ rw h refl

-- a word more
pub run-more : {K S R : Type 0} (m : Run K S R) (s t : S) (line at : LineWords) (ws : List PlacedWord) (w : PlacedWord)
    (rest : LineWords) (total : Result R (Fault K)) → Some (w, rest) ≡ first_of at ws
    → told_at w (m.word s w.text) ≡ Ok t → run_in m s line ws ≡ total → run_in m t line rest.words ≡ total
run-more m s t line at ws w rest total first h so_far =
    sym (run-next m s line at ws w rest first ∙ rw h refl) ∙ so_far

-- no word is left
pub run-done : {K S R : Type 0} (m : Run K S R) (s : S) (line at : LineWords) (ws : List PlacedWord) (total : Result R (Fault K))
    → None ≡ first_of at ws → run_in m s line ws ≡ total → total ≡ told_beyond line (m.end s)
unfolding run_in
run-done m s line at [] total first so_far = sym so_far
run-done m s line at (v ∷ vs) total first so_far = absurd (grind (arith, first))
