-- Reading a table gives what its right lines say, or its first fault, and just that.
use Rattle.std.proofs.Common.{◌≡◌, ◌↔◌, inl, inr, ℕ, Bool, true, false, List, [], ◌∷◌, ◌++◌, Option, Some, None, Result, Ok, Err, refl, sym, ap, subst, ◌∙◌, append_assoc, arith}
use Rattle.std.specs.Prelude.{◌&&◌, if◌then◌else◌}
use Rattle.std.proofs.lemmas.List.{append-nil}
use Rattle.text_lines.specs.Faults.{Fault, ◌>>=◌}
use Rattle.text_lines.specs.Lines.{TextLines, first_line}
use Rattle.text_lines.specs.Reading.{begins, fault_at, fault_here, fault_past, headed, literal, next, no_line, none_of_lines, same_text, word_is}
use Rattle.text_lines.specs.Rows.{Lacks, Row, right_word, row_in}
use Rattle.text_lines.specs.Tables.{AreMany, GoesWrong, IsLine, IsLineFault, IsTable, IsTableFault, Many, NextBegins, Table, goes_on, line_in, many_in, table_in}
use Rattle.text_lines.specs.Words.{LineWords, PlacedWord, first_word}
use Rattle.text_lines.proofs.RowLemmas.{row-fails, row-gives, row-right, row-wrong}

-- ---- one line

line-missing : {K V : Type 0} (lacking other : K) (name : List ℕ) (row : Row K V) (text : TextLines) → first_line text ≡ None
    → line_in lacking other name row text ≡ Err (record { kind = lacking; line = text.after; column = 1 })
unfolding line_in headed
line-missing lacking other name row text n = rw n refl

line-bare : {K V : Type 0} (lacking other : K) (name : List ℕ) (row : Row K V) (text : TextLines) (first : LineWords)
    (rest : TextLines)
    → first_line text ≡ Some (first, rest) → first_word first ≡ None
    → line_in lacking other name row text ≡ Err (fault_past other first)
unfolding line_in headed literal next
line-bare lacking other name row text first rest n o = rw (n, o) refl

line-other : {K V : Type 0} (lacking other : K) (name : List ℕ) (row : Row K V) (text : TextLines) (first : LineWords)
    (rest : TextLines) (w : PlacedWord) (words : LineWords)
    → first_line text ≡ Some (first, rest) → first_word first ≡ Some (w, words) → same_text w.text name ≡ false
    → line_in lacking other name row text ≡ Err (fault_at other w)
unfolding line_in headed literal next
line-other lacking other name row text first rest w words n o s = rw (n, o, s) refl

line-named : {K V : Type 0} (lacking other : K) (name : List ℕ) (row : Row K V) (text : TextLines) (first : LineWords)
    (rest : TextLines) (w : PlacedWord) (words : LineWords)
    → first_line text ≡ Some (first, rest) → first_word first ≡ Some (w, words) → same_text w.text name ≡ true
    → line_in lacking other name row text ≡ (row_in row words >>= λ x. Ok (x, rest))
unfolding line_in headed literal next
line-named lacking other name row text first rest w words n o s = rw (n, o, s) refl

-- what the place of a line's name doesn't say
unsaid : {K : Type 0} (same : Bool) (other kind : K) → right_word other same ≡ Err kind → (same ≡ false) × (other ≡ kind)
unsaid true other kind e = absurd (grind (arith, e))
unsaid false other kind e = (refl, grind (arith, e))

pub line-begun : {K V : Type 0} (lacking other : K) (name : List ℕ) (row : Row K V) (text : TextLines) (words : LineWords)
    (rest : TextLines)
    → NextBegins name text words rest → line_in lacking other name row text ≡ (row_in row words >>= λ x. Ok (x, rest))
line-begun lacking other name row text words rest b =
    line-named lacking other name row text b.line rest b.word words b.next b.first b.same

abbrev LineTold : {K V : Type 0} → K → K → List ℕ → Row K V → TextLines → Result (V × TextLines) (Fault K) → Type 0
LineTold lacking other name row text (Ok x) = IsLine name row text x.0 x.1
LineTold lacking other name row text (Err f) = IsLineFault lacking other name row text f

line-told : {K V : Type 0} (lacking other : K) (name : List ℕ) (row : Row K V) (text : TextLines)
    → LineTold lacking other name row text (line_in lacking other name row text)
line-told {K = K} {V = V} lacking other name row text = by (first_line text) refl
  where
    Goal : Result (V × TextLines) (Fault K) → Type 0
    Goal r = LineTold lacking other name row text r

    behind : (words : LineWords) (rest : TextLines) → NextBegins name text words rest → (r : Result V (Fault K))
        → row_in row words ≡ r → Goal (r >>= λ x. Ok (x, rest))
    behind words rest b (Ok x) e = record { words = words; begins = b; right = row-right row words x e }
    behind words rest b (Err f) e =
        IsLineFault.within (record { words = words; rest = rest; begins = b; wrong = row-wrong row words f e })

    named : (first : LineWords) (rest : TextLines) → first_line text ≡ Some (first, rest) → (w : PlacedWord)
        (words : LineWords)
        → first_word first ≡ Some (w, words) → (same : Bool) → same_text w.text name ≡ same
        → Goal (line_in lacking other name row text)
    named first rest n w words o true s =
        let b : NextBegins name text words rest =
        record { line = first; word = w; next = n; first = o; same = s } in
        subst Goal (sym (line-begun lacking other name row text words rest b)) (behind words rest b (row_in row words) refl)
    named first rest n w words o false s =
        subst Goal (sym (line-other lacking other name row text first rest w words n o s))
        (IsLineFault.wrong_name first rest n (Lacks.refused w words other o (rw s refl) refl))

    word : (first : LineWords) (rest : TextLines) → first_line text ≡ Some (first, rest)
        → (o : Option (PlacedWord × LineWords)) → first_word first ≡ o → Goal (line_in lacking other name row text)
    word first rest n None o =
        subst Goal (sym (line-bare lacking other name row text first rest n o))
        (IsLineFault.wrong_name first rest n (Lacks.missing o refl))
    word first rest n (Some found) o = named first rest n found.0 found.1 o (same_text found.0.text name) refl

    by : (o : Option (LineWords × TextLines)) → first_line text ≡ o → Goal (line_in lacking other name row text)
    by None n = subst Goal (sym (line-missing lacking other name row text n)) (IsLineFault.missing n refl)
    by (Some found) n = word found.0 found.1 n (first_word found.0) refl

line-gives : {K V : Type 0} (lacking other : K) (name : List ℕ) (row : Row K V) (text : TextLines) (x : V) (rest : TextLines)
    → IsLine name row text x rest → line_in lacking other name row text ≡ Ok (x, rest)
line-gives lacking other name row text x rest h =
    line-begun lacking other name row text h.words rest h.begins ∙ rw (row-gives row h.words x h.right) refl

wrong-fails : {K V : Type 0} (lacking other : K) (name : List ℕ) (row : Row K V) (text : TextLines) (f : Fault K)
    → GoesWrong name row text f → line_in lacking other name row text ≡ Err f
wrong-fails lacking other name row text f h =
    line-begun lacking other name row text h.words h.rest h.begins ∙ rw (row-fails row h.words f h.wrong) refl

line-fails : {K V : Type 0} (lacking other : K) (name : List ℕ) (row : Row K V) (text : TextLines) (f : Fault K)
    → IsLineFault lacking other name row text f → line_in lacking other name row text ≡ Err f
line-fails lacking other name row text f (IsLineFault.missing n e) = line-missing lacking other name row text n ∙ ap Err (sym e)
line-fails lacking other name row text f (IsLineFault.wrong_name first rest n (Lacks.missing o e)) =
    line-bare lacking other name row text first rest n o ∙ ap Err (sym e)
line-fails lacking other name row text f (IsLineFault.wrong_name first rest n (Lacks.refused w words k o r e)) =
    let u = unsaid (same_text w.text name) other k r in
    line-other lacking other name row text first rest w words n o u.0 ∙ ap (λ k. Err (fault_at k w)) u.1 ∙ ap Err (sym e)
line-fails lacking other name row text f (IsLineFault.within h) = wrong-fails lacking other name row text f h

-- what is left behind a line
pub line-rest : {K V : Type 0} (lacking other : K) (name : List ℕ) (row : Row K V) (after : ℕ) (first : LineWords)
    (others : List LineWords) (x : V) (rest : TextLines)
    → line_in lacking other name row (record { after = after; lines = first ∷ others }) ≡ Ok (x, rest)
    → rest ≡ record { after = after; lines = others }
line-rest lacking other name row after first others x rest e =
    let text : TextLines = record { after = after; lines = first ∷ others } in
    found (subst (LineTold lacking other name row text) e (line-told lacking other name row text)).begins.next
  where
    found : {line : LineWords} → first_line (record { after = after; lines = first ∷ others }) ≡ Some (line, rest)
        → rest ≡ record { after = after; lines = others }
    found e = grind (arith, e)

-- ---- lines of one name

-- a line that begins with a name
begun : (name : List ℕ) (after : ℕ) (first : LineWords) (others : List LineWords)
    → begins name (record { after = after; lines = first ∷ others }) ≡ true
    → (words : LineWords) × NextBegins name (record { after = after; lines = first ∷ others }) words
    (record { after = after; lines = others })
unfolding begins
begun name after first others b = by (first_word first) refl b
  where
    by : (o : Option (PlacedWord × LineWords)) → first_word first ≡ o → word_is name o ≡ true
        → (words : LineWords) × NextBegins name (record { after = after; lines = first ∷ others }) words
        (record { after = after; lines = others })
    by None o b = absurd (grind (arith, b))
    by (Some found) o b =
        (found.1, record { line = first; word = found.0; next = refl; first = o; same = b })

-- no line is left to go on
pub none_go : {K V : Type 0} (m : Many K V) (before : List V) (after : ℕ) → goes_on m before (record { after = after; lines = [] })
    ≡ false
unfolding begins
none_go m before after = by (m.goes before)
  where
    by : (b : Bool) → (b && false) ≡ false
    by true = refl
    by false = refl

begins_too : (a b : Bool) → (a && b) ≡ true → b ≡ true
begins_too true b e = e
begins_too false b e = absurd (grind (arith, e))

pub many-one : {K V : Type 0} (m : Many K V) (before : List V) (after : ℕ) (first : LineWords) (others : List LineWords)
    → goes_on m before (record { after = after; lines = first ∷ others }) ≡ true
    → many_in m before after (first ∷ others)
    ≡ (line_in m.other m.other m.name (m.row before) (record { after = after; lines = first ∷ others })
    >>= λ x. many_in m (before ++ x.0 ∷ []) after others)
unfolding many_in
many-one m before after first others e = rw e refl

pub many-stops : {K V : Type 0} (m : Many K V) (before : List V) (after : ℕ) (lines : List LineWords)
    → goes_on m before (record { after = after; lines = lines }) ≡ false
    → many_in m before after lines ≡ Ok (before, record { after = after; lines = lines })
unfolding many_in
many-stops m before after [] e = refl
many-stops m before after (first ∷ others) e = rw e refl

abbrev with_rest : {K V : Type 0} → TextLines → V → Result (V × TextLines) (Fault K)
with_rest rest x = Ok (x, rest)

-- what is told of lines behind those before
record Rest {K V : Type 0} (m : Many K V) (before : List V) (text : TextLines) (xs : List V) (rest : TextLines)
    : Type 0 where
  pub more : List V
  pub all : before ++ more ≡ xs
  pub lines : AreMany m before more text rest
  pub no_more : goes_on m xs rest ≡ false

record Fault_behind {K V : Type 0} (m : Many K V) (before : List V) (text : TextLines) (f : Fault K) : Type 0 where
  pub more : List V
  pub xs : List V
  pub all : before ++ more ≡ xs
  pub here : TextLines
  pub lines : AreMany m before more text here
  pub one_more : goes_on m xs here ≡ true
  pub wrong : GoesWrong m.name (m.row xs) here f

abbrev ManyTold : {K V : Type 0} → Many K V → List V → TextLines → Result (List V × TextLines) (Fault K) → Type 0
ManyTold m before text (Ok x) = Rest m before text x.0 x.1
ManyTold m before text (Err f) = Fault_behind m before text f

many-told : {K V : Type 0} (m : Many K V) (before : List V) (after : ℕ) (lines : List LineWords)
    → ManyTold m before (record { after = after; lines = lines }) (many_in m before after lines)
many-told {K = K} {V = V} m before after [] =
    subst (ManyTold m before (record { after = after; lines = [] }))
    (sym (many-stops m before after [] (none_go m before after)))
    (record { more = []; all = append-nil before; lines = refl; no_more = none_go m before after })
many-told {K = K} {V = V} m before after (first ∷ others) =
    by (goes_on m before text) refl (λ x. many-told m (before ++ x ∷ []) after others)
  where
    text : TextLines
    text = record { after = after; lines = first ∷ others }

    rest : TextLines
    rest = record { after = after; lines = others }

    Goal : Result (List V × TextLines) (Fault K) → Type 0
    Goal r = ManyTold m before text r

    Later : Type 0
    Later = (x : V) → ManyTold m (before ++ x ∷ []) rest (many_in m (before ++ x ∷ []) after others)

    step : goes_on m before text ≡ true → (x : V) → IsLine m.name (m.row before) text x rest
        → (r : Result (List V × TextLines) (Fault K)) → ManyTold m (before ++ x ∷ []) rest r → Goal r
    step g x l (Ok found) t = record {
      more = x ∷ t.more;
      all = sym (append_assoc before (x ∷ []) t.more) ∙ t.all;
      lines = (g, rest, l, t.lines);
      no_more = t.no_more;
    }
    step g x l (Err f) t = record {
      more = x ∷ t.more;
      xs = t.xs;
      all = sym (append_assoc before (x ∷ []) t.more) ∙ t.all;
      here = t.here;
      lines = (g, rest, l, t.lines);
      one_more = t.one_more;
      wrong = t.wrong;
    }

    read : goes_on m before text ≡ true → (words : LineWords) → NextBegins m.name text words rest
        → (r : Result V (Fault K)) → row_in (m.row before) words ≡ r → Later
        → Goal ((r >>= with_rest rest) >>= λ x. many_in m (before ++ x.0 ∷ []) after others)
    read g words b (Ok x) e later =
        step g x (record { words = words; begins = b; right = row-right (m.row before) words x e })
        (many_in m (before ++ x ∷ []) after others) (later x)
    read g words b (Err f) e later = record {
      more = [];
      xs = before;
      all = append-nil before;
      here = text;
      lines = refl;
      one_more = g;
      wrong = record { words = words; rest = rest; begins = b; wrong = row-wrong (m.row before) words f e };
    }

    by : (go : Bool) → goes_on m before text ≡ go → Later → Goal (many_in m before after (first ∷ others))
    by true g later =
        let b = begun m.name after first others (begins_too (m.goes before) _ g) in
        subst Goal (sym (many-one m before after first others g
        ∙ ap (λ r. r >>= λ x. many_in m (before ++ x.0 ∷ []) after others)
        (line-begun m.other m.other m.name (m.row before) text b.0 rest b.1)))
        (read g b.0 b.1 (row_in (m.row before) b.0) refl later)
    by false g later =
        subst Goal (sym (many-stops m before after (first ∷ others) g))
        (record { more = []; all = append-nil before; lines = refl; no_more = g })

-- a line more is the next one
many-line : {K V : Type 0} (m : Many K V) (before : List V) (after : ℕ) (lines : List LineWords) (words : LineWords)
    (rest : TextLines)
    → goes_on m before (record { after = after; lines = lines }) ≡ true
    → NextBegins m.name (record { after = after; lines = lines }) words rest
    → many_in m before after lines
    ≡ ((row_in (m.row before) words >>= with_rest rest)
    >>= λ x. many_in m (before ++ x.0 ∷ []) x.1.after x.1.lines)
many-line m before after [] words rest g b = absurd (grind (arith, b.next))
many-line {K = K} {V = V} m before after (first ∷ others) words rest g b =
    let behind : TextLines = record { after = after; lines = others } in
    let text : TextLines = record { after = after; lines = first ∷ others } in
    let same : behind ≡ rest = found_rest (b.next) in
    many-one m before after first others g
    ∙ ap (λ r. r >>= λ x. many_in m (before ++ x.0 ∷ []) after others)
    (line-begun m.other m.other m.name (m.row before) text words rest b)
    ∙ by (row_in (m.row before) words) same
  where
    found_rest : {line : LineWords} → first_line (record { after = after; lines = first ∷ others }) ≡ Some (line, rest)
        → record { after = after; lines = others } ≡ rest
    found_rest e = grind (arith, e)

    by : (r : Result V (Fault K)) → record { after = after; lines = others } ≡ rest
        → ((r >>= with_rest rest) >>= λ x. many_in m (before ++ x.0 ∷ []) after others)
        ≡ ((r >>= with_rest rest) >>= λ x. many_in m (before ++ x.0 ∷ []) x.1.after x.1.lines)
    by (Ok x) e = ap (λ (t : TextLines). many_in m (before ++ x ∷ []) t.after t.lines) e
    by (Err f) e = refl

many-gives : {K V : Type 0} (m : Many K V) (before more : List V) (text rest : TextLines) → AreMany m before more text rest
    → goes_on m (before ++ more) rest ≡ false
    → many_in m before text.after text.lines ≡ Ok (before ++ more, rest)
many-gives m before [] text rest h none =
    subst (λ (t : TextLines). many_in m before t.after t.lines ≡ Ok (before ++ [], rest)) (sym h)
    (many-stops m before rest.after rest.lines
    (subst (λ xs. goes_on m xs rest ≡ false) (append-nil before) none)
    ∙ ap (λ xs. Ok (xs, rest)) (sym (append-nil before)))
many-gives m before (x ∷ more) text rest h none =
    let l = h.2 in
    many-line m before text.after text.lines l.words h.1 h.0 l.begins
    ∙ rw (row-gives (m.row before) l.words x l.right)
    (many-gives m (before ++ x ∷ []) more h.1 rest h.3
    (subst (λ xs. goes_on m xs rest ≡ false) (sym (append_assoc before (x ∷ []) more)) none)
    ∙ ap (λ xs. Ok (xs, rest)) (append_assoc before (x ∷ []) more))

many-fails : {K V : Type 0} (m : Many K V) (before more : List V) (text here : TextLines) (f : Fault K)
    → AreMany m before more text here → goes_on m (before ++ more) here ≡ true
    → GoesWrong m.name (m.row (before ++ more)) here f → many_in m before text.after text.lines ≡ Err f
many-fails m before [] text here f h go w =
    let same : before ++ [] ≡ before = append-nil before in
    let wrong : GoesWrong m.name (m.row before) here f = subst (λ xs. GoesWrong m.name (m.row xs) here f) same w in
    subst (λ (t : TextLines). many_in m before t.after t.lines ≡ Err f) (sym h)
    (many-line m before here.after here.lines wrong.words wrong.rest (subst (λ xs. goes_on m xs here ≡ true) same go)
    wrong.begins
    ∙ rw (row-fails (m.row before) wrong.words f wrong.wrong) refl)
many-fails m before (x ∷ more) text here f h go w =
    let l = h.2 in
    let same : (before ++ x ∷ []) ++ more ≡ before ++ x ∷ more = append_assoc before (x ∷ []) more in
    many-line m before text.after text.lines l.words h.1 h.0 l.begins
    ∙ rw (row-gives (m.row before) l.words x l.right)
    (many-fails m (before ++ x ∷ []) more h.1 here f h.3
    (subst (λ xs. goes_on m xs here ≡ true) (sym same) go)
    (subst (λ xs. GoesWrong m.name (m.row xs) here f) (sym same) w))

-- ---- tables

abbrev Told : {K R : Type 0} → Table K R → TextLines → Result (R × TextLines) (Fault K) → Type 0
Told table text (Ok x) = IsTable table text x.0 x.1
Told table text (Err f) = IsTableFault table text f

table-told : {K R : Type 0} (table : Table K R) (text : TextLines) → Told table text (table_in table text)
unfolding table_in no_line
table-told (Table.says x) text = (refl, refl)
table-told {K = K} {R = R} (Table.line lacking other name row) text = by (line_in lacking other name row text) (line-told lacking other name row text)
  where
    by : (r : Result (R × TextLines) (Fault K)) → LineTold lacking other name row text r → Told (Table.line lacking other name row) text r
    by (Ok x) told = told
    by (Err f) told = told
table-told {K = K} (Table.many {V = V} m) text =
    by (many_in m [] text.after text.lines) (many-told m [] text.after text.lines)
  where
    by : (r : Result (List V × TextLines) (Fault K)) → ManyTold m [] text r → Told (Table.many m) text r
    by (Ok x) t = record {
      lines = subst (λ xs. AreMany m [] xs text x.1) t.all t.lines;
      no_more = t.no_more;
    }
    by (Err f) t = record {
      before = t.xs;
      here = t.here;
      lines = subst (λ xs. AreMany m [] xs text t.here) t.all t.lines;
      one_more = t.one_more;
      wrong = t.wrong;
    }
table-told (Table.needs true kind) text = (refl, refl)
table-told (Table.needs false kind) text = (refl, refl)
table-told (Table.ends kind) text = by (first_line text) refl
  where
    by : (o : Option (LineWords × TextLines)) → first_line text ≡ o
        → Told (Table.ends kind) text (none_of_lines (fault_here kind text) o >>= λ end. with_rest text tt)
    by None n = (n, refl)
    by (Some found) n = (found.0, found.1, n, refl)
table-told {K = K} {R = R} (Table.if_begins name one other) text =
    by (begins name text) refl (table-told one text) (table-told other text)
  where
    first : begins name text ≡ true → (r : Result (R × TextLines) (Fault K)) → Told one text r
        → Told (Table.if_begins name one other) text r
    first b (Ok x) t = inl (b, t)
    first b (Err f) t = inl (b, t)

    second : begins name text ≡ false → (r : Result (R × TextLines) (Fault K)) → Told other text r
        → Told (Table.if_begins name one other) text r
    second b (Ok x) t = inr (b, t)
    second b (Err f) t = inr (b, t)

    by : (b : Bool) → begins name text ≡ b → Told one text (table_in one text) → Told other text (table_in other text)
        → Told (Table.if_begins name one other) text (if b then table_in one text else table_in other text)
    by true b t u = first b (table_in one text) t
    by false b t u = second b (table_in other text) u
table-told {K = K} {R = R} (Table.behind {V = V} front more) text =
    by (table_in front text) (table-told front text) (λ x between. table-told (more x) between)
  where
    Later : Type 0
    Later = (x : V) (between : TextLines) → Told (more x) between (table_in (more x) between)

    step : (x : V) (between : TextLines) → IsTable front text x between → (r : Result (R × TextLines) (Fault K))
        → Told (more x) between r
        → Told (Table.behind front more) text r
    step x between h (Ok y) t = (x, between, h, t)
    step x between h (Err f) t = inr (x, between, h, t)

    by : (r : Result (V × TextLines) (Fault K)) → Told front text r → Later
        → Told (Table.behind front more) text (r >>= λ x. table_in (more x.0) x.1)
    by (Ok x) h later = step x.0 x.1 h (table_in (more x.0) x.1) (later x.0 x.1)
    by (Err f) h later = inl h

pub table-gives : {K R : Type 0} (table : Table K R) (text : TextLines) (x : R) (rest : TextLines)
    → IsTable table text x rest → table_in table text ≡ Ok (x, rest)
unfolding table_in no_line
table-gives (Table.says x) text y rest h = rw (h.0, h.1) refl
table-gives (Table.line lacking other name row) text y rest h = line-gives lacking other name row text y rest h
table-gives (Table.many m) text y rest h = many-gives m [] y text rest h.lines h.no_more
table-gives (Table.needs true kind) text y rest h = ap (λ t. Ok (tt, t)) h.1
table-gives (Table.needs false kind) text y rest h = absurd (grind (arith, h.0))
table-gives (Table.ends kind) text y rest h = rw h.0 (ap (λ t. Ok (tt, t)) h.1)
table-gives (Table.if_begins name one other) text y rest (inl h) = rw h.0 (table-gives one text y rest h.1)
table-gives (Table.if_begins name one other) text y rest (inr h) = rw h.0 (table-gives other text y rest h.1)
table-gives (Table.behind front more) text y rest h =
    rw (table-gives front text h.0 h.1 h.2) (table-gives (more h.0) h.1 y rest h.3)

pub table-fails : {K R : Type 0} (table : Table K R) (text : TextLines) (f : Fault K) → IsTableFault table text f
    → table_in table text ≡ Err f
unfolding table_in no_line
table-fails (Table.says x) text f h = absurd h
table-fails (Table.line lacking other name row) text f h = line-fails lacking other name row text f h
table-fails (Table.many m) text f h = many-fails m [] h.before text h.here f h.lines h.one_more h.wrong
table-fails (Table.needs true kind) text f h = absurd (grind (arith, h.0))
table-fails (Table.needs false kind) text f h = ap Err (sym h.1)
table-fails (Table.ends kind) text f h = rw h.2 (ap Err (sym h.3))
table-fails (Table.if_begins name one other) text f (inl h) = rw h.0 (table-fails one text f h.1)
table-fails (Table.if_begins name one other) text f (inr h) = rw h.0 (table-fails other text f h.1)
table-fails (Table.behind front more) text f (inl h) = rw (table-fails front text f h) refl
table-fails (Table.behind front more) text f (inr (x, between, h, t)) =
    rw (table-gives front text x between h) (table-fails (more x) between f t)

pub table-right : {K R : Type 0} (table : Table K R) (text : TextLines) (x : R) (rest : TextLines)
    → table_in table text ≡ Ok (x, rest) → IsTable table text x rest
table-right table text x rest e = subst (Told table text) e (table-told table text)

pub table-wrong : {K R : Type 0} (table : Table K R) (text : TextLines) (f : Fault K) → table_in table text ≡ Err f
    → IsTableFault table text f
table-wrong table text f e = subst (Told table text) e (table-told table text)

-- a table is read just where its lines are right, and a fault is told just where it is the first
-- one
pub tables-read : {K R : Type 0} (table : Table K R) (text : TextLines)
    → ((x : R) (rest : TextLines) → IsTable table text x rest ↔ (table_in table text ≡ Ok (x, rest)))
    × ((f : Fault K) → IsTableFault table text f ↔ (table_in table text ≡ Err f))
tables-read table text = (
  λ x rest. (table-gives table text x rest, table-right table text x rest),
  λ f. (table-fails table text f, table-wrong table text f),
)
