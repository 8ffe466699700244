-- What is read of a voice: each cell may follow the one before it (`voices-follow`), and there is a
-- line for each voice (`voices-length`).
use Rattle.std.proofs.Common.{◌≡◌, ℕ, zero, suc, ◌+◌, ◌-◌, ◌*◌, Bool, true, false, List, [], ◌∷◌, ◌++◌, length, replicate, Option, Some, None, Result, Ok, rules, length-append, refl, ap, subst, arith}
use Rattle.std.specs.Prelude.{◌==◌, not, IsTrue, codes, if◌then◌else◌, option_map}
use Rattle.std.specs.List.{AllByRecursion, flat_map}
use Rattle.std.specs.Option.{ok_or}
use Rattle.fux_pitch.specs.declared.pitch.Pitch.{Pitch}
use Rattle.fux_grid.specs.declared.cell.Cell.{Cell}
use Rattle.fux_grid.specs.declared.cell.Cell.TheVariants.{Rest, Hold, Start}
use Rattle.fux_grid.specs.declared.exercise.Exercise.{Exercise}
use Rattle.fux_grid.specs.Cells.{cell_follows, pitch_of, held}
use Rattle.fux_grid.proofs.PitchTests.{same_pitch-from_equal}
use Rattle.fux_text.specs.declared.fault.TextKind.{TextKind}
use Rattle.fux_text.specs.declared.fault.TextKind.TheVariants as kinds
use Rattle.text_lines.specs.Faults.{◌>>=◌}
use Rattle.text_lines.specs.Lines.{TextLines}
use Rattle.text_lines.specs.Numbers.{if_within}
use Rattle.text_lines.specs.Reading.{same_text}
use Rattle.text_lines.specs.Rows.{IsRun, refused_if}
use Rattle.text_lines.specs.Tables.{IsLine, IsTable}
use Rattle.text_lines.proofs.Binds.{bind_ok, ok_or_ok}
use Rattle.fux_text.specs.declared.item_words.ItemName.{ItemName}
use Rattle.fux_text.specs.declared.item_words.ItemName.TheVariants as names
use Rattle.fux_text.specs.Sing.{Fit, bar_line_said, cantus_or_sung, first_cell, is_full, item_cells, item_named, item_parts, item_said, latest, sing_row, sung_end, sung_run, sung_word, voice_table, voices_table}
use Rattle.voice_lines.specs.Lines.{LineFollows}
use Rattle.voice_lines.proofs.Scores.{rest_follows, start_follows}

-- what goes on behind so many bars
abbrev pub go_on : List Cell → ℕ → Result (ℕ × List Cell) TextKind
go_on cells bar = Ok (bar, cells)

-- the value of a reading
pub value_is : {A E : Type 0} (x y : A) (r : Result A E) → Ok x ≡ r → r ≡ Ok y → x ≡ y
value_is x y r d e = grind (arith, d, e)

follows-append : (before : Cell) (xs ys : List Cell) → LineFollows before xs → LineFollows (latest before xs) ys
    → LineFollows before (xs ++ ys)
follows-append before [] ys f g = g
follows-append before (x ∷ xs) ys f g = (f.0, follows-append x xs ys f.1 g)

-- what is held of a cell follows it, and is held of itself
pub held-follows : (c : Cell) → IsTrue (cell_follows c (held c)) × (held (held c) ≡ held c)
held-follows Rest = (search rules, refl)
held-follows (Hold p) = (same_pitch-from_equal p p refl, refl)
held-follows (Start p) = (same_pitch-from_equal p p refl, refl)

run-follows : (c : Cell) (n : ℕ) → LineFollows c (replicate n (held c))
run-follows c zero = tt
run-follows c (suc n) =
    let one = held-follows c in
    (one.0, subst (λ h. LineFollows (held c) (replicate n h)) one.1 (run-follows (held c) n))

item-follows : (before c : Cell) (n : ℕ) → IsTrue (cell_follows before c) → LineFollows before (item_cells c n)
item-follows before c n h = (h, run-follows c (n - 1))

tie-follows : (before c : Cell) (o : Option Pitch) → pitch_of before ≡ o → option_map Hold o ≡ Some c
    → IsTrue (cell_follows before c)
tie-follows before c None d e = absurd (grind (arith, e))
tie-follows Rest c (Some p) d e = absurd (grind (arith, d))
tie-follows (Hold q) c (Some p) d e =
    let same : Hold q ≡ c = grind (arith, d, e) in
    subst (λ x. IsTrue (cell_follows (Hold q) x)) same (same_pitch-from_equal q q refl)
tie-follows (Start q) c (Some p) d e =
    let same : Hold q ≡ c = grind (arith, d, e) in
    subst (λ x. IsTrue (cell_follows (Start q) x)) same (same_pitch-from_equal q q refl)

first-follows : (begins_bar : Bool) (before c : Cell) (name : ItemName) → first_cell begins_bar before name ≡ Some c
    → IsTrue (cell_follows before c)
first-follows begins_bar before c names.Silence e =
    let same : Rest ≡ c = grind (arith, e) in
    subst (λ x. IsTrue (cell_follows before x)) same (rest_follows before)
first-follows true before c names.Tie e = tie-follows before c (pitch_of before) refl e
first-follows false before c names.Tie e = absurd (grind (arith, e))
first-follows begins_bar before c (names.Note p) e =
    let same : Start p ≡ c = grind (arith, e) in
    subst (λ x. IsTrue (cell_follows before x)) same (start_follows before p)

item_said-follows : (bar : ℕ) (cells : List Cell) (text : List ℕ) (item : Cell × ℕ) → item_said bar cells text ≡ Ok item
    → IsTrue (cell_follows (latest Rest cells) item.0)
unfolding item_said
item_said-follows bar cells text item e =
    let parts = bind_ok (ok_or (item_parts text) kinds.Word) _ item e in
    let name = bind_ok (ok_or (item_named parts.0.0) kinds.Pitch) _ item parts.2 in
    let count = bind_ok (ok_or (if_within 1 8 parts.0.1) kinds.Length) _ item name.2 in
    let first = first_cell (length cells == 8 * bar) (latest Rest cells) name.0 in
    let cell = bind_ok (ok_or first kinds.Tie) _ item count.2 in
    let found = ok_or_ok first kinds.Tie cell.0 cell.1 in
    subst (λ x. IsTrue (cell_follows (latest Rest cells) x.0)) (value_is (cell.0, count.0) item _ refl cell.2)
    (first-follows (length cells == 8 * bar) (latest Rest cells) cell.0 name.0 found)

word-follows : (bars : ℕ) (before out : ℕ × List Cell) (text : List ℕ) → LineFollows Rest before.1
    → sung_word bars before text ≡ Ok out → LineFollows Rest out.1
unfolding sung_word
word-follows bars (bar, cells) out text f e = by (same_text text (codes "|")) e
  where
    by : (b : Bool) → (if b then (bar_line_said bars bar cells >>= λ next. go_on cells next)
        else (item_said bar cells text >>= λ item. go_on (cells ++ item_cells item.0 item.1) bar)) ≡ Ok out
        → LineFollows Rest out.1
    by true e =
        let next = bind_ok (bar_line_said bars bar cells) _ out e in
        subst (λ x. LineFollows Rest x.1) (value_is (next.0, cells) out _ refl next.2) f
    by false e =
        let item = bind_ok (item_said bar cells text) _ out e in
        subst (λ x. LineFollows Rest x.1) (value_is (bar, cells ++ item_cells item.0.0 item.0.1) out _ refl item.2)
        (follows-append Rest cells (item_cells item.0.0 item.0.1) f
        (item-follows (latest Rest cells) item.0.0 item.0.1 (item_said-follows bar cells text item.0 item.1)))

end-same : (bars : ℕ) (before : ℕ × List Cell) (out : List Cell) → sung_end bars before ≡ Ok out → before.1 ≡ out
unfolding sung_end
end-same bars before out e =
    let full = bind_ok (refused_if (not (is_full before.0 before.1)) kinds.Length) _ out e in
    let whole = bind_ok (refused_if (not (before.0 + 1 == bars)) kinds.BarLine) _ out full.2 in
    value_is before.1 out _ refl whole.2

words-follow : (bars : ℕ) (before : ℕ × List Cell) (words : List (List ℕ)) (out : List Cell)
    → LineFollows Rest before.1 → IsRun (sung_run bars) before words out → LineFollows Rest out
words-follow bars before [] out f h = subst (LineFollows Rest) (end-same bars before out h) f
words-follow bars before (word ∷ words) out f h =
    words-follow bars h.0 words out (word-follows bars before h.0 word f h.1) h.2

pub line-follows : (fit : List Cell → Bool) (bars v : ℕ) (text : TextLines) (out : List Cell) (rest : TextLines)
    → IsLine (codes "sing") (sing_row fit bars v) text out rest → LineFollows Rest out
line-follows fit bars v text out rest l = words-follow bars (0, []) _ out tt l.right.3

-- the cells of the cantus follow one another
pub start-follows : (before : Cell) (cantus : List Pitch)
    → LineFollows before (flat_map (λ p. item_cells (Start p) 8) cantus)
start-follows before [] = tt
start-follows before (p ∷ ps) =
    follows-append before (item_cells (Start p) 8) (flat_map (λ q. item_cells (Start q) 8) ps)
    (item-follows before (Start p) 8 (start_follows before p)) (start-follows (latest before (item_cells (Start p) 8)) ps)

voice-follows : (fit : Fit) (ex : Exercise) (v : ℕ) (text : TextLines) (out : List Cell) (rest : TextLines)
    → IsTable (voice_table fit ex v) text out rest → LineFollows Rest out
voice-follows fit ex v text out rest h = by (v == ex.cantus_voice) h
  where
    by : (b : Bool) → IsTable (cantus_or_sung fit ex v b) text out rest → LineFollows Rest out
    by true h = subst (LineFollows Rest) h.0 (start-follows Rest ex.cantus)
    by false h = line-follows (fit v) ex.bars v text out rest h

all-push : (lines : List (List Cell)) (line : List Cell) → AllByRecursion (LineFollows Rest) lines
    → LineFollows Rest line
    → AllByRecursion (LineFollows Rest) (lines ++ line ∷ [])
all-push [] line h f = (f, tt)
all-push (l ∷ ls) line h f = (h.0, all-push ls line h.1 f)

-- the cells of each voice follow one another
pub voices-follow : (fit : Fit) (ex : Exercise) (vs : List ℕ) (before : List (List Cell)) (text : TextLines)
    (out : List (List Cell)) (rest : TextLines)
    → AllByRecursion (LineFollows Rest) before → IsTable (voices_table fit ex vs before) text out rest
    → AllByRecursion (LineFollows Rest) out
voices-follow fit ex [] before text out rest f h = subst (AllByRecursion (LineFollows Rest)) h.0 f
voices-follow fit ex (v ∷ vs) before text out rest f h =
    voices-follow fit ex vs (before ++ h.0 ∷ []) h.1 out rest
    (all-push before h.0 f (voice-follows fit ex v text h.0 h.1 h.2)) h.3

-- each voice has its cells
pub voices-length : (fit : Fit) (ex : Exercise) (vs : List ℕ) (before : List (List Cell)) (text : TextLines)
    (out : List (List Cell)) (rest : TextLines)
    → IsTable (voices_table fit ex vs before) text out rest → length out ≡ length before + length vs
voices-length fit ex [] before text out rest h =
    let same : length before ≡ length out = ap length h.0 in
    omega (arith, same)
voices-length fit ex (v ∷ vs) before text out rest h =
    let later = voices-length fit ex vs (before ++ h.0 ∷ []) h.1 out rest h.3 in
    omega (arith, later, length-append before (h.0 ∷ []))
