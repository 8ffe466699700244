-- What S15 says of a place, read from the notes around it.
use Rattle.std.specs.Prelude.{◌≡◌, ℕ, ◌+◌, ◌-◌, ◌*◌, ◌<◌, ◌≤◌, Bool, true, false, not, ◌&&◌, ◌||◌, nat_lt, List, [], ◌∷◌, Option, None, is_some, drop, take, length, slice_index_or, if◌then◌else◌, refl}
use Rattle.std.proofs.Common.{ap, sym, ◌∙◌, arith}
use Rattle.std.proofs.lemmas.List.{length-drop, length-take-le, take_all}
use Rattle.fux_pitch.specs.declared.pitch.Pitch.{Pitch}
use Rattle.fux_grid.specs.declared.cell.Cell.{Cell}
use Rattle.fux_grid.specs.declared.cell.Onset.{Onset}
use Rattle.fux_grid.specs.declared.exercise.Exercise.{Exercise}
use Rattle.fux_grid.specs.Cells.{first_of, pitch_of}
use Rattle.fux_grid.specs.Columns.{cell_at, earlier, line}
use Rattle.fux_grid.specs.Exercises.{species_in}
use Rattle.rule_law.specs.Degrees.{lies_above}
use Rattle.rule_law.specs.After.{next_onset, onset_pitch, second_next_onset, second_of}
use Rattle.rule_law.specs.Terms.{previous_pitch}
use Rattle.rule_law.specs.Within.{notes_within}
use Rattle.dissonance_rules.specs.Passing.{bends_down, has_notes_after, has_ornaments, is_good, is_good_note, is_neighbor, is_open_clash, is_passing, reaches_last_bar, starts_clean, starts_in_clash}

-- without a first there is no second
pub no_second : {X : Type 0} (xs : List X) → None ≡ first_of xs → None ≡ second_of xs
no_second [] h = refl
no_second (x ∷ xs) h = cc

good_same : (sp sp' : ℕ) (p p' h h' n n' : Option Pitch) (c c' : Bool) (a a' : Option Pitch) → sp ≡ sp' → p ≡ p' → h
    ≡ h' → n ≡ n' → c ≡ c' → a ≡ a' → is_good sp p h n c a ≡ is_good sp' p' h' n' c' a'
good_same sp sp' p p' h h' n n' c c' a a' e1 e2 e3 e4 e5 e6 =
    ap (λ x. is_good x p h n c a) e1
    ∙ ap (λ x. is_good sp' x h n c a) e2
    ∙ ap (λ x. is_good sp' p' x n c a) e3
    ∙ ap (λ x. is_good sp' p' h' x c a) e4
    ∙ ap (λ x. is_good sp' p' h' n' x a) e5
    ∙ ap (λ x. is_good sp' p' h' n' c' x) e6

-- what is found of the notes before, at and after a place of a list
pub record IsFound (s : List (List Cell)) (i v end : ℕ) (previous : Option Pitch) (now : Cell)
    (next second : Option Onset) (clean : Bool) : Type 0 where
  pub previous_is : previous ≡ previous_pitch (line v (earlier s i))
  pub now_is : now ≡ cell_at s v i
  pub next_is : next ≡ first_of (notes_within s end v (i + 1))
  pub second_is : second ≡ second_of (notes_within s end v (i + 1))
  pub clean_is : clean ≡ starts_clean i (drop (i + 1) s) v next

pub good_found : (species : ℕ) (s : List (List Cell)) (i v end : ℕ) (previous : Option Pitch) (now : Cell)
    (next second : Option Onset) (clean : Bool) → end ≡ length s
    → IsFound s i v end previous now next second clean
    → is_good species previous (pitch_of now) (onset_pitch next) clean (onset_pitch second)
    ≡ is_good_note species i (earlier s i) (slice_index_or s i []) (drop (i + 1) s) v
good_found species s i v end previous now next second clean size found =
    good_same species species _ _ _ _ _ _ _ _ _ _ refl
    found.previous_is
    (ap pitch_of found.now_is)
    (ap onset_pitch first)
    (found.clean_is ∙ ap (starts_clean i (drop (i + 1) s) v) first)
    (ap onset_pitch (found.second_is ∙ ap (λ cols. second_next_onset i v (drop (i + 1) cols)) all))
  where
    all : take end s ≡ s
    all = take_all end s (omega (arith, size))

    first : next ≡ next_onset i v (drop (i + 1) s)
    first = found.next_is ∙ ap (λ cols. next_onset i v (drop (i + 1) cols)) all

-- that the voice is clean at the next note matters only where the pitches may be a cambiata's
good_bent : (p b f l c a : Bool) → (p || (b && (f || ((l && (l && c)) && a)))) ≡ (p || (b && (f || ((l && c) && a))))
good_bent p b f true c a = refl
good_bent p b f false c a = refl

pub good-clean : (species : ℕ) (previous here next : Option Pitch) (clean : Bool) (after : Option Pitch)
    → is_good species previous here next (bends_down previous here next && clean) after
    ≡ is_good species previous here next clean after
good-clean species previous here next clean after =
    good_bent (is_passing previous here next) (has_ornaments species) (is_neighbor previous here next)
    (bends_down previous here next) clean (lies_above 1 after next)

-- and where it may be none, neither that nor the note after the next one matters
straight : (p b f l c a d e : Bool) → l ≡ false
    → (p || (b && (f || ((l && c) && a)))) ≡ (p || (b && (f || ((l && d) && e))))
straight p b f true c a d e h = cc
straight p b f false c a d e h = refl

pub good-straight : (species : ℕ) (previous here next : Option Pitch) (clean : Bool) (after : Option Pitch)
    (other : Bool) (later : Option Pitch) → bends_down previous here next ≡ false
    → is_good species previous here next clean after ≡ is_good species previous here next other later
good-straight species previous here next clean after other later h =
    straight (is_passing previous here next) (has_ornaments species) (is_neighbor previous here next)
    (bends_down previous here next) clean (lies_above 1 after next) other (lies_above 1 later next) h

-- ---- whether S15 is open in the first columns

module _ (ex : Exercise) (s : List (List Cell)) (i end v w : ℕ) (here : i < end) (fits : end ≤ length s) where
  abbrev first_columns : List (List Cell)
  first_columns = drop (i + 1) (take end s)

  reaches : reaches_last_bar ex i first_columns ≡ nat_lt (8 * (ex.bars - 1)) end
  reaches = ap (nat_lt (8 * (ex.bars - 1))) size
    where
      size : i + 1 + length (drop (i + 1) (take end s)) ≡ end
      size = omega (arith, length-drop (i + 1) (take end s), length-take-le end s fits, here)

  closed_by_end : (now : List Cell) → nat_lt (8 * (ex.bars - 1)) end ≡ true → is_open_clash ex i now first_columns v w
      ≡ false
  closed_by_end now h = none (starts_in_clash now v w) (has_notes_after (species_in ex v) i v first_columns)
      (reaches_last_bar ex i first_columns) (reaches ∙ h)
    where
      none : (a b c : Bool) → c ≡ true → not (not a || b || c) ≡ false
      none true true c h = refl
      none true false c h = ap not h
      none false b c h = refl

  open_by_notes : (now : List Cell) → starts_in_clash now v w ≡ true → nat_lt (8 * (ex.bars - 1)) end ≡ false
      → is_open_clash ex i now first_columns v w ≡ not (has_notes_after (species_in ex v) i v first_columns)
  open_by_notes now e f = rest (starts_in_clash now v w) (has_notes_after (species_in ex v) i v first_columns)
      (reaches_last_bar ex i first_columns) e (reaches ∙ f)
    where
      rest : (a b c : Bool) → a ≡ true → c ≡ false → not (not a || b || c) ≡ not b
      rest true true c h k = refl
      rest true false c h k = ap not k
      rest false b c h k = cc

  not_some : (o : Option Onset) (r : Bool) → is_some o ≡ not r → r ≡ not (is_some o)
  not_some o true h = ap not (sym h)
  not_some o false h = ap not (sym h)

  pub closed_last : (now : List Cell) → now ≡ slice_index_or s i [] → true ≡ nat_lt (8 * (ex.bars - 1)) end → false
      ≡ is_open_clash ex i (slice_index_or s i []) first_columns v w
  closed_last now e h = sym (closed_by_end (slice_index_or s i []) (sym h))

  module _ (now : List Cell) (e : now ≡ slice_index_or s i []) (clashing : starts_in_clash now v w ≡ true)
      (unended : nat_lt (8 * (ex.bars - 1)) end ≡ false) where
    clashing_there : starts_in_clash (slice_index_or s i []) v w ≡ true
    clashing_there = sym (ap (λ col. starts_in_clash col v w) e) ∙ clashing

    pub open_ornament : (second : Option Onset) → second ≡ second_of (notes_within s end v (i + 1))
        → has_ornaments (species_in ex v) ≡ true → (r : Bool) → is_some second ≡ not r → r
        ≡ is_open_clash ex i (slice_index_or s i []) first_columns v w
    open_ornament second f h r n =
        not_some second r n ∙ ap (λ o. not (is_some o)) f
        ∙ sym (open_by_notes (slice_index_or s i []) clashing_there unended
        ∙ ap (λ b. not (if b then is_some (second_next_onset i v first_columns)
        else is_some (next_onset i v first_columns))) h)

    pub open_plain : (next : Option Onset) → next ≡ first_of (notes_within s end v (i + 1))
        → has_ornaments (species_in ex v) ≡ false → (r : Bool) → is_some next ≡ not r → r
        ≡ is_open_clash ex i (slice_index_or s i []) first_columns v w
    open_plain next f h r n =
        not_some next r n ∙ ap (λ o. not (is_some o)) f
        ∙ sym (open_by_notes (slice_index_or s i []) clashing_there unended
        ∙ ap (λ b. not (if b then is_some (second_next_onset i v first_columns)
        else is_some (next_onset i v first_columns))) h)
