-- One stroke before those that were taken (`ends_before`, `notes_before`), and the table before the
-- last one (`ends_none`).
use Rattle.std.proofs.Common.{◌≡◌, ℕ, lit<, ◌*◌, replicate, suc, ◌+◌, ◌-◌, ◌<◌, ◌≤◌, List, [], ◌∷◌, ◌++◌, length, drop, get_or, reverse, Option, Some, None, refl, sym, ◌∙◌, ap, arith}
use Rattle.std.specs.Option.{option_to_list}
use Rattle.std.proofs.lemmas.List.{reverse-append, get_or-replicate, length-replicate}
use Rattle.std.proofs.Math.Seq.{drop-cons}
use Rattle.smf_score.specs.declared.strokes.Stroke.{Stroke}
use Rattle.smf_score.specs.declared.played.Layout.{Layout}
use Rattle.smf_score.specs.declared.played.Played.{Played}
use Rattle.smf_score.specs.Played.{AreEarly, AreEnds, note_of, notes_in}

strokes_before : (strokes : List Stroke) (n : ℕ) (d : Stroke) → 0 < n → n ≤ length strokes
    → drop (n - 1) strokes ≡ get_or strokes (n - 1) d ∷ drop n strokes
strokes_before strokes n d more within =
    let next : suc (n - 1) ≡ n = omega arith in
    drop-cons strokes (n - 1) d (omega arith)
    ∙ ap (λ k. get_or strokes (n - 1) d ∷ drop k strokes) next

reverse_option : (o : Option Played) → reverse (option_to_list o) ≡ option_to_list o
reverse_option None = refl
reverse_option (Some note) = refl

pub ends_before : (strokes : List Stroke) (n : ℕ) (d : Stroke) (table : List ℕ) → 0 < n → n ≤ length strokes
    → AreEnds (get_or strokes (n - 1) d ∷ drop n strokes) table → AreEnds (drop (n - 1) strokes) table
ends_before strokes n d table more within ends = rw (strokes_before strokes n d more within) ends

pub notes_before : (layout : Layout) (strokes : List Stroke) (n : ℕ) (d : Stroke) (o : Option Played)
    (notes : List Played)
    → 0 < n → n ≤ length strokes → o ≡ note_of layout (get_or strokes (n - 1) d) (drop n strokes)
    → notes ≡ reverse (notes_in layout (drop n strokes))
    → notes ++ option_to_list o ≡ reverse (notes_in layout (drop (n - 1) strokes))
notes_before layout strokes n d o notes more within made e =
    let later = notes_in layout (drop n strokes) in
    rw (strokes_before strokes n d more within, e, ← made)
    (sym (reverse-append (option_to_list o) later ∙ ap (λ (xs : List Played). reverse later ++ xs) (reverse_option o)))

-- the table of no strokes
pub ends_none : (n : ℕ) (table : List ℕ) → n ≡ 2048 → table ≡ replicate n 0 → AreEnds [] table
ends_none n table long e = record {
  size = ap length e ∙ length-replicate {A = ℕ} n 0 ∙ long;
  ends = λ channel key low small. ap (λ (t : List ℕ). get_or t (128 * channel + key) 0) e
      ∙ get_or-replicate {A = ℕ} n (128 * channel + key) 0 0 (omega arith);
}

pub early_none : (n : ℕ) (table : List ℕ) → n ≡ 2048 → table ≡ replicate n 0 → AreEarly table
early_none n table long e i within =
    let zero_there : get_or table i 0 ≡ 0 = ap (λ (t : List ℕ). get_or t i 0) e
    ∙ get_or-replicate {A = ℕ} n i 0 0 (omega arith) in
    rw zero_there (lit< tt)
