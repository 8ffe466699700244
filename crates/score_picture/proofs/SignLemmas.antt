-- Who reads signs by custom hears the alteration of each note.
use Rattle.std.proofs.Common.{◌≡◌, ℕ, zero, suc, ℤ, pos, negsuc, ◌≤ℤ◌, Bool, true, false, not, ◌==◌, cond, List, [], ◌∷◌, ◌++◌, IsTrue, refl, sym, ◌∙◌, ap, arith}
use Rattle.std.specs.Ordering.{int_eq}
use Rattle.std.proofs.lemmas.Bool.Decides.{Decides-eqb, Decides-int_eq}
use Rattle.std.proofs.lemmas.Grind.{common_steps}
use Rattle.std.proofs.lemmas.Int.{ints}
use Rattle.fux_pitch.specs.declared.pitch.Pitch.{Pitch}
use Rattle.fux_pitch.specs.Pitch.{degree_of, alter_of}
use Rattle.fux_pitch.proofs.PitchLemmas.{equal_from_test}
use Rattle.fux_grid.specs.declared.cell.Cell.{Cell}
use Rattle.fux_grid.specs.declared.cell.Cell.TheVariants.{Rest, Hold, Start}
use Rattle.fux_grid.specs.Cells.{cell_follows}
use Rattle.score_picture.specs.Hearing.{FollowOn, SignsAreHeard, read_by, said_behind, said_by}
use Rattle.written_notes.specs.Signs.{heard_after, heard_on, sign_behind, sign_for}

-- a cell behind others is heard last
heard-more : (d : ℕ) (before : Bool) (cells : List Cell) (c : Cell)
    → heard_on d before (cells ++ c ∷ []) ≡ heard_after d (heard_on d before cells) c
heard-more d before [] c = refl
heard-more d before (b ∷ cells) c = heard-more d (heard_after d before b) cells c

-- who hears a pitch again hears nothing new
heard-again : (d : ℕ) (heard : Bool) (p : Pitch)
    → heard_after d (heard_after d heard (Hold p)) (Hold p) ≡ heard_after d heard (Hold p)
heard-again d heard p =
    let altered : Bool = not (int_eq (alter_of p) (pos 0)) in
    elim (degree_of p == d) as (λ t. cond t altered (cond t altered heard) ≡ cond t altered heard)
    [ true ↦ refl | false ↦ refl ]

-- what is said of a degree behind cells: nothing where it isn't heard altered, nor where it won't
-- be behind a note that goes on
record IsSaid (d : ℕ) (newest : Cell) (before : List Cell) (said : ℤ) : Type 0 where
  plain : heard_on d false before ≡ false → said ≡ pos 0
  going_on : (p : Pitch) → IsTrue (cell_follows newest (Hold p))
      → heard_after d (heard_on d false before) (Hold p) ≡ false → said ≡ pos 0

-- a sign says its note's alteration, where nothing is said of a degree that isn't heard altered
read-alter : (a : ℤ) (p : Pitch) → alter_of p ≡ a → (heard : Bool) (said : ℤ) → negsuc 0 ≤ℤ a → a ≤ℤ pos 1
    → (heard ≡ false → said ≡ pos 0) → read_by (sign_for p heard) said ≡ a
read-alter (pos zero) p e true said low high plain = rw e refl
read-alter (pos zero) p e false said low high plain = rw e (plain refl)
read-alter (pos (suc zero)) p e heard said low high plain = rw e refl
read-alter (pos (suc (suc n))) p e heard said low high plain = absurd (grind (arith, ints, high))
read-alter (negsuc zero) p e heard said low high plain = rw e refl
read-alter (negsuc (suc n)) p e heard said low high plain = absurd (grind (arith, ints, low))

sign-read : (p : Pitch) (heard : Bool) (said : ℤ) → (heard ≡ false → said ≡ pos 0)
    → read_by (sign_for p heard) said ≡ alter_of p
sign-read p heard said plain =
    read-alter (alter_of p) p refl heard said p.is_pitch.flat p.is_pitch.sharp plain

-- a note that starts: what is said behind it
start-plain : (d : ℕ) (before : List Cell) (said : ℤ) (q : Pitch) → (heard_on d false before ≡ false → said ≡ pos 0)
    → (t : Bool) → (degree_of q == d) ≡ t
    → cond t (not (int_eq (alter_of q) (pos 0))) (heard_on d false before) ≡ false
    → cond t (read_by (sign_behind before (Start q)) said) said ≡ pos 0
start-plain d before said q plain true e h =
    let same : degree_of q ≡ d = (Decides-eqb (degree_of q) d).0 e in
    let natural : alter_of q ≡ pos 0 = (Decides-int_eq (alter_of q) (pos 0)).0 (grind (arith, common_steps, h)) in
    sign-read q (heard_on (degree_of q) false before) said
    (λ unheard. plain (ap (λ k. heard_on k false before) (sym same) ∙ unheard)) ∙ natural
start-plain d before said q plain false e h = plain h

said-next : (d : ℕ) (newest : Cell) (before : List Cell) (said : ℤ) (c : Cell) → IsTrue (cell_follows newest c)
    → IsSaid d newest before said → IsSaid d c (before ++ c ∷ []) (said_behind d before said c)
said-next d newest before said Rest f was = record {
  plain = λ h. was.plain (sym (heard-more d false before Rest) ∙ h);
  going_on = λ p follows h. absurd (grind (arith, common_steps, follows));
}
said-next d newest before said (Hold q) f was = record {
  plain = λ h. was.going_on q f (sym (heard-more d false before (Hold q)) ∙ h);
  going_on = λ p follows h.
      let same : q ≡ p = equal_from_test q p (search follows) in
      let again : heard_after d (heard_on d false (before ++ Hold q ∷ [])) (Hold q) ≡ false =
      ap (λ k. heard_after d (heard_on d false (before ++ Hold q ∷ [])) (Hold k)) same ∙ h in
      was.going_on q f (sym (heard-again d (heard_on d false before) q)
      ∙ ap (λ b. heard_after d b (Hold q)) (sym (heard-more d false before (Hold q))) ∙ again);
}
said-next d newest before said (Start q) f was =
    let plain : heard_on d false (before ++ Start q ∷ []) ≡ false → said_behind d before said (Start q) ≡ pos 0 =
    λ h. start-plain d before said q was.plain (degree_of q == d) refl (sym (heard-more d false before (Start q)) ∙ h) in record {
      plain = plain;
      going_on = λ p follows h.
          let same : q ≡ p = equal_from_test q p (search follows) in
          let again : heard_after d (heard_on d false (before ++ Start q ∷ [])) (Hold q) ≡ false =
          ap (λ k. heard_after d (heard_on d false (before ++ Start q ∷ [])) (Hold k)) same ∙ h in
          plain (heard-more d false before (Start q) ∙ sym (heard-again d (heard_on d false before) q)
          ∙ ap (λ b. heard_after d b (Hold q)) (sym (heard-more d false before (Start q))) ∙ again);
    }

said-all : (d : ℕ) (newest : Cell) (before : List Cell) (said : ℤ) (cells : List Cell) → FollowOn newest cells
    → IsSaid d newest before said → heard_on d (heard_on d false before) cells ≡ false → said_by d before said cells ≡ pos 0
said-all d newest before said [] f was h = was.plain h
said-all d newest before said (c ∷ cells) f was h =
    said-all d c (before ++ c ∷ []) (said_behind d before said c) cells f.1 (said-next d newest before said c f.0 was)
    (ap (λ b. heard_on d b cells) (heard-more d false before c) ∙ h)

pub signs-heard : SignsAreHeard
signs-heard before cells p f =
    sign-read p (heard_on (degree_of p) false cells) (said_by (degree_of p) [] (pos 0) cells)
    (said-all (degree_of p) before [] (pos 0) cells f (record { plain = λ h. refl; going_on = λ q follows h. refl }))
