use Rattle.std.proofs.Common.{◌≡◌, ℕ, suc, List, [], ◌∷◌, ◌++◌, ◌∙◌, All, ap, append_assoc, arith, subst, sym}
use Rattle.std.proofs.lemmas.List.Elements.{All-append, All-cons, All-nil}
use Rattle.smf_score.specs.declared.played.Played.{Played}
use Rattle.smf_score.specs.Played.{IsPlayed}
use Rattle.smf_score.specs.Legato.{held_out, held_to, place_end}
use Rattle.smf_score.proofs.legato.held_out.Goals as goal

-- a note more that was held out
one_more : (over : ℕ) (front rest later all : List Played) (note held : Played) → front ++ held_out over rest ≡ all
    → rest ≡ note ∷ later → held ≡ held_to (place_end over later) note → (front ++ held ∷ []) ++ held_out over later ≡ all
one_more over front rest later all note held so_far next is =
    append_assoc front (held ∷ []) (held_out over later)
    ∙ ap (λ (own : Played). front ++ (own ∷ held_out over later)) is
    ∙ ap (λ (ns : List Played). front ++ held_out over ns) (sym next)
    ∙ so_far

-- those behind the first
behind : (note : Played) (later : List Played) → All IsPlayed (note ∷ later) → All IsPlayed later
behind note later all = λ k d within. all (suc k) d (omega (arith, within))

pub loop-note-preserved : goal.loop-note-preserved
loop-note-preserved c = record {
  read = rw c.in_ok-push.ensures.items
      (one_more c.args.over c.loop-note.held.items c.loop-note.rest.now c.in-Some.later.now _ c.in-Some.note.now
      c.held_to.result c.loop-note.invariant.read c.in-Some.ensures.cases.0
      (c.held_to.ensures.value ∙ ap (λ at. held_to at c.in-Some.note.now) c.place_end.ensures.value));
  played = rw c.in_ok-push.ensures.items
      (All-append IsPlayed c.loop-note.held.items (c.held_to.result ∷ []) c.loop-note.invariant.played
      (All-cons IsPlayed c.held_to.result [] c.held_to.ensures.played (All-nil IsPlayed)));
  left = behind c.in-Some.note.now c.in-Some.later.now
      (subst (λ (ns : List Played). All IsPlayed ns) c.in-Some.ensures.cases.0 c.loop-note.invariant.left);
}
