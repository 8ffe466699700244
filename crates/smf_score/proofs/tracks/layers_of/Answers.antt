use Rattle.std.proofs.Common.{◌≡◌, ℕ, ◌+◌, ◌<◌, Bool, List, [], ◌∷◌, ◌++◌, ◌∙◌, ap, get_or, length, sym, take}
use Rattle.std.specs.Prelude.{filter, if◌then◌else◌, not}
use Rattle.std.proofs.lemmas.List.{take_more}
use Rattle.std.proofs.lemmas.List.Elements.{filter-append}
use Rattle.smf_score.specs.declared.played.Played.{Played}
use Rattle.smf_score.specs.Staves.{is_upper}
use Rattle.smf_score.proofs.tracks.layers_of.Goals as goal

-- one note more of those that pass a test
one_more : (p : Played → Bool) (notes front : List Played) (i : ℕ) (d : Played) (is : Bool) → i < length notes
    → front ≡ filter p (take i notes) → is ≡ p (get_or notes i d)
    → front ++ (if is then get_or notes i d ∷ [] else []) ≡ filter p (take (i + 1) notes)
one_more p notes front i d is within before passes =
    rw (before, passes)
    (sym (ap (filter p) (take_more notes i d within) ∙ filter-append p (take i notes) (get_or notes i d ∷ [])))

pub loop-note-preserved : goal.loop-note-preserved
loop-note-preserved c =
    let notes = c.args.notes.now in
    let upper = is_upper c.args.division notes in
    let i = c.loop-note.note-index in
    record {
      lowest = c.in_ok-push_if.ensures.value
          ∙ one_more (λ note. not (upper note)) notes c.loop-note.lowest.items i _ _ c.loop-note-test.true
          c.loop-note.invariant.lowest (ap not c.is_upper-is_above.ensures);
      above = c.in_ok-push_if-2.ensures.value
          ∙ one_more (λ note. upper note) notes c.loop-note.above.items i _ _ c.loop-note-test.true
          c.loop-note.invariant.above c.is_upper-is_above.ensures;
      low = c.in_ok-push_if.ensures.played c.loop-note.invariant.low;
      high = c.in_ok-push_if-2.ensures.played c.loop-note.invariant.high;
    }
