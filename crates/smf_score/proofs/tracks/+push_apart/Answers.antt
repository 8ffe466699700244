use Rattle.std.proofs.Common.{◌≡◌, ℕ, zero, suc, ◌-◌, ◌≤◌, List, [], ◌∷◌, ◌++◌, ◌∙◌, All, Result, Ok, Err, OnOk, ap, append_assoc, arith, length}
use Rattle.std.proofs.lemmas.List.Elements.{All-append, All-cons, All-nil}
use Rattle.smf_score.specs.declared.played.Played.{Played}
use Rattle.smf_score.specs.Played.{IsPlayed}
use Rattle.smf_score.specs.Staves.{above, lowest, told_apart}
use Rattle.smf_score.proofs.tracks.+push_apart.Goals as goal

abbrev AreBounded : List Played → Type 0
AreBounded notes = All IsPlayed notes

-- the lowest voice of a track, and those above it
layered : (most division : ℕ) (notes low high : List Played) (old mid new : List (List Played)) → 1 ≤ most
    → 1 ≤ length notes → low ≡ lowest division notes → high ≡ above division notes → mid ≡ old ++ low ∷ []
    → new ≡ mid ++ told_apart (most - 1) division high → new ≡ old ++ told_apart most division notes
layered zero division notes low high old mid new many some is_low is_high pushed rest = absurd (omega (arith, many))
layered (suc most) division [] low high old mid new many some is_low is_high pushed rest = absurd (omega (arith, some))
layered (suc most) division (note ∷ notes) low high old mid new many some is_low is_high pushed rest =
    let same : suc most - 1 ≡ most = omega arith in
    rest
    ∙ rw (pushed, same, is_low, is_high)
    (append_assoc old (lowest division (note ∷ notes) ∷ [])
    (told_apart most division (above division (note ∷ notes))))

where_ok : {X E : Type 0} (result : Result X E) (P Q : Type 0) → (P → Q) → OnOk result P → OnOk result Q
where_ok (Ok x) P Q from is = from is
where_ok (Err e) P Q from is = tt

pub returns-clause-value : goal.returns-clause-value
returns-clause-value t c =
    let notes = c.args.notes.items in
    let some : 1 ≤ length notes =
    grind (arith, c.is_empty.ensures, c.if-is_empty.false, c.deref.ensures.len, ap length c.deref.ensures.value) in
    let many : 1 ≤ c.args.most = omega (arith, c.if-most-eq0.false) in
    where_ok c.push_apart.result _ _
    (layered c.args.most c.args.division notes c.in_ok-layers.layers.lowest.items c.in_ok-layers.layers.above.items
    c.args.voices.now.items c.push-2.new.self.items c.push_apart.new.voices.items many some
    (c.in_ok-layers.ensures.lowest ∙ ap (lowest c.args.division) c.deref.ensures.value)
    (c.in_ok-layers.ensures.above ∙ ap (above c.args.division) c.deref.ensures.value)
    (c.in_ok-push-2.ensures.items ∙ ap (λ (own : List Played). c.args.voices.now.items ++ own ∷ []) c.new-2.ensures))
    c.push_apart.ensures.value

pub returns-clause-played : goal.returns-clause-played
returns-clause-played t c = λ before. c.push_apart.ensures.played
    (rw (c.in_ok-push-2.ensures.items, c.new-2.ensures)
    (All-append AreBounded c.args.voices.now.items (c.in_ok-layers.layers.lowest.items ∷ []) before
    (All-cons AreBounded c.in_ok-layers.layers.lowest.items [] c.in_ok-layers.ensures.low (All-nil AreBounded))))
