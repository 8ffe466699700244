use Rattle.std.proofs.Common.{[], ◌∷◌, not, ap, sym, append-nil, refl}
use Rattle.class_marker.specs.declared.difference.Difference.TheVariants.{Mode, Voices, Bars, Species, CantusVoice}
use Rattle.class_marker.specs.Differences.{differs}
use Rattle.class_marker.proofs.SectionLemmas.{item_kept}
use Rattle.class_marker.proofs.listing.put_head.Goals as goal

pub returns : goal.returns
returns c = λ s.
    let P = differs c.args.lesson.now c.args.answer.now s in
    let old = c.args.out.now.items in
    let one = item_kept P old _ _ [] _ Mode (ap not c.same_mode.ensures) (sym (append-nil old)) c.in_ok-put_if.ensures in
    let two = item_kept P old _ _ (Mode ∷ []) _ Voices refl one c.in_ok-put_if-2.ensures in
    let three = item_kept P old _ _ (Mode ∷ Voices ∷ []) _ Bars refl two c.in_ok-put_if-3.ensures in
    let four = item_kept P old _ _ (Mode ∷ Voices ∷ Bars ∷ []) _ Species (ap not c.same_species.ensures) three c.in_ok-put_if-4.ensures in
    item_kept P old _ _ (Mode ∷ Voices ∷ Bars ∷ Species ∷ []) _ CantusVoice refl four c.in_ok-put_if-5.ensures
