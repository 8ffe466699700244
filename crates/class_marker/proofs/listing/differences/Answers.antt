use Rattle.std.proofs.Common.{List, [], ◌∷◌, ◌++◌, filter, map, not, ap, ◌∙◌}
use Rattle.class_marker.specs.declared.difference.Difference.{Difference}
use Rattle.class_marker.specs.declared.difference.Difference.TheVariants.{Mode, Voices, Bars, Species, CantusVoice, Cantus, Range, Relax, Given}
use Rattle.class_marker.specs.Differences.{common_bars, common_voices, differs, in_each_bar}
use Rattle.class_marker.proofs.SectionLemmas.{five_kept, one_kept}
use Rattle.class_marker.proofs.listing.differences.Goals as goal

pub returns : goal.returns
returns c =
    let lesson = c.args.lesson.now in
    let answer = c.args.answer.now in
    let s = c.args.score.now.columns in
    let bars = common_bars lesson answer in
    let voices = common_voices lesson answer in
    let P = differs lesson answer s in
    let head : List Difference = Mode ∷ Voices ∷ Bars ∷ Species ∷ CantusVoice ∷ [] in
    five_kept P head (map (λ bar. Cantus bar) bars) (in_each_bar (λ v bar. Range v bar) voices bars) (Relax ∷ [])
    (in_each_bar (λ v bar. Given v bar) voices bars) _ _ _ _ _
    (c.in_ok-put_head.ensures s ∙ ap (λ l. l ++ filter P head) c.new-out.ensures.items)
    (c.in_ok-put_cantus.ensures s) (c.in_ok-put_ranges.ensures s)
    (c.in_ok-put_if.ensures ∙ ap (λ l. c.put_ranges.new.out.items ++ l) (one_kept P _ Relax (ap not c.same_relax.ensures)))
    c.in_ok-put_given.ensures
