use Rattle.std.proofs.Common.{◌≡◌, ◌||◌, ◌+◌, ◌++◌, ◌∷◌, [], List, length, reverse, ap, sym, ◌∙◌, subst, arith}
use Rattle.std.proofs.lemmas.List.{length-append, reverse-append}
use Rattle.fux_pitch.specs.declared.pitch.Pitch.{Pitch}
use Rattle.cantus_space.specs.Broken.{is_broken_by, is_broken_in}
use Rattle.cantus_space.specs.Known.{IsKnownOf}
use Rattle.cantus_check.proofs.case.CantusCase.after.Goals as goal

pub returns : goal.returns
returns c = λ ps room judged.
    let plan = c.args.self.now.space in
    let p = c.args.pitch in
    let newest : reverse (ps ++ p ∷ []) ≡ p ∷ reverse ps = reverse-append ps (p ∷ []) in
    let size : length (ps ++ p ∷ []) ≡ length ps + 1 = length-append ps (p ∷ []) in
    record {
      node = subst (λ (behind : List Pitch). IsKnownOf plan behind c.longer.result) (sym newest)
          (c.longer.ensures (reverse ps) judged.node);
      broken = λ r.
          c.broken_with.ensures (reverse ps) judged.node r
          ∙ ap (λ b. b || is_broken_by plan (reverse ps) p r) (judged.broken r)
          ∙ sym (ap (λ behind. is_broken_in plan behind r) newest);
      order = c.order_after.ensures ps judged;
      size = omega (arith, c.saturating_add.ensures, judged.size, size, room, c.plan.ensures.valid.most_bars);
      few = omega (arith, size, room);
    }
