use Rattle.std.proofs.Common.{◌≡◌, suc, [], ap, sym, ◌∙◌, add-one, arith}
use Rattle.written_notes.proofs.Steps.{mapped-more}
use Rattle.sheet_layout.specs.Pages.{next_place, place_of}
use Rattle.sheet_layout.proofs.page.bar_places.Goals as goal

pub loop-bar-preserved : goal.loop-bar-preserved
loop-bar-preserved c =
    let ex = c.args.ex.now in
    let lines = c.args.lines.now in
    let tall = c.args.tall in
    let bar = c.loop-bar.bar in
    let next : c.next_place-place.result ≡ place_of ex lines tall (suc bar) =
    c.next_place-place.ensures.value ∙ ap (λ place. next_place tall place c.in_ok-room.room) c.loop-bar.invariant.last
    ∙ ap (next_place tall (place_of ex lines tall bar)) c.in_ok-room.ensures.value in record {
      made = mapped-more (λ k. place_of ex lines tall (suc k)) bar [] c.loop-bar.places.items c.push.new.self.items _
          c.loop-bar.invariant.made c.in_ok-push.ensures.items next;
      last = next ∙ ap (place_of ex lines tall) (sym (add-one bar));
      reach = c.next_place-place.ensures.reach;
      top = omega (arith, c.next_place-place.ensures.top, c.loop-bar.invariant.top, c.ranges.tall.fits);
    }
