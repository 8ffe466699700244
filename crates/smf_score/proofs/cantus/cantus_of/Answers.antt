use Rattle.std.proofs.Common.{◌≡◌, ◌+◌, ◌-◌, ◌∙◌, Option, take, ap, sym, arith}
use Rattle.std.specs.Option.{ok_or}
use Rattle.fux_pitch.specs.declared.pitch.Pitch.{Pitch}
use Rattle.smf_score.specs.declared.fault.SmfFault.TheVariants.{NotWhole}
use Rattle.smf_score.specs.Cantus.{bar_pitch, bars_from, whole_note}
use Rattle.smf_score.proofs.CantusLemmas.{bars_next}
use Rattle.smf_score.proofs.EachLemmas.{each_done, each_fails, each_next}
use Rattle.smf_score.proofs.cantus.cantus_of.Goals as goal

pub returns-in_default : goal.returns-in_default
returns-in_default c =
    let bar = c.loop-bar.bar in
    let rest = c.loop-bar.rest.now in
    each_fails bar_pitch (bar, take 8 rest) _ _ c.loop-bar.cantus.items (NotWhole (bar + 1)) _ c.loop-bar.invariant.read
    (bars_next bar c.args.bars rest c.loop-bar-test.true)
    (ap (λ (o : Option Pitch). ok_or o (NotWhole (bar + 1)))
    (ap whole_note (sym c.split_at.ensures.front) ∙ sym c.in_default.ensures))

pub loop-bar-preserved : goal.loop-bar-preserved
loop-bar-preserved c =
    let bar = c.loop-bar.bar in
    let rest = c.loop-bar.rest.now in
    record {
      read = rw (c.in_ok-push.ensures.items, c.split_at.ensures.back)
          (each_next bar_pitch (bar, take 8 rest) _ _ c.loop-bar.cantus.items c.in-Some.pitch _ c.loop-bar.invariant.read
          (bars_next bar c.args.bars rest c.loop-bar-test.true)
          (ap (λ (o : Option Pitch). ok_or o (NotWhole (bar + 1)))
          (c.in-Some.ensures ∙ ap whole_note c.split_at.ensures.front)));
      long = omega (arith, c.loop-bar.invariant.long, c.split_at.ensures.back_len, c.loop-bar-test.true);
    }

pub returns : goal.returns
returns c =
    let none : c.args.bars - c.loop-bar.bar ≡ 0 = omega (arith, c.loop-bar-test.false) in
    each_done bar_pitch _ c.loop-bar.cantus.items _ c.loop-bar.invariant.read
    (ap (λ n. bars_from c.loop-bar.bar n c.loop-bar.rest.now) none)
