use Rattle.std.proofs.Common.{◌≡◌, drop, ◌∙◌, ap, arith, reverse, rules}
use Rattle.std.proofs.Math.Seq.{drop-length}
use Rattle.smf_score.specs.Played.{notes_in}
use Rattle.smf_score.proofs.PlayedLemmas.{ends_before, notes_before}
use Rattle.smf_score.proofs.played.notes_backward.Goals as goal

pub loop-i-init : goal.loop-i-init
loop-i-init c = record {
  read = rw (drop-length c.args.strokes.now) c.new-notes.ensures.items;
  ends = rw (drop-length c.args.strokes.now) c.requires.ends;
  early = c.requires.early;
  bounds = search rules;
  within = omega arith;
}

pub loop-i-preserved : goal.loop-i-preserved
loop-i-preserved c =
    let s = c.args.strokes.now in
    let i = c.loop-i.i in
    record {
      read = c.in_ok-push_some.ensures.ok
          ∙ notes_before c.args.layout s i _ c.note_of_stroke.result c.loop-i.notes.items c.loop-i-test.true
          c.loop-i.invariant.within
          (c.note_of_stroke.ensures.value (drop i s) c.loop-i.invariant.ends) c.loop-i.invariant.read;
      ends = ends_before s i _ c.enter.new.ends c.loop-i-test.true c.loop-i.invariant.within
          (c.enter.ensures.ends (drop i s) c.loop-i.invariant.ends);
      early = c.enter.ensures.early c.loop-i.invariant.early;
      bounds = c.in_ok-push_some.ensures.bounds c.loop-i.invariant.bounds;
      within = omega arith;
    }

pub returns-clause-value : goal.returns-clause-value
returns-clause-value c =
    let over : c.loop-i.i ≡ 0 = omega arith in
    c.loop-i.invariant.read ∙ ap (λ n. reverse (notes_in c.args.layout (drop n c.args.strokes.now))) over
