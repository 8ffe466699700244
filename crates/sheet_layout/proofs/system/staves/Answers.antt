use Rattle.std.proofs.Common.{◌≡◌, ◌-◌, suc, [], ap, sym, ◌∙◌, add-one, arith}
use Rattle.written_notes.proofs.Steps.{mapped-more}
use Rattle.sheet_layout.specs.declared.system.Staff.{Staff}
use Rattle.sheet_layout.specs.Pages.{staff_of, staves_end, voice_staff}
use Rattle.sheet_layout.proofs.system.staves.Goals as goal

pub loop-k-preserved : goal.loop-k-preserved
loop-k-preserved c =
    let ex = c.args.ex.now in
    let marks = c.args.marks.now in
    let lines = c.args.lines.now in
    let k = c.loop-k.k in
    let voice : (ex.voices - 1) - k ≡ ex.voices - suc k = omega arith in
    let next : c.voice_staff-staff.result ≡ staff_of ex marks lines k =
    c.voice_staff-staff.ensures.value ∙ ap (λ from. voice_staff ex marks lines from ((ex.voices - 1) - k)) c.loop-k.invariant.last
    ∙ ap (voice_staff ex marks lines (staves_end ex marks lines k)) voice in record {
      made = mapped-more (staff_of ex marks lines) k [] c.loop-k.staves.items c.push.new.self.items _
          c.loop-k.invariant.made c.in_ok-push.ensures.items next;
      last = ap (λ (staff : Staff). staff.bottom) next ∙ ap (staves_end ex marks lines) (sym (add-one k));
      most = omega (arith, c.voice_staff-staff.ensures.bottom, c.loop-k.invariant.most);
    }
