use Rattle.std.proofs.Common.{◌≡◌, ◌+◌, ◌++◌, ◌∷◌, List, sym, ap, arith, unsigned_abs}
use Rattle.fux_grid.specs.declared.cell.Cell.{Cell}
use Rattle.smf_score.specs.Lines.{holds_ahead}
use Rattle.smf_score.specs.Written.{midi_key, notes_bytes}
use Rattle.smf_score.proofs.LineLemmas.{start_bytes, other_notes}
use Rattle.smf_score.proofs.written.push_cell.Goals as goal

pub overflow_sub-at : goal.overflow_sub-at
overflow_sub-at c =
    omega (arith, ap (λ (cell : Cell). holds_ahead (cell ∷ c.args.later.now)) c.in-Start.is, c.requires.ended)

pub returns-in_ok-push_note-in-Start-clause-bytes :
    goal.returns-in_ok-push_note-in-Start-clause-bytes
returns-in_ok-push_note-in-Start-clause-bytes c =
    let key : c.semitone.result ≡ midi_key c.in-Start.pitch = ap unsigned_abs c.semitone.ensures.value in
    rw (c.in_ok-push_note-in-Start.ensures.ok, key, c.in-Start.is)
    (start_bytes c.args.v c.args.ended c.args.at (1 + c.holds_ahead-len.result) c.in-Start.pitch c.args.later.now
    c.args.out.now.items (omega (arith, c.holds_ahead-len.ensures.value)))

pub returns-in_default : goal.returns-in_default
returns-in_default c =
    let other = other_notes c.args.at c.args.cell c.args.later.now c.in_default.not-Start in
    record {
      bytes = ap (λ (notes : List _). c.args.out.now.items ++ notes_bytes c.args.v c.args.ended notes) (sym other.0);
      ended = omega (arith, c.requires.ended, other.1);
      short = omega arith;
    }
