use Rattle.std.proofs.Common.{◌-◌, ◌≤◌, ℕ, List, length, drop, ap, ◌∙◌, arith}
use Rattle.cert_file.specs.Readings.{Piece}
use Rattle.cert_file.proofs.PieceLemmas.{length-piece, piece_left}
use Rattle.cert_file.proofs.pieces.Pieces.use_up.Goals as goal

pub returns : goal.returns
returns c =
    let piece = c.self.inside.piece.items in
    let from = c.self.inside.from in
    let to = c.self.inside.to in
    let offset = c.self.inside.offset in
    let used = c.args.used in
    let within : to ≤ length piece = omega (arith, c.self.invariant.within, c.self.invariant.long) in
    let long = length-piece piece from to c.self.invariant.used within in
    let fits : used ≤ to - from = omega (
      arith,
      c.requires,
      long,
      ap (λ (p : Piece). length p.ahead) c.self.view_is,
    ) in
    let of_ahead : List ℕ → Piece = λ xs. record { ahead = xs; offset = offset } in
    let of_offset : ℕ → Piece = λ n. record { ahead = drop used c.args.self.now.ahead; offset = n } in
    ap of_ahead (piece_left piece from to used c.self.invariant.used within fits
    ∙ ap (λ (p : Piece). drop used p.ahead) c.self.view_is)
    ∙ ap of_offset (ap (λ (p : Piece). p.offset) c.self.view_is)
