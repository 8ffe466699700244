use Rattle.std.proofs.Common.{◌≡◌, ◌≤◌, ◌∷◌, [], ◌++◌, length, take, get_or, refl, sym, ap, ◌∙◌, append_assoc, append-nil}
use Rattle.std.proofs.lemmas.List.{drop_all, take_all, take_more}
use Rattle.cert_text.specs.Lines.{line_part}
use Rattle.cert_text.specs.StatedLines.{stated_bytes}
use Rattle.cert_text.proofs.PartLemmas.{part_more}
use Rattle.cert_text.proofs.StatedStops.{stated_stops}
use Rattle.cert_text.proofs.stated_line.StatedLine.read.Goals as goal

pub loop-i-init : goal.loop-i-init
loop-i-init c = (c.requires, refl, sym (append-nil (stated_bytes c.args.self)), refl)

pub returns-in_default : goal.returns-in_default
returns-in_default c =
    let (begun, kind, read, part) = c.loop-i.invariant in
    stated_stops c.args.self c.loop-i.line c.args.piece.now c.loop-i.i c.loop-i-test.true kind read part c.step.result
    c.in_default.not-Goes c.step.ensures

pub loop-i-preserved : goal.loop-i-preserved
loop-i-preserved c =
    let piece = c.args.piece.now in
    let i = c.loop-i.i in
    let (begun, kind, read, part) = c.loop-i.invariant in
    let (fits, still, longer, other) = c.in-Goes.ensures in (
      fits,
      still ∙ kind,
      longer ∙ ap (λ t. t ++ get_or piece i 0 ∷ []) read
          ∙ append_assoc (stated_bytes c.args.self) (take i piece) (get_or piece i 0 ∷ [])
          ∙ ap (λ t. stated_bytes c.args.self ++ t) (sym (take_more piece i 0 c.loop-i-test.true)),
      part_more piece i (get_or piece i 0) c.loop-i-test.true refl other part,
    )

pub returns : goal.returns
returns c =
    let piece = c.args.piece.now in
    let (begun, kind, read, part) = c.loop-i.invariant in
    let all : length piece ≤ c.loop-i.i = c.loop-i-test.false in
    let whole : take c.loop-i.i piece ≡ piece = take_all c.loop-i.i piece all in (
      begun,
      kind,
      read ∙ ap (λ t. stated_bytes c.args.self ++ t) whole,
      refl,
      part ∙ ap (λ t. take c.loop-i.i piece ++ line_part t) (drop_all c.loop-i.i piece all)
          ∙ append-nil (take c.loop-i.i piece) ∙ whole,
    )
