use Rattle.std.proofs.Common.{◌≡◌, ◌<◌, ◌∷◌, ◌++◌, [], length, slice_index_or, ap, sym, ◌∙◌, subst, arith}
use Rattle.std.specs.Ordering.{ordering_then}
use Rattle.cert_text.specs.declared.answers.CertHead.{CertHead}
use Rattle.cert_law.specs.Certificates.{IsHeadSound}
use Rattle.cert_law.specs.Writer.{columns_order}
use Rattle.cert_law.proofs.Orders.{order-push}
use Rattle.cert_law.specs.Prefixes.{order_with}
use Rattle.fux_grid.specs.Order.{column_order}
use Rattle.cert_law.proofs.judged.Judged.order_after.Goals as goal

pub column-sung-requires : goal.column-sung-requires
column-sung-requires c =
    let sound = subst (λ (head : CertHead). IsHeadSound c.args.case.now.exercise.now c.args.case.now.sheet.now head)
    c.in-Best.is c.requires.case.sound in
    omega (arith, sound.0.setting.whole, c.requires.room)

pub order-requires : goal.order-requires
order-requires c =
    let sound = subst (λ (head : CertHead). IsHeadSound c.args.case.now.exercise.now c.args.case.now.sheet.now head)
    c.in-Best.is c.requires.case.sound in
    let within : c.args.self.now.state.newest.len < length c.in-Best.score.columns = omega
    (arith, sound.0.setting.whole, c.requires.room) in
    ap length c.column-sung.ensures.value ∙ (sound.0.setting.prefix.menus c.args.self.now.state.newest.len within).full
    ∙ sym c.requires.full

pub returns-in-Best : goal.returns-in-Best
returns-in-Best c = λ p judged.
    let sound = subst (λ (head : CertHead). IsHeadSound c.args.case.now.exercise.now c.args.case.now.sheet.now head)
    c.in-Best.is c.requires.case.sound in
    let s = c.in-Best.score.columns in
    let col = c.args.column.now.items in
    let n : c.args.self.now.state.newest.len ≡ length p = judged.state.newest.count in
    let within : length p < length s = omega (arith, sound.0.setting.whole, c.requires.room, n) in
    let before : c.args.self.now.order ≡ columns_order s p = judged.order
    ∙ ap (λ head. order_with head p) c.in-Best.is in
    let sung : c.column-sung.result.now.items ≡ slice_index_or s (length p) [] = c.column-sung.ensures.value
    ∙ ap (λ i. slice_index_or s i []) n in
    c.then.ensures ∙ ap (λ o. ordering_then o c.order.result) before
    ∙ ap (ordering_then (columns_order s p)) (c.order.ensures ∙ ap (λ d. column_order d col) sung)
    ∙ sym (order-push s p col within)
    ∙ sym (ap (λ head. order_with head (p ++ col ∷ [])) c.in-Best.is)
