use Rattle.std.proofs.Common.{◌≡◌, ◌+◌, ◌/◌, ◌%◌, ◌<◌, [], ◌∷◌, ◌++◌, ap, sym, ◌∙◌, arith}
use Rattle.std.proofs.lemmas.Fmt.{decimal_digit}
use Rattle.cert_text.proofs.LineLemmas.{two_digits}
use Rattle.cert_text.proofs.claim.rule_line.Goals as goal
use Rattle.cert_text.proofs.claim.rule_line.Goals.{then-rule-ge10, else-rule-ge10}

pub returns : goal.returns
returns c =
    let rule = c.args.rule in
    let ones : c.from-2.result ≡ 48 + rule % 10 = c.from-2.ensures in
    let small : c.from-2.result < 128 = omega (arith, ones) in
    let end = c.push-3.ensures.ascii (omega arith)
    ∙ ap (λ t. t ++ 10 ∷ []) (c.push-2.ensures.ascii small
    ∙ ap (λ b. c.if-rule-ge10.line.bytes ++ b ∷ []) ones) in
    elim c.if-rule-ge10.branch [
      | then-rule-ge10 w ↦
          let tens : w.from.result ≡ 48 + rule / 10 = w.from.ensures in
          let small' : w.from.result < 128 = omega (arith, tens) in
          end
          ∙ ap (λ line. line.bytes ++ (48 + rule % 10) ∷ [] ++ 10 ∷ []) w.line-is
          ∙ ap (λ t. t ++ (48 + rule % 10) ∷ [] ++ 10 ∷ []) (w.push.ensures.ascii small'
          ∙ ap (λ b. c.push_str.new.self.bytes ++ b ∷ []) tens)
          ∙ ap (λ t. t ++ (48 + rule / 10) ∷ [] ++ (48 + rule % 10) ∷ [] ++ 10 ∷ [])
          (c.push_str.ensures.bytes ∙ ap (λ t. t ++ 98 ∷ 32 ∷ []) c.new-line.ensures)
          ∙ ap (λ ds. 98 ∷ 32 ∷ (ds ++ 10 ∷ [])) (sym (two_digits rule w.if-rule-ge10.true c.requires.1))
      | else-rule-ge10 w ↦
          let one : 48 + rule % 10 ≡ 48 + rule = omega (arith, w.if-rule-ge10.false) in
          end
          ∙ ap (λ line. line.bytes ++ (48 + rule % 10) ∷ [] ++ 10 ∷ []) w.line-is
          ∙ ap (λ t. t ++ (48 + rule % 10) ∷ [] ++ 10 ∷ []) (c.push_str.ensures.bytes
          ∙ ap (λ t. t ++ 98 ∷ 32 ∷ []) c.new-line.ensures)
          ∙ ap (λ b. 98 ∷ 32 ∷ b ∷ 10 ∷ []) one
          ∙ ap (λ ds. 98 ∷ 32 ∷ (ds ++ 10 ∷ [])) (sym (decimal_digit rule w.if-rule-ge10.false))
    ]
