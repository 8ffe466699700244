use Rattle.std.proofs.Common.{Bor, ◌≡◌, ℕ, ◌-◌, ◌<◌, Bool, List, Some, option_map, Ok, sym, ap, ◌∙◌, subst, arith}
use Rattle.price_check.specs.LineLaws.{IsKeysRead}
use Rattle.price_check.specs.Reading as reading
use Rattle.price_check.specs.Reading.{seen_by, word_of}
use Rattle.price_check.proofs.KeySteps.{keys-more, said-right}
use Rattle.price_check.proofs.WordLaws.{some_from}
use Rattle.price_check.proofs.reading.+keys_in.Goals as goal

pub returns : goal.returns
returns t c =
    let bytes = c.args.bytes.now in
    let word = c.in_ok-word.word in
    let key = c.in_ok-key.key in
    let first : reading.first_word bytes ≡ Some (word_of word) =
    sym c.first_word.ensures
    ∙ ap (option_map word_of) (some_from c.first_word.result _ word (sym c.in_ok-word.ensures.value)) in
    let own : reading.key_of c.args.high (word_of word) ≡ Some (key, c.in_ok-key.ends) =
    sym c.key_of.ensures ∙ some_from c.key_of.result _ (key, c.in_ok-key.ends) (sym c.in_ok-key.ensures.value) in
    let some : 0 < c.args.most = omega (arith, c.if-most-eq0.false) in
    keys-more c.args.most c.args.high key bytes word.rest.now c.args.keys.now.items c.keys_in.new.keys.items _ some
    (said-right (reading.key_of c.args.high) bytes (word_of word) (key, c.in_ok-key.ends) first own
    ∙ ap (λ (b : Bool). Ok ((key, b), word.rest.now)) c.if-ends.false)
    (subst (λ (ks : List ℕ). IsKeysRead ks (reading.keys_in (c.args.most - 1) key word.rest.now)
    c.keys_in.new.keys.items (seen_by (λ (x : Bor (List ℕ)). x.now) c.keys_in.result)) c.push.ensures.items c.keys_in.ensures)
