-- Reading keys one by one (`keys-more`).
use Rattle.text_lines.specs.Faults.{◌>>=◌}
use Rattle.std.proofs.Common.{◌≡◌, ℕ, zero, suc, ◌+◌, ◌-◌, ◌<◌, Bool, false, List, [], ◌∷◌, ◌++◌, length, Option, Some, Result, Ok, Err, sym, ap, ◌∙◌, subst, append_assoc, arith}
use Rattle.std.specs.Option.{ok_or}
use Rattle.price_check.specs.LineLaws.{IsKeysRead}
use Rattle.price_check.specs.Reading.{Word, first_word, key_and_more, key_of, keys_in, said}

-- ---- one word

pub said-right : {A : Type 0} (says : Word → Option A) (bytes : List ℕ) (w : Word) (x : A) → first_word bytes ≡ Some w
    → says w ≡ Some x → said says bytes ≡ Ok (x, w.rest)
unfolding said
said-right says bytes w x e f =
    ap (λ o. ok_or o (length bytes) >>= (λ v. ok_or (says v) (length bytes) >>= (λ y. Ok (y, v.rest)))) e
    ∙ ap (λ o. ok_or o (length bytes) >>= (λ y. Ok (y, w.rest))) f

-- ---- keys

-- a key, whether it ends the line, and the bytes behind it; keys, and those bytes
abbrev KeyRead : Type 0
KeyRead = (ℕ × Bool) × List ℕ

abbrev KeysRead : Type 0
KeysRead = List ℕ × List ℕ

keys-step : (most high : ℕ) (bytes : List ℕ) → 0 < most
    → keys_in most high bytes
    ≡ (said (key_of high) bytes >>= (λ (key : KeyRead). key_and_more key.0.0 key.0.1 key.1 (keys_in (most - 1) key.0.0)))
unfolding keys_in
keys-step zero high bytes some = absurd (omega (arith, some))
keys-step (suc most) high bytes some =
    let fewer : most ≡ suc most - 1 = omega arith in
    ap (λ (m : ℕ). said (key_of high) bytes >>= (λ (key : KeyRead). key_and_more key.0.0 key.0.1 key.1 (keys_in m key.0.0))) fewer

keys-next : (most high key : ℕ) (bytes rest : List ℕ) → 0 < most
    → said (key_of high) bytes ≡ Ok ((key, false), rest)
    → keys_in most high bytes ≡ (keys_in (most - 1) key rest >>= (λ (others : KeysRead). Ok (key ∷ others.0, others.1)))
keys-next most high key bytes rest some e =
    keys-step most high bytes some
    ∙ ap (λ (r : Result KeyRead ℕ). r >>= (λ (key : KeyRead). key_and_more key.0.0 key.0.1 key.1 (keys_in (most - 1) key.0.0))) e

-- what is read behind a key stands behind it
pub keys-more : (most high key : ℕ) (bytes rest old new : List ℕ) (result : Result (List ℕ) ℕ) → 0 < most
    → said (key_of high) bytes ≡ Ok ((key, false), rest)
    → IsKeysRead (old ++ key ∷ []) (keys_in (most - 1) key rest) new result
    → IsKeysRead old (keys_in most high bytes) new result
keys-more most high key bytes rest old new result some e read =
    subst (λ (r : Result (List ℕ × List ℕ) ℕ). IsKeysRead old r new result)
    (sym (keys-next most high key bytes rest some e)) (at (keys_in (most - 1) key rest) read)
  where
    at : (r : Result (List ℕ × List ℕ) ℕ) → IsKeysRead (old ++ key ∷ []) r new result
        → IsKeysRead old (r >>= (λ (others : KeysRead). Ok (key ∷ others.0, others.1))) new result
    at (Ok found) h = (h.0 ∙ append_assoc old (key ∷ []) found.0, h.1)
    at (Err left) h = h
