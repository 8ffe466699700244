use Rattle.std.proofs.Common.{ℕ, ◌+◌, List, ◌++◌, drop, get_or, arith, ap, sym, ◌∙◌, length}
use Rattle.std.specs.Prelude.{encode_utf8}
use Rattle.std.specs.List.{flat_map}
use Rattle.std.proofs.lemmas.List.{drop_more, length-append}
use Rattle.std.proofs.lemmas.Str.{length-encode, len_utf8_bounds}
use Rattle.std.proofs.lemmas.Grind.{common_steps}
use Rattle.score_print.specs.Printed.{printed_char, printed_name}
use Rattle.score_print.proofs.RowSteps.{moved}
use Rattle.score_print.proofs.cells.printed_name.Goals as goal

pub loop-byte-init : goal.loop-byte-init
unfolding printed_name
loop-byte-init c = grind (arith, common_steps)

pub push-requires : goal.push-requires
push-requires c =
    omega (
      arith,
      length-encode c.printed_char.result,
      len_utf8_bounds c.printed_char.result,
      c.loop-byte.invariant.0,
      c.as_str.ensures.fits,
      c.as_bytes-byte-items.ensures.len,
    )

pub loop-byte-preserved : goal.loop-byte-preserved
loop-byte-preserved c =
    let i : ℕ = c.loop-byte.byte-index in
    let bytes : List ℕ = c.as_bytes-byte-items.result.now in
    let f = λ (b : ℕ). encode_utf8 (printed_char b) in
    let here : ℕ = get_or bytes i 0 in (
      omega (
        arith,
        ap length c.push.ensures.bytes,
        length-append c.loop-byte.printed.bytes
            (encode_utf8 c.printed_char.result),
        length-encode c.printed_char.result,
        len_utf8_bounds c.printed_char.result,
        c.loop-byte.invariant.0,
      ),
      moved c.loop-byte.printed.bytes c.push.new.self.bytes (f here) (flat_map f (drop (i + 1) bytes))
          (printed_name c.args.p)
          (c.push.ensures.bytes ∙ ap (λ k. c.loop-byte.printed.bytes ++ encode_utf8 k) c.printed_char.ensures)
          (ap (λ t. c.loop-byte.printed.bytes ++ flat_map f t)
          (sym (drop_more bytes i 0 c.loop-byte-test.true)) ∙ c.loop-byte.invariant.1),
    )
