use Rattle.std.proofs.Common.{◌≡◌, suc, ◌+◌, ◌-◌, ◌≤◌, true, false, map, [], ◌∷◌, Ok, Err, sym, ap, ap₂, ◌∙◌, arith, subst}
use Rattle.std.proofs.lemmas.List.{map-append}
use Rattle.price_check.specs.declared.line.Before.{Before}
use Rattle.price_check.specs.Lists.{behind_lines, is_last, lines_in}
use Rattle.price_check.specs.PriceLines.{after, line_of, nothing_before}
use Rattle.price_check.specs.Reading.{line_in}
use Rattle.price_check.proofs.WholeLists.{lists_few, none_before, read_last, read_none, read_on, read_wrong}
use Rattle.price_check.proofs.ReadLines.{read_lines_fit}
use Rattle.price_check.proofs.lists.lists_in.Goals as goal

pub loop-turn-init : goal.loop-turn-init
loop-turn-init c =
    let ex = c.args.ex.now in
    let bytes = c.args.bytes.now in
    let size : 262144 - 0 ≡ 262144 = omega arith in
    record {
      few = rw c.nothing-before.ensures (omega arith);
      read =
          ap₂ (λ ls before. behind_lines (map line_of ls) (lines_in (262144 - 0) ex before bytes)) c.new-lines.ensures.items
          c.nothing-before.ensures
          ∙ none_before (lines_in (262144 - 0) ex nothing_before bytes) ∙ ap (λ n. lines_in n ex nothing_before bytes) size;
    }

pub returns-in-Err : goal.returns-in-Err
returns-in-Err c =
    let ex = c.args.ex.now in
    let before = c.loop-turn.before in
    let left = c.loop-turn.left.now in
    let lines = map line_of c.loop-turn.lines.items in
    let turn = c.loop-turn.turn in
    let size : 262144 - turn ≡ suc (262144 - (turn + 1)) = omega (arith, c.loop-turn-test.true) in
    let read : line_in ex before left ≡ Err c.in-Err.count = sym c.in-Err.ensures in
    sym c.loop-turn.invariant.read ∙ ap (λ n. behind_lines lines (lines_in n ex before left)) size
    ∙ read_wrong ex before left (262144 - (turn + 1)) c.in-Err.count lines read

pub returns-then-is_last : goal.returns-then-is_last
returns-then-is_last c =
    let ex = c.args.ex.now in
    let before = c.loop-turn.before in
    let left = c.loop-turn.left.now in
    let lines = map line_of c.loop-turn.lines.items in
    let turn = c.loop-turn.turn in
    let line = line_of c.in-Ok.found.0 in
    let rest = c.in-Ok.found.1.now in
    let size : 262144 - turn ≡ suc (262144 - (turn + 1)) = omega (arith, c.loop-turn-test.true) in
    let read : line_in ex before left ≡ Ok (line, rest) = sym c.in-Ok.ensures in
    let last : is_last line ≡ true = sym c.is_last.ensures ∙ c.if-is_last.true in
    sym c.loop-turn.invariant.read ∙ ap (λ n. behind_lines lines (lines_in n ex before left)) size
    ∙ read_last ex before line left rest (262144 - (turn + 1)) read lines last

pub after-before-requires : goal.after-before-requires
after-before-requires c = omega (arith, c.loop-turn.invariant.few)

pub loop-turn-preserved : goal.loop-turn-preserved
loop-turn-preserved c =
    let ex = c.args.ex.now in
    let before = c.loop-turn.before in
    let left = c.loop-turn.left.now in
    let lines = c.loop-turn.lines.items in
    let turn = c.loop-turn.turn in
    let line = line_of c.in-Ok.found.0 in
    let rest = c.in-Ok.found.1.now in
    let size : 262144 - turn ≡ suc (262144 - (turn + 1)) = omega (arith, c.loop-turn-test.true) in
    let read : line_in ex before left ≡ Ok (line, rest) = sym c.in-Ok.ensures in
    let more : is_last line ≡ false = sym c.is_last.ensures ∙ c.if-is_last.false in
    let few = lists_few ex before line (read_lines_fit ex before line left rest read).fits c.loop-turn.invariant.few in
    let items = c.in_ok-push.ensures.items in
    record {
      few = subst (λ (b : Before). b.lists ≤ 8) (sym c.after-before.ensures) few;
      read =
          ap₂ (λ ls b. behind_lines (map line_of ls) (lines_in (262144 - (turn + 1)) ex b rest)) items c.after-before.ensures
          ∙ ap (λ ls. behind_lines ls (lines_in (262144 - (turn + 1)) ex (after before line) rest))
          (map-append line_of lines (c.in-Ok.found.0 ∷ []))
          ∙ sym (read_on ex before line left rest (262144 - (turn + 1)) read (map line_of lines) more)
          ∙ sym (ap (λ n. behind_lines (map line_of lines) (lines_in n ex before left)) size)
          ∙ c.loop-turn.invariant.read;
    }

pub returns : goal.returns
returns c =
    let ex = c.args.ex.now in
    let before = c.loop-turn.before in
    let left = c.loop-turn.left.now in
    let lines = map line_of c.loop-turn.lines.items in
    let size : 262144 - c.loop-turn.turn ≡ 0 = omega (arith, c.loop-turn-test.false) in
    sym c.loop-turn.invariant.read ∙ ap (λ n. behind_lines lines (lines_in n ex before left)) size
    ∙ read_none ex before left lines
