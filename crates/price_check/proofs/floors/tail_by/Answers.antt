use Rattle.std.proofs.Common.{◌≡◌, ◌<◌, ◌+◌, ◌-◌, None, Some, refl, ap, ap₂, arith, drop, length, map, option_map, slice_index_or, sym, ◌∙◌}
use Rattle.std.proofs.lemmas.List.{drop_more}
use Rattle.std.proofs.lemmas.Option.{slice_get_read}
use Rattle.floor_graphs.specs.Sharper.{greater}
use Rattle.price_check.specs.Floors.{list_of}
use Rattle.price_check.proofs.Places.{drop_end, sum_for, tail_told}
use Rattle.price_check.specs.PriceLists.{greatest_sum, list_sum}
use Rattle.price_check.proofs.floors.tail_by.Goals as goal

pub loop-turn-init : goal.loop-turn-init
loop-turn-init c = λ t p for judged stand.
    let floors = c.args.floors.now in
    let none = drop_end floors (length floors - 0) (omega arith) in
    ap (λ fs. greatest_sum t.exercise t.sheet (c.args.judged.now.paid + c.args.judged.now.least) (map list_of fs) p) (sym none)

pub loop-turn-preserved : goal.loop-turn-preserved
loop-turn-preserved c = λ t p for judged stand.
    let floors = c.args.floors.now in
    let turn = c.loop-turn.turn in
    let j = length floors - 1 - turn in
    let floor = c.index-floors-j.result in
    let spent = c.args.judged.now.paid + c.args.judged.now.least in
    let within : j < length floors = omega (arith, c.loop-turn-test.true) in
    let there = slice_get_read floors (length floors) j floor refl within c.index-floors-j.is in
    let own = for j floor there in
    let sum = sum_for floor t.exercise t.sheet (slice_index_or c.args.places.now j None) p c.args.judged.now.paid
    c.args.judged.now.least c.sum-sum.result own.0 own.1 (c.sum-sum.ensures p) judged.prefix (stand j floor there) judged.paid
    judged.least in
    let first : length floors - (turn + 1) ≡ j = omega (arith, c.loop-turn-test.true) in
    let next : j + 1 ≡ length floors - turn = omega (arith, c.loop-turn-test.true) in
    let parted = drop_more floors j floor within in
    let rest = greatest_sum t.exercise t.sheet spent (map list_of (drop (length floors - turn) floors)) p in
    c.greater-greatest.ensures ∙ ap₂ greater sum (c.loop-turn.invariant t p for judged stand)
    ∙ ap (λ n. greater (list_sum t.exercise t.sheet (list_of floor) p)
    (greatest_sum t.exercise t.sheet spent (map list_of (drop n floors)) p)) (sym next)
    ∙ ap (λ f. greater (list_sum t.exercise t.sheet (list_of f) p)
    (greatest_sum t.exercise t.sheet spent (map list_of (drop (j + 1) floors)) p)) c.index-floors-j.is
    ∙ sym (ap (λ fs. greatest_sum t.exercise t.sheet spent (map list_of fs) p) parted)
    ∙ sym (ap (λ n. greatest_sum t.exercise t.sheet spent (map list_of (drop n floors)) p) first)

pub returns-in_err-greatest : goal.returns-in_err-greatest
returns-in_err-greatest c = λ t p for judged stand.
    let floors = c.args.floors.now in
    let spent = c.args.judged.now.paid + c.args.judged.now.least in
    let all : length floors - c.loop-turn.turn ≡ 0 = omega (arith, c.loop-turn-test.false) in
    let greatest = c.loop-turn.invariant t p for judged stand
    ∙ ap (λ n. greatest_sum t.exercise t.sheet spent (map list_of (drop n floors)) p) all in
    c.from_residual.ensures ∙ sym (ap (option_map (λ g. g - spent)) c.in_err-greatest.was)
    ∙ tail_told t.exercise t.sheet (map list_of floors) p c.loop-turn.greatest spent
    (ap₂ (λ a b. a + b) judged.paid judged.least) greatest

pub returns : goal.returns
returns c = λ t p for judged stand.
    let floors = c.args.floors.now in
    let spent = c.args.judged.now.paid + c.args.judged.now.least in
    let all : length floors - c.loop-turn.turn ≡ 0 = omega (arith, c.loop-turn-test.false) in
    let greatest = c.loop-turn.invariant t p for judged stand
    ∙ ap (λ n. greatest_sum t.exercise t.sheet spent (map list_of (drop n floors)) p) all in
    ap Some c.saturating_sub.ensures ∙ sym (ap (option_map (λ g. g - spent)) c.in_ok-greatest.was)
    ∙ tail_told t.exercise t.sheet (map list_of floors) p c.loop-turn.greatest spent
    (ap₂ (λ a b. a + b) judged.paid judged.least) greatest
