use Rattle.std.proofs.Common.{ℕ, Bor, List, Option, ◌∷◌, Some, None, length, length-append, ap, ◌∙◌, sym, arith}
use Rattle.std.specs.Str.Lines.{lines}
use Rattle.std.proofs.lemmas.Str.Pattern.{split_parts}
use Rattle.class_marker.proofs.ListLemmas.{cuts}
use Rattle.class_marker.proofs.LooseLineLemmas.{lines_last, lines_more}
use Rattle.class_marker.proofs.loose_list.first_line.Goals as goal

pub returns-in-Some-clause-lines : goal.returns-in-Some-clause-lines
returns-in-Some-clause-lines c =
    let line = c.in-Some.line in
    let behind = c.in-Some.behind in
    let found : Option (Bor (List ℕ) × Bor (List ℕ)) = Some (line, behind) in
    let cut = cuts c.args.text.now found
    (split_parts 10 c.args.text.now found c.in-Some.ensures.cases (omega arith)) in
    ap lines cut.0 ∙ lines_more line.now behind.now cut.1
    ∙ ap (λ l. l ∷ lines behind.now) (sym c.without_return.ensures)

pub returns-in-Some-clause-shorter : goal.returns-in-Some-clause-shorter
returns-in-Some-clause-shorter c =
    let line = c.in-Some.line in
    let behind = c.in-Some.behind in
    let found : Option (Bor (List ℕ) × Bor (List ℕ)) = Some (line, behind) in
    let cut = cuts c.args.text.now found
    (split_parts 10 c.args.text.now found c.in-Some.ensures.cases (omega arith)) in
    omega (arith, ap length cut.0, length-append line.now (10 ∷ behind.now))

pub returns-in-None-clause-lines : goal.returns-in-None-clause-lines
returns-in-None-clause-lines c =
    lines_last c.args.text.now
    (cuts c.args.text.now None (split_parts 10 c.args.text.now None c.in-None.ensures.cases (omega arith))) c.requires
