use Rattle.std.proofs.Common.{◌++◌, ℕ, List, length, ap, sym, ◌∙◌, subst}
use Rattle.std.proofs.lemmas.Result.{on_err_weaker, on_ok_weaker}
use Rattle.cert_file.proofs.Wholes.{whole_text}
use Rattle.fux_port.specs.Written.{StopsShort, appended}
use Rattle.cert_file.proofs.whole.write_counted.Goals as goal

pub write_parts-requires : goal.write_parts-requires
write_parts-requires g c = record {
  stands = (c.requires.lines, record { is = c.begin_again.ensures.walk; told = c.begin_again.ensures.told });
}

pub returns-then-kept-clause-ok : goal.returns-then-kept-clause-ok
returns-then-kept-clause-ok g c =
    let text = c.args.text.now in
    on_ok_weaker c.write_kept.result
    (λ wrote. wrote
    ∙ ap (λ (bs : List ℕ). appended (g.K.Sink.written c.args.sink.now) (text ++ bs))
    (c.requires.kept c.if-kept.true))
    c.write_kept.ensures.ok

pub returns-then-kept-clause-err : goal.returns-then-kept-clause-err
returns-then-kept-clause-err g c =
    let text = c.args.text.now in
    on_err_weaker c.write_kept.result
    (λ stop. subst (λ (bs : List ℕ). StopsShort (g.K.Sink.written c.args.sink.now)
    (g.K.Sink.written c.write_kept.new.sink) (text ++ bs)) (c.requires.kept c.if-kept.true) stop)
    c.write_kept.ensures.err

pub returns-then-kept-clause-taken : goal.returns-then-kept-clause-taken
returns-then-kept-clause-taken g c = λ promised.
    let text = c.args.text.now in
    c.write_kept.ensures.taken
    (subst (λ (bs : List ℕ). g.K.Sink.serves c.args.sink.now (length (text ++ bs)))
    (sym (c.requires.kept c.if-kept.true)) promised)

pub returns-clause-ok : goal.returns-clause-ok
returns-clause-ok g c =
    let it = c.args.it.now in
    on_ok_weaker c.write_parts.result
    (λ wrote. wrote ∙ ap (appended (g.K.Sink.written c.args.sink.now))
    (whole_text (g.T.ClaimTree.tree it) (g.T.ClaimTree.ways it) (g.T.ClaimTree.own it) (g.T.ClaimTree.root it)
    c.args.text.now c.begin_again.new.walk c.begin_again.ensures.claims))
    c.write_parts.ensures.ok

pub returns-clause-err : goal.returns-clause-err
returns-clause-err g c =
    let it = c.args.it.now in
    on_err_weaker c.write_parts.result
    (λ stop. subst (λ (bs : List ℕ). StopsShort (g.K.Sink.written c.args.sink.now)
    (g.K.Sink.written c.write_parts.new.sink) bs)
    (whole_text (g.T.ClaimTree.tree it) (g.T.ClaimTree.ways it) (g.T.ClaimTree.own it) (g.T.ClaimTree.root it)
    c.args.text.now c.begin_again.new.walk c.begin_again.ensures.claims) stop)
    c.write_parts.ensures.err

pub returns-clause-taken : goal.returns-clause-taken
returns-clause-taken g c = λ promised.
    let it = c.args.it.now in
    c.write_parts.ensures.taken
    (subst (λ (bs : List ℕ). g.K.Sink.serves c.args.sink.now (length bs))
    (sym (whole_text (g.T.ClaimTree.tree it) (g.T.ClaimTree.ways it) (g.T.ClaimTree.own it) (g.T.ClaimTree.root it)
    c.args.text.now c.begin_again.new.walk c.begin_again.ensures.claims)) promised)
