use Rattle.std.proofs.Common.{◌-◌, ◌∷◌, [], ◌++◌, append-nil, append_assoc, subst, sym, ◌∙◌, ap}
use Rattle.std.proofs.lemmas.Result.{err_from_is_err_and}
use Rattle.cert_text.specs.Pieces.{Reads, Stops}
use Rattle.cert_text.proofs.PieceLemmas.{IfErr-map, IfOk-map}
use Rattle.cantus_check.specs.Rows.{Between, Names}
use Rattle.cantus_check.proofs.NameRows.{more-stops, name-stops, names-end, names-first, names-more, one_more}
use Rattle.cantus_check.proofs.scan.+names.Goals as goal

pub returns-in_err-goes-clause-err : goal.returns-in_err-goes-clause-err
returns-in_err-goes-clause-err t c =
    let told = err_from_is_err_and c.from_residual.result c.from_residual.ensures.1 in
    rw (told.1, told.2)
    (subst (λ most. Stops (Names c.args.owed most) c.args.bytes.now c.in_err-goes.field-0.0)
    (sym (one_more c.args.most c.if-most-eq0.false))
    (names-first c.args.owed (c.args.most - 1) c.args.bytes.now c.in_err-goes.field-0.0 c.in_err-goes.ensures.err))

pub returns-then-not-goes-clause-ok : goal.returns-then-not-goes-clause-ok
returns-then-not-goes-clause-ok t c =
    let ends = subst (λ goes. Reads (Between c.args.owed) c.args.bytes.now goes c.in_ok-goes.behind.now)
    c.if-not-goes.true c.in_ok-goes.ensures.ok in
    record {
      read = [];
      put = sym (append-nil c.args.pitches.now.items);
      reads = subst (λ most. Reads (Names c.args.owed most) c.args.bytes.now [] c.in_ok-goes.behind.now)
          (sym (one_more c.args.most c.if-most-eq0.false))
          (names-end c.args.owed (c.args.most - 1) c.args.bytes.now c.in_ok-goes.behind.now ends);
    }

pub returns-in_err-pitch-clause-err : goal.returns-in_err-pitch-clause-err
returns-in_err-pitch-clause-err t c =
    let told = err_from_is_err_and c.from_residual-in_err-pitch.result c.from_residual-in_err-pitch.ensures.1 in
    let goes = subst (λ goes. Reads (Between c.args.owed) c.args.bytes.now goes c.in_ok-goes.behind.now)
    c.if-not-goes.false c.in_ok-goes.ensures.ok in
    rw (told.1, told.2)
    (subst (λ most. Stops (Names c.args.owed most) c.args.bytes.now c.in_err-pitch.field-0.0)
    (sym (one_more c.args.most c.if-most-eq0.false))
    (name-stops c.args.owed (c.args.most - 1) c.args.bytes.now c.in_ok-goes.behind.now goes
    c.in_err-pitch.field-0.0 c.in_err-pitch.ensures.err))

pub returns-clause-ok : goal.returns-clause-ok
returns-clause-ok t c =
    let goes = subst (λ goes. Reads (Between c.args.owed) c.args.bytes.now goes c.in_ok-goes.behind.now)
    c.if-not-goes.false c.in_ok-goes.ensures.ok in
    let pitch = c.in_ok-pitch.pitch in
    IfOk-map c.names.result
    (λ rest found. record {
      read = pitch ∷ found.read;
      put = found.put ∙ ap (λ ps. ps ++ found.read) c.push_reserved.ensures.items
          ∙ append_assoc c.args.pitches.now.items (pitch ∷ []) found.read;
      reads = subst (λ most. Reads (Names c.args.owed most) c.args.bytes.now (pitch ∷ found.read) rest.now)
          (sym (one_more c.args.most c.if-most-eq0.false))
          (names-more c.args.owed (c.args.most - 1) c.args.bytes.now c.in_ok-goes.behind.now goes pitch
          c.in_ok-pitch.more.now c.in_ok-pitch.ensures.ok found.read rest.now
          (subst (λ owed. Reads (Names owed (c.args.most - 1)) c.in_ok-pitch.more.now found.read rest.now)
          c.saturating_sub.ensures found.reads));
    })
    c.names.ensures.ok

pub returns-clause-err : goal.returns-clause-err
returns-clause-err t c =
    let goes = subst (λ goes. Reads (Between c.args.owed) c.args.bytes.now goes c.in_ok-goes.behind.now)
    c.if-not-goes.false c.in_ok-goes.ensures.ok in
    IfErr-map c.names.result
    (λ left stop. subst (λ most. Stops (Names c.args.owed most) c.args.bytes.now left)
    (sym (one_more c.args.most c.if-most-eq0.false))
    (more-stops c.args.owed (c.args.most - 1) c.args.bytes.now c.in_ok-goes.behind.now goes c.in_ok-pitch.pitch
    c.in_ok-pitch.more.now c.in_ok-pitch.ensures.ok left
    (subst (λ owed. Stops (Names owed (c.args.most - 1)) c.in_ok-pitch.more.now left)
    c.saturating_sub.ensures stop)))
    c.names.ensures.err
