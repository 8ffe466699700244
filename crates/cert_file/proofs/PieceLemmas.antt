-- What a reader of claims makes of a piece: it takes a line of it (`line_taken`) or refuses it
-- (`line_refused`); and what the next piece makes of a reader (`reads_on`, `fault_given`), or the
-- end of the file (`end_gives`).
use Rattle.std.proofs.Common.{◌≡◌, ◌≢◌, ℕ, ◌+◌, ◌-◌, ◌<◌, ◌≤◌, Bool, true, false, List, [], ◌∷◌, ◌++◌, Option, None, Some, Result, Ok, Err, length, take, drop, refl, sym, ap, subst, ◌∙◌, arith, append_assoc, length-append, length-drop}
use Rattle.std.specs.Prelude.{IfNone, IfSome}
use Rattle.std.specs.Io.{StartsWith}
use Rattle.std.proofs.Transfers.{starts_with_length}
use Rattle.std.proofs.lemmas.List.{append-nil, drop-drop, drop-take, length-take-le, take-append-drop, take-append-le, take-take}
use Rattle.fux_port.specs.Files.{MayHave}
use Rattle.cert_text.specs.declared.answers.CertFault.{CertFault}
use Rattle.cert_text.specs.declared.answers.CertFault.TheVariants.{CertEnd}
use Rattle.cert_text.specs.declared.claim.Claim.{Claim}
use Rattle.cert_text.specs.declared.claim.Claim.TheVariants.{Open}
use Rattle.cert_text.specs.declared.claims.Taken.{Taken}
use Rattle.cert_text.specs.Lines.{BeginsClaim, HasNoFeed, IsClaim, claim_line, line_if, line_part}
use Rattle.cert_text.specs.Reading as text
use Rattle.cert_text.specs.Takes.{Refuses, Takes}
use Rattle.cert_file.specs.Readings.{Begins, Continues, EndGives, FaultAt, Files, Gives, IsAt, IsPlaced, MayBe, AClaim, Piece, Reading, ReadsOn, TakesLine, longest_certificate, longest_piece}
use Rattle.cert_file.specs.Nearness.{StandsNear}
use Rattle.cert_file.specs.declared.fault.ReadFault.{ReadFault}
use Rattle.cert_file.specs.declared.fault.ReadFault.TheVariants.{Unreadable, Text}
use Rattle.cert_file.proofs.LineLemmas.{beyond_line, near_line, unended_line, wrong_line}

-- ---- lines of any kind

-- what a piece makes of a line that was begun: the line, and what is begun then
module _ (begun ahead line after : List ℕ) (used : ℕ) (front_is : line_part ahead ≡ take used ahead)
    (within : used ≤ length ahead) (bytes : begun ++ line_part ahead ≡ line ++ after) where
  pub split : (front : List ℕ) → front ++ (begun ++ ahead) ≡ (front ++ line) ++ (after ++ drop used ahead)
  split front =
      let rest = drop used ahead in
      ap (λ xs. front ++ (begun ++ xs))
      (sym (take-append-drop used ahead) ∙ ap (λ xs. xs ++ rest) (sym front_is))
      ∙ ap (λ xs. front ++ xs) (sym (append_assoc begun (line_part ahead) rest))
      ∙ ap (λ xs. front ++ (xs ++ rest)) bytes
      ∙ ap (λ xs. front ++ xs) (append_assoc line after rest)
      ∙ sym (append_assoc front line (after ++ rest))

  pub sizes : length begun + used ≡ length line + length after
  sizes = omega (
    arith,
    sym (length-append begun (line_part ahead)) ∙ ap length bytes ∙ length-append line after,
    ap length front_is ∙ length-take-le used ahead within,
  )

-- bytes that are none
pub none_left : (xs : List ℕ) → length xs ≡ 0 → xs ≡ []
none_left [] e = refl
none_left (x ∷ xs) e = absurd (omega (arith, e))

-- ---- claims

-- where the next piece can't be read, or shows a fault, that is what a reader gives
pub fault_given : (files : Files) (name front begun : List ℕ) (rose later : Type 0) (now after : Reading) (fault : ReadFault)
    → (later → rose) → ReadsOn files name later front begun now (Err fault)
    → Gives files name rose front after (Err fault)
fault_given files name front begun rose later now after Unreadable so read = so read
fault_given files name front begun rose later now after (Text fault) so read = read

-- a reader has read no more than a piece beyond the line behind its front
pub stands_near : (before : Reading) (offset : ℕ) → length before.ahead ≤ longest_piece → offset ≡ before.offset
    → (files : Files) (name : List ℕ) → StandsNear files name before offset
stands_near before offset short same files name = λ front at.
    near_line files name front before.claims.begun before.ahead offset at.unended at.begins (same ∙ at.offset) short

-- no bytes begin a claim's line
pub nothing_begins : BeginsClaim []
nothing_begins = record { claim = Open; fits = (omega arith, omega arith); rest = claim_line Open; whole = refl }

module _ (files : Files) (name front : List ℕ) (before : Reading) (at : IsAt files name front before) where
  -- the line's place is behind the front
  here : text.line_start before.claims ≡ length front
  here = omega (arith, at.next)

  module _ (taken : Taken) (new : text.Reading) (takes : Takes before.claims before.ahead taken new) (after : Piece)
      (is : after ≡ record { ahead = drop taken.used before.ahead; offset = before.offset }) where
    abbrev seen : Reading
    seen = record { claims = new; ahead = after.ahead; offset = after.offset }

    long : length before.claims.begun + taken.used ≡ length (line_if taken.claim) + length new.begun
    long = sizes before.claims.begun before.ahead (line_if taken.claim) new.begun taken.used takes.front takes.within
        takes.bytes

    left : length after.ahead + taken.used ≡ length before.ahead
    left = omega (
      arith,
      ap (λ (p : Piece). length p.ahead) is,
      length-drop taken.used before.ahead,
      takes.within,
    )

    taken_at : BeginsClaim new.begun → HasNoFeed new.begun → IsAt files name (front ++ line_if taken.claim) seen
    taken_at line unended = record {
      begins = subst (λ xs. MayBe files name (Begins xs))
          (split before.claims.begun before.ahead (line_if taken.claim) new.begun taken.used takes.front takes.within
          takes.bytes front
          ∙ ap (λ (p : Piece). (front ++ line_if taken.claim) ++ (new.begun ++ p.ahead)) (sym is)) at.begins;
      next = omega (arith, takes.next, at.next, long, length-append front (line_if taken.claim));
      clear = takes.refused;
      line = line;
      unended = unended;
      offset = omega (
        arith,
        ap (λ (p : Piece). p.offset) is,
        at.offset,
        long,
        left,
        length-append front (line_if taken.claim),
      );
    }

    -- a line is taken, or the piece is used up
    pub line_taken : TakesLine files name front seen (Ok taken.claim)
    line_taken = by taken.claim refl
      where
        by : (claim : Option Claim) → taken.claim ≡ claim → TakesLine files name front seen (Ok claim)
        by None none =
            let unended = subst (λ c. IfNone c (HasNoFeed new.begun)) none takes.unended in
            let whole : before.claims.begun ++ line_part before.ahead ≡ new.begun = takes.bytes
            ∙ ap (λ c. line_if c ++ new.begun) none in
            let line = subst BeginsClaim whole takes.begins in
            let nowhere : front ++ line_if taken.claim ≡ front = ap (λ c. front ++ line_if c) none ∙ append-nil front in (
              subst (λ xs. IsAt files name xs seen) nowhere (taken_at line unended),
              none_left after.ahead (omega (arith, left, takes.all none)),
            )
        by (Some claim) some =
            let ended = subst (λ c. IfSome c (λ claim. IsClaim claim × (new.begun ≡ []))) some takes.ended in
            let line = subst BeginsClaim (sym ended.1) nothing_begins in
            let unended = subst HasNoFeed (sym ended.1) tt in
            (ended.0, subst (λ c. IsAt files name (front ++ line_if c) seen) some (taken_at line unended), ended.1)

  -- a line is refused
  pub line_refused : (fault : CertFault) (new : text.Reading) (after : Reading)
      → before.offset ≤ longest_certificate
      → Refuses before.claims before.ahead fault new
      → TakesLine files name front after (Err fault)
  line_refused fault new after limit refuses =
      subst (λ it. MayBe files name (FaultAt front it)) (sym refuses.named)
      (wrong_line AClaim files name front before.claims.begun at.unended before.ahead (text.line_start before.claims) here
      (omega (
        arith,
        limit,
        at.offset,
        length-append front (before.claims.begun ++ before.ahead),
        length-append before.claims.begun before.ahead,
      ))
      at.begins refuses.wrong)

  -- the end of the file
  pub end_gives : (end : ℕ) → end ≡ text.line_start before.claims → before.claims.begun ≢ []
      → before.offset ≤ longest_certificate
      → MayHave files name (front ++ before.claims.begun) → MayBe files name (FaultAt front (CertEnd end))
  end_gives end is some limit had =
      unended_line AClaim files name front before.claims.begun at.unended end (is ∙ here) some at.line
      (omega (arith, limit, at.offset, length-append front before.claims.begun)) had

  pub end_whole : before.claims.begun ≡ [] → MayHave files name (front ++ before.claims.begun)
      → MayHave files name front
  end_whole none had = subst (MayHave files name) (ap (λ xs. front ++ xs) none ∙ append-nil front) had

-- what the next piece makes of a reader, where the last one is used up
module _ (files : Files) (name front : List ℕ) (claims : text.Reading) (piece : Piece)
    (at : IsAt files name front (record { claims = claims; ahead = piece.ahead; offset = piece.offset })) where
  pub placed : IsPlaced files name (front ++ claims.begun) piece
  placed = record {
    begins = subst (λ xs. MayBe files name (Begins xs)) (sym (append_assoc front claims.begun piece.ahead)) at.begins;
    offset = omega (arith, at.offset, length-append front claims.begun);
  }

  pub reads_on : (begun : List ℕ) (after : Piece) (rose : Type 0) (result : Result Bool ReadFault) → claims.begun ≡ begun
      → Continues files name rose (front ++ claims.begun) after result
      → ReadsOn files name rose front begun (record { claims = claims; ahead = after.ahead; offset = after.offset }) result
  reads_on begun after rose result its on =
      subst
      (λ xs. ReadsOn files name rose front xs (record { claims = claims; ahead = after.ahead; offset = after.offset })
      result) its (by result on)
    where
      stands : IsPlaced files name (front ++ claims.begun) after
          → IsAt files name front (record { claims = claims; ahead = after.ahead; offset = after.offset })
      stands there = record {
        begins = subst (λ xs. MayBe files name (Begins xs)) (append_assoc front claims.begun after.ahead) there.begins;
        next = at.next;
        clear = at.clear;
        line = at.line;
        unended = at.unended;
        offset = omega (arith, there.offset, length-append front claims.begun);
      }

      by : (read : Result Bool ReadFault) → Continues files name rose (front ++ claims.begun) after read
          → ReadsOn files name rose front claims.begun
          (record { claims = claims; ahead = after.ahead; offset = after.offset }) read
      by (Ok true) it = stands it
      by (Ok false) it = (stands it.0, refl, it.1)
      by (Err Unreadable) it = it
      by (Err (Text fault)) it =
          subst (λ f. MayBe files name (FaultAt front f)) (sym it.0)
          (beyond_line AClaim files name front claims.begun at.unended at.line it.1.full it.1.more)

-- a piece that is placed shows how long a file is
pub reaches : (file piece : List ℕ) (offset count : ℕ) → count ≤ length piece → 0 < count
    → StartsWith (drop offset file) (take count piece) → offset < length file
reaches file piece offset count fits some placed =
    omega (
      arith,
      starts_with_length (drop offset file) (take count piece) placed,
      length-take-le count piece fits,
      length-drop offset file,
    )

-- what is left of a piece of which more was used
pub piece_left : (piece : List ℕ) (from to used : ℕ) → from ≤ to → to ≤ length piece → used ≤ to - from
    → take (to - (from + used)) (drop (from + used) piece) ≡ drop used (take (to - from) (drop from piece))
piece_left piece from to used order within fits =
    let size : used + (to - (from + used)) ≡ to - from = omega (arith, order, fits) in
    ap (λ xs. take (to - (from + used)) xs) (sym (drop-drop used from piece))
    ∙ sym (drop-take used (to - (from + used)) (drop from piece))
    ∙ ap (λ n. drop used (take n (drop from piece))) size

pub length-piece : (piece : List ℕ) (from to : ℕ) → from ≤ to → to ≤ length piece
    → length (take (to - from) (drop from piece)) ≡ to - from
length-piece piece from to order within =
    length-take-le (to - from) (drop from piece) (omega (arith, length-drop from piece, order, within))

-- what the end gives is what the reader gives
pub gives_at_end : (files : Files) (name front : List ℕ) (rose : Type 0) (after : Reading)
    (result : Result (Option Claim) ReadFault)
    → EndGives files name front result → Gives files name rose front after result
gives_at_end files name front rose after (Ok None) it = it
gives_at_end files name front rose after (Ok (Some claim)) it = absurd it
gives_at_end files name front rose after (Err Unreadable) it = absurd it
gives_at_end files name front rose after (Err (Text fault)) it = it

-- the front of a buffer that was written back
pub written : (buf rest : List ℕ) (len count : ℕ) → count ≤ length buf → count ≤ len
    → take (count - 0) (take len (buf ++ rest)) ≡ take count buf
written buf rest len count fits room =
    let same : count - 0 ≡ count = omega arith in
    ap (λ n. take n (take len (buf ++ rest))) same ∙ take-take count len (buf ++ rest) room
    ∙ take-append-le count buf rest fits
