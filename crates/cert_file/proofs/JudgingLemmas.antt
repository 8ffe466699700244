-- What the claims that were taken are (`begins`, `takes_on`), how many they are at most (`few`),
-- and what comes behind them.
use Rattle.std.proofs.Common.{◌≡◌, ◌≢◌, ℕ, ◌+◌, ◌≤◌, List, [], ◌∷◌, ◌++◌, Option, None, Result, length, take, refl, sym, ap, subst, ◌∙◌, arith, append-nil, length-append}
use Rattle.std.proofs.lemmas.List.{flat_map_more, take-take}
use Rattle.std.proofs.Math.Seq.{take-append_seam}
use Rattle.std.specs.Io.{StartsWith}
use Rattle.std.specs.List.{AllByRecursion, flat_map}
use Rattle.cert_file.specs.Nearness.{EndsNear, IsReadFor, IsReadTo, IsReadToClaim, ReadsNear, line_end}
use Rattle.cert_file.specs.Readings.{FaultAt, Files, Gives, IsAt, MayBe, Reading, judged_bytes, longest_certificate, longest_piece}
use Rattle.cert_file.specs.declared.fault.ReadFault.{ReadFault}
use Rattle.cert_file.specs.declared.verdict.Verdict.{Verdict}
use Rattle.cert_file.specs.declared.verdict.Verdict.TheVariants as verdicts
use Rattle.cert_file.proofs.LineLemmas.{begins_judged}
use Rattle.cert_text.specs.declared.answers.CertFault.{CertFault}
use Rattle.cert_text.specs.declared.answers.CertFault.TheVariants.{CertEnd, CertHead, CertWord, Memory}
use Rattle.cert_text.specs.declared.answers.Refused.{Refused}
use Rattle.cert_text.specs.declared.answers.Why.TheVariants.{Short}
use Rattle.cert_text.specs.declared.claim.Claim.{Claim}
use Rattle.cert_text.specs.Lines.{IsClaim, claim_line, claim_word}
use Rattle.cert_tree.specs.Trees.{IsCertified, owed_by}
use Rattle.fux_port.specs.Files.{MayHave}
use Rattle.cert_file.specs.Checking.{Checking, IsFault, Refuses, Takes, TakesOf, opened_at}
use Rattle.cert_file.specs.Judgments.{Finds, IsTaken, RefusesFor}
use Rattle.cert_file.specs.Subjects.{IsOpened, IsTextOf, Leaves, Subject}

-- bytes that begin with more begin with its front
pub begins_front : (bytes xs ys : List ℕ) → StartsWith bytes (xs ++ ys) → StartsWith bytes xs
begins_front bytes xs ys begins =
    sym (take-take (length xs) (length (xs ++ ys)) bytes (omega (arith, length-append xs ys)))
    ∙ ap (λ zs. take (length xs) zs) begins ∙ take-append_seam xs ys

-- what stands between two claims: the reader is behind those that the checker took, and the checker
-- keeps no refusal
pub record IsOn {P H X : Type 0} (family : P → Subject H X) (files : Files) (name : List ℕ) (start : Checking P H X)
    (reader : Reading) (checker : Checking P H X) : Type 0
  where
    pub now : List ℕ
    pub at : IsAt files name now reader
    pub taken : IsTaken (family start.asked) start.head checker.count checker.owed now
    pub same : checker ≡ record start { owed = checker.owed; count = checker.count }
    pub clear : start.refusal ≡ None

module _ {H X : Type 0} (subject : Subject H X) (head : H) where
  -- one more true claim
  leaves_more : (owed : List X) (claims : List Claim) (p : X)
      (later : List X) (claim : Claim)
      → Leaves (subject.tree head) owed claims (p ∷ later) → (subject.tree head).IsTrueOf p claim
      → Leaves (subject.tree head) owed (claims ++ claim ∷ []) (owed_by (subject.tree head) p claim ++ later)
  leaves_more owed [] p later claim left holds =
      subst (λ (ps : List X). Leaves (subject.tree head) ps (claim ∷ []) (owed_by (subject.tree head) p claim ++ later))
      (sym left) (holds, refl)
  leaves_more [] (other ∷ claims) p later claim left holds = absurd left
  leaves_more (q ∷ owed) (other ∷ claims) p later claim left holds =
      (left.0, leaves_more (owed_by (subject.tree head) q other ++ owed) claims p later claim left.1 holds)

  -- claims that leave none are certified
  pub leaves_none : (owed : List X) (claims : List Claim) → Leaves (subject.tree head) owed claims []
      → IsCertified (subject.tree head) owed claims
  leaves_none [] [] left = tt
  leaves_none (p ∷ owed) [] left = cc
  leaves_none [] (claim ∷ claims) left = left
  leaves_none (p ∷ owed) (claim ∷ claims) left = (left.0, leaves_none (owed_by (subject.tree head) p claim ++ owed) claims left.1)

  -- the text with one more claim
  text_more : (claims : List Claim) (bytes : List ℕ) (claim : Claim) → IsTextOf subject head claims bytes → IsClaim claim
      → IsTextOf subject head (claims ++ claim ∷ []) (bytes ++ claim_line claim)
  text_more claims bytes claim text fits = record {
    front = text.front;
    heads = text.heads;
    fits = all_more claims text.fits;
    is = ap (λ xs. xs ++ claim_line claim) text.is ∙ flat_map_more claim_line text.front claims claim;
  }
    where
      all_more : (claims : List Claim) → AllByRecursion IsClaim claims → AllByRecursion IsClaim (claims ++ claim ∷ [])
      all_more [] all = (fits, tt)
      all_more (other ∷ claims) all = (all.0, all_more claims all.1)

  pub taken_more : (count : ℕ) (p : X) (later : List X) (bytes : List ℕ) (claim : Claim)
      → IsTaken subject head count (p ∷ later) bytes → IsClaim claim → (subject.tree head).IsTrueOf p claim
      → IsTaken subject head (count + 1) (owed_by (subject.tree head) p claim ++ later) (bytes ++ claim_line claim)
  taken_more count p later bytes claim taken fits holds = record {
    sound = taken.sound;
    claims = taken.claims ++ claim ∷ [];
    counted = length-append taken.claims (claim ∷ []) ∙ ap (λ n. n + 1) taken.counted;
    text = text_more taken.claims bytes claim taken.text fits;
    left = leaves_more (subject.root ∷ []) taken.claims p later claim taken.left holds;
  }

  -- a file that begins with the text of claims that were taken, and of one more, and of which no
  -- more than a piece was read beyond that
  pub read_to : (count : ℕ) (owed : List X) (front bytes : List ℕ) (claim : Claim) (read : ℕ)
      → IsTaken subject head count owed front → IsClaim claim → StartsWith bytes (front ++ claim_line claim)
      → read ≤ length (front ++ claim_line claim) + longest_piece
      → IsReadToClaim subject head (count + 1) read bytes
  read_to count owed front bytes claim read taken fits begins near = record {
    front = front ++ claim_line claim;
    claims = taken.claims ++ claim ∷ [];
    counted = length-append taken.claims (claim ∷ []) ∙ ap (λ n. n + 1) taken.counted;
    text = text_more taken.claims front claim taken.text fits;
    begins = begins;
    near = near;
  }

  -- there are no more claims than bytes
  pub few : (count : ℕ) (owed : List X) (bytes : List ℕ) → IsTaken subject head count owed bytes
      → count ≤ length bytes
  few count owed bytes taken =
      omega (
        arith,
        taken.counted,
        lines taken.claims,
        ap length taken.text.is,
        length-append taken.text.front
            (flat_map claim_line taken.claims),
      )
    where
      lines : (claims : List Claim) → length claims ≤ length (flat_map claim_line claims)
      lines [] = omega arith
      lines (claim ∷ claims) =
          omega (
            arith,
            lines claims,
            length-append (claim_line claim) (flat_map claim_line claims),
            length-append (claim_word claim) (10 ∷ []),
          )

module _ {P H X : Type 0} (family : P → Subject H X) (files : Files) (name : List ℕ) (start : Checking P H X) where
  pub begins : (reader : Reading) → start ≡ opened_at start.asked start.head (family start.asked).root
      → (family start.asked).IsSound start.head → IsOpened (family start.asked).IsHead files name start.head reader
      → IsOn family files name start reader start
  begins reader fresh sound started = record {
    now = started.front;
    at = started.at;
    taken = record {
      sound = sound;
      claims = [];
      counted = sym (ap (λ (c : Checking P H X). c.count) fresh);
      text = record { front = started.front; heads = started.heads; fits = tt; is = sym (append-nil started.front) };
      left = sym (ap (λ (c : Checking P H X). c.owed) fresh);
    };
    same = refl;
    clear = ap (λ (c : Checking P H X). c.refusal) fresh;
  }

  module _ (reader : Reading) (checker : Checking P H X) (on : IsOn family files name start reader checker) where
    pub unrefused : checker.refusal ≡ None
    unrefused = ap (λ (c : Checking P H X). c.refusal) on.same ∙ on.clear

    -- a reader that has read no more than a certificate may have has given no more claims
    pub counted : reader.offset ≤ 1073741824 → checker.count ≤ 1073741824
    counted limit = omega (
      arith,
      limit,
      on.at.offset,
      few (family start.asked) start.head checker.count
          checker.owed on.now on.taken,
    )

    -- what the reader gives, over the files that stood at the start
    pub given : (rose : Type 0) (after : Reading) (result : Result (Option Claim) ReadFault) (files_now : Files)
        → files_now ≡ files
        → ((front : List ℕ) → IsAt files_now name front reader → Gives files_now name rose front after result)
        → Gives files name rose on.now after result
    given rose after result files_now same gives =
        subst (λ fs. Gives fs name rose on.now after result) same
        (gives on.now (subst (λ fs. IsAt fs name on.now reader) (sym same) on.at))

    pub count_grows : (claim : Claim) (new : Checking P H X) → Takes (family checker.asked) checker claim new → new.count ≡ checker.count + 1
    count_grows claim new takes = by checker.owed takes
      where
        by : (owed : List X) → TakesOf (family checker.asked) checker owed claim new → new.count ≡ checker.count + 1
        by [] it = absurd it
        by (p ∷ later) it = ap (λ (c : Checking P H X). c.count) it.1

    pub takes_on : (claim : Claim) (new : Checking P H X) (after : Reading) → IsClaim claim
        → IsAt files name (on.now ++ claim_line claim) after
        → Takes (family checker.asked) checker claim new → IsOn family files name start after new
    takes_on claim new after fits at takes =
        by checker.owed refl (subst (λ (c : Checking P H X). TakesOf (family c.asked) c c.owed claim new) on.same takes)
      where
        by : (owed : List X) → checker.owed ≡ owed
            → TakesOf (family start.asked) (record start { owed = checker.owed; count = checker.count }) owed claim new
            → IsOn family files name start after new
        by [] are it = absurd it
        by (p ∷ later) are it =
            let taken = subst (λ ps. IsTaken (family start.asked) start.head checker.count ps on.now) are on.taken
            in
            record {
              now = on.now ++ claim_line claim;
              at = at;
              taken = subst
                  (λ (c : Checking P H X). IsTaken (family start.asked) start.head c.count c.owed
                  (on.now ++ claim_line claim))
                  (sym it.1) (taken_more (family start.asked) start.head checker.count p later on.now claim taken
                  fits it.0);
              same = subst (λ (c : Checking P H X). c ≡ record start { owed = c.owed; count = c.count }) (sym it.1) refl;
              clear = on.clear;
            }

    pub refuses_next : (claim : Claim) (refused : Refused) (new : Checking P H X) (after : Reading) → IsClaim claim
        → IsAt files name (on.now ++ claim_line claim) after → after.offset ≤ longest_certificate
        → Refuses (family checker.asked) checker claim refused new
        → MayBe files name (RefusesFor (family start.asked) start.head refused.number refused.why)
    refuses_next claim refused new after fits at limit refuses =
        by checker.owed refl (subst (λ (c : Checking P H X). IsFault (family c.asked) c c.owed claim refused) on.same refuses.0)
      where
        line : StartsWith (judged_bytes at.begins.bytes) (on.now ++ claim_line claim)
        line = begins_judged at.begins.bytes (on.now ++ claim_line claim) (omega (arith, limit, at.offset))
            (begins_front at.begins.bytes (on.now ++ claim_line claim) _ at.begins.such)

        by : (owed : List X) → checker.owed ≡ owed
            → IsFault (family start.asked) (record start { owed = checker.owed; count = checker.count }) owed claim refused
            → MayBe files name (RefusesFor (family start.asked) start.head refused.number refused.why)
        by [] are it = record {
          bytes = at.begins.bytes;
          had = at.begins.had;
          such = subst (λ (r : Refused). RefusesFor (family start.asked) start.head r.number r.why
              at.begins.bytes) (sym it) record {
                count = checker.count;
                numbered = refl;
                front = on.now;
                taken = subst (λ ps. IsTaken (family start.asked) start.head checker.count ps on.now) are on.taken;
                claim = claim;
                fits = fits;
                begins = line;
              };
        }
        by (p ∷ later) are it = record {
          bytes = at.begins.bytes;
          had = at.begins.had;
          such = subst (λ (r : Refused). RefusesFor (family start.asked) start.head r.number r.why
              at.begins.bytes) (sym it.1) record {
                count = checker.count;
                numbered = refl;
                next = p;
                owed = later;
                front = on.now;
                taken = subst (λ ps. IsTaken (family start.asked) start.head checker.count ps on.now) are on.taken;
                claim = claim;
                fits = fits;
                begins = line;
                untrue = it.0;
              };
        }

    -- no more is read than a piece beyond the line of a claim that is refused
    pub refused_near : (claim : Claim) (refused : Refused) (new : Checking P H X) (after : Reading) → IsClaim claim
        → IsAt files name (on.now ++ claim_line claim) after → after.claims.begun ≡ []
        → length after.ahead ≤ longest_piece → Refuses (family checker.asked) checker claim refused new
        → MayBe files name (IsReadTo (family start.asked) start.head after.offset (verdicts.Claim refused))
    refused_near claim refused new after fits at none short refuses = record {
      bytes = at.begins.bytes;
      had = at.begins.had;
      such = by checker.owed (subst (λ (c : Checking P H X). IsFault (family c.asked) c c.owed claim refused) on.same refuses.0);
    }
      where
        there : IsReadToClaim (family start.asked) start.head (checker.count + 1) after.offset at.begins.bytes
        there = read_to (family start.asked) start.head checker.count checker.owed on.now at.begins.bytes claim after.offset
            on.taken fits (begins_front at.begins.bytes (on.now ++ claim_line claim) _ at.begins.such)
            (omega (arith, at.offset, short, ap length none))

        by : (owed : List X)
            → IsFault (family start.asked) (record start { owed = checker.owed; count = checker.count }) owed claim refused
            → IsReadFor (family start.asked) start.head after.offset refused.number refused.why at.begins.bytes
        by [] it = subst
            (λ (r : Refused). IsReadFor (family start.asked) start.head after.offset r.number r.why at.begins.bytes)
            (sym it) there
        by (p ∷ later) it = subst
            (λ (r : Refused). IsReadFor (family start.asked) start.head after.offset r.number r.why at.begins.bytes)
            (sym it.1) there

    -- nor beyond a line that is wrong; what ends too soon or too late is read to its end
    pub fault_near : (fault : CertFault) (read : ℕ) → MayBe files name (FaultAt on.now fault)
        → EndsNear files name (length on.now) read
        → MayBe files name (IsReadTo (family start.asked) start.head read (verdicts.Text fault))
    fault_near (CertWord at) read known near = record {
      bytes = near.bytes;
      had = near.had;
      such = subst (λ n. read ≤ line_end n near.bytes + longest_piece) (sym known.such.0) near.such;
    }
    fault_near (CertEnd at) read known near = record { bytes = known.bytes; had = known.had; such = tt }
    fault_near (CertHead at) read known near = absurd known.such
    fault_near Memory read known near = absurd known.such

    -- the same with what a shelf gave: where a line is wrong, nothing beyond what was read
    pub wrong_near : (fault : CertFault) (before past read : ℕ) → MayBe files name (FaultAt on.now fault)
        → EndsNear files name (length on.now) read → ((at : ℕ) → fault ≡ CertWord at → past ≤ before + read)
        → past ≤ before + (read + 1)
        → ReadsNear (family start.asked) start.head files name before past (verdicts.Text fault)
    wrong_near (CertWord at) before past read known near word few =
        record { read = read; few = word at refl; near = fault_near (CertWord at) read known near }
    wrong_near (CertEnd at) before past read known near word few = record {
      read = read + 1;
      few = few;
      near = record { bytes = known.bytes; had = known.had; such = tt };
    }
    wrong_near (CertHead at) before past read known near word few = absurd known.such
    wrong_near Memory before past read known near word few = absurd known.such

    -- the end of the file
    pub end_near : (verdict : Verdict) (read : ℕ) → MayHave files name on.now
        → (checker.owed ≡ [] → verdict ≡ verdicts.Accepted ((family checker.asked).accepted checker.head))
        → (checker.owed ≢ [] → verdict ≡ verdicts.Claim (record { number = checker.count + 1; why = Short }))
        → MayBe files name (IsReadTo (family start.asked) start.head read verdict)
    end_near verdict read had accepted short = record { bytes = on.now; had = had; such = by checker.owed refl }
      where
        by : (owed : List X) → checker.owed ≡ owed → IsReadTo (family start.asked) start.head read verdict on.now
        by [] are =
            subst (λ (it : Verdict). IsReadTo (family start.asked) start.head read it on.now) (sym (accepted are)) tt
        by (p ∷ later) are =
            let some : checker.owed ≢ [] = λ none. cc in
            subst (λ (it : Verdict). IsReadTo (family start.asked) start.head read it on.now) (sym (short some)) tt

    pub finds_fault : (fault : CertFault) → MayBe files name (FaultAt on.now fault)
        → Finds (family start.asked) start.head files name (verdicts.Text fault)
    finds_fault fault known = record {
      bytes = known.bytes;
      had = known.had;
      such = record {
        count = checker.count;
        owed = checker.owed;
        front = on.now;
        taken = on.taken;
        fault_at = known.such;
      };
    }

    pub finds_end : (verdict : Verdict) → reader.offset ≤ 1073741824 → MayHave files name on.now
        → (checker.owed ≡ [] → verdict ≡ verdicts.Accepted ((family checker.asked).accepted checker.head))
        → (checker.owed ≢ [] → verdict ≡ verdicts.Claim (record { number = checker.count + 1; why = Short }))
        → Finds (family start.asked) start.head files name verdict
    finds_end verdict limit had accepted short = by checker.owed refl
      where
        by : (owed : List X) → checker.owed ≡ owed
            → Finds (family start.asked) start.head files name verdict
        by [] are =
            let taken = subst (λ ps. IsTaken (family start.asked) start.head checker.count ps on.now) are on.taken
            in
            subst (Finds (family start.asked) start.head files name) (sym (accepted are)) record {
              bytes = on.now;
              had = had;
              such = (
                ap (λ (c : Checking P H X). (family c.asked).accepted c.head) on.same,
                record {
                  claims = taken.claims;
                  text = taken.text;
                  short = omega (arith, limit, on.at.offset);
                  valid = record {
                    sound = taken.sound;
                    certified = leaves_none (family start.asked) start.head ((family start.asked).root ∷ []) taken.claims taken.left;
                  };
                },
              );
            }
        by (p ∷ later) are =
            let some : checker.owed ≢ [] = λ none. cc in
            subst (Finds (family start.asked) start.head files name) (sym (short some)) record {
              bytes = on.now;
              had = had;
              such = record {
                count = checker.count;
                numbered = refl;
                next = p;
                owed = later;
                taken =
                    subst (λ ps. IsTaken (family start.asked) start.head checker.count ps on.now) are on.taken;
                short = omega (arith, limit, on.at.offset);
              };
            }
