-- Bytes have one verdict (`one_verdict`), where at most one head stands at their front and they are
-- refused before claims in one way, if they are (`IsRefusedOnce`): the lines of claims behind a
-- head read one way only, and the first thing that is wrong is one. So the text of a valid
-- certificate is accepted (`accepted_answer`).
use Rattle.std.proofs.Common.{◌≡◌, ◌≢◌, ℕ, ◌+◌, ◌<◌, ◌≤◌, Bool, true, false, nat_lt, List, [], ◌∷◌, ◌++◌, Result, Ok, Err, length, take, drop, inl, inr, refl, sym, ap, subst, ◌∙◌, arith, append_assoc, append-nil, length-append}
use Rattle.std.specs.Prelude.{IfOk, ⊤}
use Rattle.std.proofs.lemmas.Bool.Decides.{nat_tests}
use Rattle.std.proofs.lemmas.List.{append_cancel_left, take_all, take-append-drop}
use Rattle.std.proofs.Math.Seq.{take-append_seam}
use Rattle.std.specs.List.{AllByRecursion, flat_map}
use Rattle.cert_file.specs.Readings.{Files, IsUnended, IsWrong, MayBe, judged_bytes, longest_certificate}
use Rattle.cert_file.specs.declared.verdict.Verdict.{Verdict}
use Rattle.cert_file.specs.declared.verdict.Verdict.TheVariants as verdicts
use Rattle.cert_file.proofs.FileLemmas.{behind}
use Rattle.cert_file.proofs.LineLemmas.{line_part-unended}
use Rattle.cert_file.proofs.PieceLemmas.{nothing_begins}
use Rattle.cert_file.proofs.TextLemmas.{has_feed, line_begins, line_split, same_line, such_of}
use Rattle.cert_text.specs.declared.answers.CertFault.TheVariants.{CertHead as WrongHead, CertWord, CertEnd, Memory}
use Rattle.cert_text.specs.declared.answers.Why.{Why}
use Rattle.cert_text.specs.declared.answers.Why.TheVariants.{Head, False, Over, Short, Potential, Price}
use Rattle.cert_text.specs.declared.claim.Claim.{Claim}
use Rattle.cert_text.specs.Lines.{BeginsClaim, HasNoFeed, IsClaim, claim_line, claim_word, line_part}
use Rattle.cert_text.proofs.PieceLemmas.{Alone}
use Rattle.cert_tree.specs.Trees.{IsCertified, owed_by}
use Rattle.cert_text.specs.Pieces.{Stands}
use Rattle.cert_text.proofs.Fronts.{at_front, stands-one}
use Rattle.cert_file.specs.Judgments.{AcceptsValid, FindsIn, IsTaken, IsVerdictBy}
use Rattle.cert_file.specs.Subjects.{IsCertificateText, Leaves, Subject}

-- ---- what stands at the front of bytes

-- a claim's line, one that is none, or one that isn't ended, if any
data Line : Type 0 where
  Next : Claim → Line
  Wrong : Line
  Unended : Line

abbrev IsLine : List ℕ → Line → Type 0
IsLine rest (Next claim) = IsClaim claim × ((more : List ℕ) × (rest ≡ claim_line claim ++ more))
IsLine rest Wrong = IsWrong rest
IsLine rest Unended = IsUnended rest

next_not_wrong : (rest : List ℕ) (claim : Claim) → IsLine rest (Next claim) → IsWrong rest → ⊥
next_not_wrong rest claim next wrong =
    wrong (subst (λ xs. BeginsClaim (line_part xs)) (sym next.1.1) (line_begins claim next.1.0 next.0))

next_not_unended : (rest : List ℕ) (claim : Claim) → IsLine rest (Next claim) → IsUnended rest → ⊥
next_not_unended rest claim next begun =
    has_feed (claim_word claim) next.1.0 (subst HasNoFeed (next.1.1 ∙ line_split claim next.1.0) begun.unended)

wrong_not_unended : (rest : List ℕ) → IsWrong rest → IsUnended rest → ⊥
wrong_not_unended rest wrong begun =
    wrong (subst BeginsClaim (sym (line_part-unended rest begun.unended)) begun.begins)

one_line : (rest : List ℕ) (a b : Line) → IsLine rest a → IsLine rest b → a ≡ b
one_line rest (Next c) (Next d) p q =
    ap Next (same_line c d p.1.0 q.1.0 p.0 q.0 (sym p.1.1 ∙ q.1.1)).0
one_line rest (Next c) Wrong p q = absurd (next_not_wrong rest c p q)
one_line rest (Next c) Unended p q = absurd (next_not_unended rest c p q)
one_line rest Wrong (Next d) p q = absurd (next_not_wrong rest d q p)
one_line rest Wrong Wrong p q = refl
one_line rest Wrong Unended p q = absurd (wrong_not_unended rest p q)
one_line rest Unended (Next d) p q = absurd (next_not_unended rest d q p)
one_line rest Unended Wrong p q = absurd (wrong_not_unended rest q p)
one_line rest Unended Unended p q = refl

-- ---- the verdict by it

-- at the end of the file, behind so many claims, where the last line begins at a place
abbrev at_end : {H X : Type 0} → Subject H X → H → List X → ℕ → ℕ → List ℕ → Verdict
at_end subject head owed count place (byte ∷ rest) = verdicts.Text (CertEnd place)
at_end subject head [] count place [] = verdicts.Accepted (subject.accepted head)
at_end subject head (p ∷ owed) count place [] = verdicts.Claim (record { number = count + 1; why = Short })

-- of a claim more
abbrev at_next : {X : Type 0} → List X → ℕ → Verdict
at_next [] count = verdicts.Claim (record { number = count + 1; why = Over })
at_next (p ∷ owed) count = verdicts.Claim (record { number = count + 1; why = False })

-- of any line, where the file goes on behind what is judged, or not
abbrev told_of : {H X : Type 0} → Subject H X → H → Bool → Line → List X → ℕ → ℕ → List ℕ → Verdict
told_of subject head more (Next claim) owed count place rest = at_next owed count
told_of subject head more Wrong owed count place rest = verdicts.Text (CertWord place)
told_of subject head true Unended owed count place rest = verdicts.Text (CertEnd longest_certificate)
told_of subject head false Unended owed count place rest = at_end subject head owed count place rest

module _ {H X : Type 0} (subject : Subject H X) (head : H) (more : Bool) where
  -- a claim that is owed is false
  abbrev IsUntrue : Line → List X → Type 0
  IsUntrue (Next claim) [] = ⊤
  IsUntrue (Next claim) (p ∷ owed) = (subject.tree head).IsTrueOf p claim → ⊥
  IsUntrue Wrong owed = ⊤
  IsUntrue Unended owed = ⊤

  record IsTold (owed : List X) (count place : ℕ) (rest : List ℕ) (it : Verdict) : Type 0 where
    pub line : Line
    pub is : IsLine rest line
    pub untrue : IsUntrue line owed
    pub told : it ≡ told_of subject head more line owed count place rest

  -- a true claim of this prefix stands first, and this holds of what is behind it
  record Goes (claim : Claim) (p : X) (rest : List ℕ) (Later : List ℕ → Type 0) : Type 0 where
    pub fits : IsClaim claim
    pub holds : (subject.tree head).IsTrueOf p claim
    pub later : List ℕ
    pub is : rest ≡ claim_line claim ++ later
    pub on : Later later

  -- claims that are true stand first, and the verdict is told of what is behind them
  abbrev AreTold : List Claim → List X → ℕ → ℕ → List ℕ → Verdict → Type 0
  AreTold [] owed count place rest it = IsTold owed count place rest it
  AreTold (claim ∷ claims) [] count place rest it = ⊥
  AreTold (claim ∷ claims) (p ∷ owed) count place rest it =
      Goes claim p rest (λ later. AreTold claims (owed_by (subject.tree head) p claim ++ owed) (count + 1)
      (place + length (claim_line claim)) later it)

  -- no true claim is where the verdict is told
  not_both : (claim : Claim) (p : X) (owed : List X) (count place : ℕ)
      (rest : List ℕ) (it : Verdict) (Later : List ℕ → Type 0)
      → IsTold (p ∷ owed) count place rest it → Goes claim p rest Later → ⊥
  not_both claim p owed count place rest it Later told goes =
      let same : told.line ≡ Next claim =
      one_line rest told.line (Next claim) told.is (goes.fits, (goes.later, goes.is)) in
      (subst (λ line. IsUntrue line (p ∷ owed)) same told.untrue) goes.holds

  one_told : (claims others : List Claim) (owed : List X) (count place : ℕ) (rest : List ℕ)
      (it other : Verdict)
      → AreTold claims owed count place rest it → AreTold others owed count place rest other → it ≡ other
  one_told [] [] owed count place rest it other p q =
      p.told ∙ ap (λ line. told_of subject head more line owed count place rest) (one_line rest p.line q.line p.is q.is)
      ∙ sym q.told
  one_told [] (d ∷ others) [] count place rest it other p q = absurd q
  one_told [] (d ∷ others) (o ∷ owed) count place rest it other p q =
      absurd (not_both d o owed count place rest it _ p q)
  one_told (c ∷ claims) [] [] count place rest it other p q = absurd p
  one_told (c ∷ claims) [] (o ∷ owed) count place rest it other p q =
      absurd (not_both c o owed count place rest other _ q p)
  one_told (c ∷ claims) (d ∷ others) [] count place rest it other p q = absurd p
  one_told (c ∷ claims) (d ∷ others) (o ∷ owed) count place rest it other p q =
      let both = same_line c d p.later q.later p.fits q.fits (sym p.is ∙ q.is) in
      let moved = subst (λ xs. AreTold others (owed_by (subject.tree head) o d ++ owed) (count + 1) (place + length (claim_line d)) xs
      other) (sym both.1) q.on in
      one_told claims others (owed_by (subject.tree head) o c ++ owed) (count + 1) (place + length (claim_line c)) p.later it other p.on
      (subst (λ (k : Claim). AreTold others (owed_by (subject.tree head) o k ++ owed) (count + 1) (place + length (claim_line k)) p.later
      other) (sym both.0) moved)

  -- what is told behind claims that are taken is told of all of them
  told_behind : (claims : List Claim) (first left : List X) (count place all end : ℕ) (rest : List ℕ)
      (it : Verdict)
      → AllByRecursion IsClaim claims → Leaves (subject.tree head) first claims left → all ≡ count + length claims
      → end ≡ place + length (flat_map claim_line claims) → IsTold left all end rest it
      → AreTold claims first count place (flat_map claim_line claims ++ rest) it
  told_behind [] first left count place all end rest it fits leaves counted far told =
      let same : all ≡ count = omega (arith, counted) in
      let here : end ≡ place = omega (arith, far) in
      subst (λ (owed : List X). IsTold owed count place rest it) (sym leaves)
      (subst (λ n. IsTold left n place rest it) same (subst (λ n. IsTold left all n rest it) here told))
  told_behind (c ∷ claims) [] left count place all end rest it fits leaves counted far told = absurd leaves
  told_behind (c ∷ claims) (p ∷ first) left count place all end rest it fits leaves counted far told = record {
    fits = fits.0;
    holds = leaves.0;
    later = flat_map claim_line claims ++ rest;
    is = append_assoc (claim_line c) (flat_map claim_line claims) rest;
    on = told_behind claims (owed_by (subject.tree head) p c ++ first) left (count + 1) (place + length (claim_line c)) all end rest it
        fits.1 leaves.1 (omega (arith, counted))
        (omega (arith, far, length-append (claim_line c) (flat_map claim_line claims))) told;
  }

-- ---- the verdict on bytes behind a head

abbrev goes_beyond : List ℕ → Bool
goes_beyond bytes = nat_lt longest_certificate (length bytes)

-- bytes are refused before any claim in one way, if they are, and then no sound head stands at
-- their front
pub record IsRefusedOnce {H X : Type 0} (subject : Subject H X) (bytes : List ℕ) : Type 0 where
  pub one : (it other : Verdict) → subject.Refuses it bytes → subject.Refuses other bytes → it ≡ other
  pub none : (it : Verdict) (head : H) (front rest : List ℕ) → subject.Refuses it bytes → subject.IsSound head
      → subject.IsHead head front → judged_bytes bytes ≡ front ++ rest → ⊥

module _ {H X : Type 0} (subject : Subject H X) (alone : Alone subject.IsHead) (bytes : List ℕ) where
  record IsJudged (it : Verdict) (head : H) : Type 0 where
    pub sound : subject.IsSound head
    pub front : List ℕ
    pub heads : subject.IsHead head front
    pub claims : List Claim
    pub rest : List ℕ
    pub is : judged_bytes bytes ≡ front ++ rest
    pub told : AreTold subject head (goes_beyond bytes) claims (subject.root ∷ []) 0 (length front) rest it

  -- the file ends within what is judged
  within : length bytes ≤ longest_certificate → (judged_bytes bytes ≡ bytes) × (goes_beyond bytes ≡ false)
  within short = (take_all longest_certificate bytes short, grind (arith, nat_tests))

  beyond : longest_certificate < length bytes → goes_beyond bytes ≡ true
  beyond long = grind (arith, nat_tests)

  module _ (head : H) where
    from_taken : (count : ℕ) (owed : List X) (front rest : List ℕ) (it : Verdict)
        → IsTaken subject head count owed front → judged_bytes bytes ≡ front ++ rest
        → IsTold subject head (goes_beyond bytes) owed count (length front) rest it → IsJudged it head
    from_taken count owed front rest it taken e told = record {
      sound = taken.sound;
      front = taken.text.front;
      heads = taken.text.heads;
      claims = taken.claims;
      rest = flat_map claim_line taken.claims ++ rest;
      is = e ∙ ap (λ xs. xs ++ rest) taken.text.is
          ∙ append_assoc taken.text.front (flat_map claim_line taken.claims) rest;
      told = told_behind subject head (goes_beyond bytes) taken.claims (subject.root ∷ []) owed 0 (length taken.text.front) count
          (length front) rest it taken.text.fits taken.left (omega (arith, taken.counted))
          (ap length taken.text.is ∙ length-append taken.text.front (flat_map claim_line taken.claims)) told;
    }

    -- what is told where the file ends within what is judged
    told_at_end : (owed : List X) (count place : ℕ) (rest : List ℕ)
        → length bytes ≤ longest_certificate
        → told_of subject head (goes_beyond bytes) Unended owed count place rest ≡ at_end subject head owed count place rest
    told_at_end owed count place rest short =
        ap (λ more. told_of subject head more Unended owed count place rest) (within short).1

    leaves_none : (owed : List X) (claims : List Claim) → IsCertified (subject.tree head) owed claims
        → Leaves (subject.tree head) owed claims []
    leaves_none [] [] certified = refl
    leaves_none (p ∷ owed) [] certified = absurd certified
    leaves_none [] (claim ∷ claims) certified = absurd certified
    leaves_none (p ∷ owed) (claim ∷ claims) certified =
        (certified.0, leaves_none (owed_by (subject.tree head) p claim ++ owed) claims certified.1)

    ended : IsUnended []
    ended = record { begins = nothing_begins; unended = tt }

    of_valid : IsCertificateText subject head bytes → IsJudged (verdicts.Accepted (subject.accepted head)) head
    of_valid is =
        from_taken (length is.claims) [] bytes [] (verdicts.Accepted (subject.accepted head)) record {
          sound = is.valid.sound;
          claims = is.claims;
          counted = refl;
          text = is.text;
          left = leaves_none (subject.root ∷ []) is.claims is.valid.certified;
        } ((within is.short).0 ∙ sym (append-nil bytes)) record {
          line = Unended;
          is = ended;
          untrue = tt;
          told = sym (told_at_end [] (length is.claims) (length bytes) [] is.short);
        }

    -- a place behind which no line ends tells its fault, where some bytes are left
    end_told : (owed : List X) (count place : ℕ) (rest : List ℕ) → rest ≢ []
        → at_end subject head owed count place rest ≡ verdicts.Text (CertEnd place)
    end_told owed count place [] some = absurd (some refl)
    end_told owed count place (byte ∷ rest) some = refl

    of_refusal : (number : ℕ) (why : Why) → (why ≡ Head → ⊥)
        → FindsIn subject head (verdicts.Claim (record { number = number; why = why })) bytes
        → IsJudged (verdicts.Claim (record { number = number; why = why })) head
    of_refusal number Head unlike it = absurd (unlike refl)
    of_refusal number False unlike it =
        let line = behind it.front (claim_line it.claim) (judged_bytes bytes) it.begins in
        from_taken it.count (it.next ∷ it.owed) it.front (claim_line it.claim ++ line.0) _ it.taken line.1 record {
          line = Next it.claim;
          is = (it.fits, (line.0, refl));
          untrue = it.untrue;
          told = ap (λ n. verdicts.Claim (record { number = n; why = False })) it.numbered;
        }
    of_refusal number Over unlike it =
        let line = behind it.front (claim_line it.claim) (judged_bytes bytes) it.begins in
        from_taken it.count [] it.front (claim_line it.claim ++ line.0) _ it.taken line.1 record {
          line = Next it.claim;
          is = (it.fits, (line.0, refl));
          untrue = tt;
          told = ap (λ n. verdicts.Claim (record { number = n; why = Over })) it.numbered;
        }
    of_refusal number Potential unlike it = absurd it
    of_refusal number Price unlike it = absurd it
    of_refusal number Short unlike it =
        from_taken it.count (it.next ∷ it.owed) bytes [] _ it.taken ((within it.short).0 ∙ sym (append-nil bytes)) record {
          line = Unended;
          is = ended;
          untrue = tt;
          told = ap (λ n. verdicts.Claim (record { number = n; why = Short })) it.numbered
              ∙ sym (told_at_end (it.next ∷ it.owed) it.count (length bytes) [] it.short);
        }

    of_word : (at : ℕ) → FindsIn subject head (verdicts.Text (CertWord at)) bytes
        → IsJudged (verdicts.Text (CertWord at)) head
    of_word at it =
        from_taken it.count it.owed it.front it.fault_at.1.rest _ it.taken it.fault_at.1.is record {
          line = Wrong;
          is = it.fault_at.1.wrong;
          untrue = tt;
          told = ap (λ n. verdicts.Text (CertWord n)) it.fault_at.0;
        }

    of_end : (at : ℕ) → FindsIn subject head (verdicts.Text (CertEnd at)) bytes
        → IsJudged (verdicts.Text (CertEnd at)) head
    of_end at it = elim it.fault_at [
      | inl here ↦ from_taken it.count it.owed it.front here.1.rest _ it.taken
          ((within here.1.short).0 ∙ here.1.is) record {
            line = Unended;
            is = here.1.begun;
            untrue = tt;
            told = ap (λ n. verdicts.Text (CertEnd n)) here.0
                ∙ sym (end_told it.owed it.count (length it.front) here.1.rest here.1.some)
                ∙ sym (told_at_end it.owed it.count (length it.front) here.1.rest here.1.short);
          }
      | inr far ↦ from_taken it.count it.owed it.front far.1.rest _ it.taken far.1.is record {
        line = Unended;
        is = far.1.begun;
        untrue = tt;
        told = ap (λ n. verdicts.Text (CertEnd n)) far.0
            ∙ ap (λ more. told_of subject head more Unended it.owed it.count (length it.front) far.1.rest)
            (sym (beyond far.1.long));
      }
    ]

    -- a head stands at the front of all bytes
    stands : (it : Verdict) (judged : IsJudged it head) → Stands subject.IsHead bytes head (length judged.front)
    stands it judged =
        let later = drop longest_certificate bytes in
        at_front subject.IsHead head bytes judged.front (judged.rest ++ later)
        (sym (take-append-drop longest_certificate bytes) ∙ ap (λ xs. xs ++ later) judged.is
        ∙ append_assoc judged.front judged.rest later) judged.heads

    one_judged : (it other : Verdict) → IsJudged it head → IsJudged other head → it ≡ other
    one_judged it other p q =
        one_told subject head (goes_beyond bytes) p.claims q.claims (subject.root ∷ []) 0 (length p.front) p.rest it other p.told
        (subst (λ n. AreTold subject head (goes_beyond bytes) q.claims (subject.root ∷ []) 0 n p.rest other) (sym size)
        (subst (λ xs. AreTold subject head (goes_beyond bytes) q.claims (subject.root ∷ []) 0 (length q.front) xs other) (sym same)
        q.told))
      where
        size : length p.front ≡ length q.front
        size =
            (stands-one subject.IsHead alone bytes head head (length p.front) (length q.front) (stands it p) (stands other q)).1

        first : (xs ys : List ℕ) → judged_bytes bytes ≡ xs ++ ys → take (length xs) (judged_bytes bytes) ≡ xs
        first xs ys whole = ap (λ zs. take (length xs) zs) whole ∙ take-append_seam xs ys

        fronts : p.front ≡ q.front
        fronts = sym (first p.front p.rest p.is) ∙ ap (λ n. take n (judged_bytes bytes)) size
            ∙ first q.front q.rest q.is

        same : p.rest ≡ q.rest
        same = append_cancel_left p.front p.rest q.rest
            (sym p.is ∙ q.is ∙ ap (λ xs. xs ++ q.rest) (sym fronts))

  -- ---- the two kinds of verdicts

  data Kind (it : Verdict) : Type 0 where
    refused : subject.Refuses it bytes → Kind it
    judged : (head : H) → IsJudged it head → Kind it

  kind_behind : (it : Verdict) (head : H) → FindsIn subject head it bytes → Kind it
  kind_behind (verdicts.Accepted answer) head it =
      judged head (subst (λ a. IsJudged (verdicts.Accepted a) head) (sym it.0) (of_valid head it.1))
  kind_behind (verdicts.Claim why) head it = by why.number why.why it
    where
      by : (number : ℕ) (why : Why) → FindsIn subject head (verdicts.Claim (record { number = number; why = why })) bytes
          → Kind (verdicts.Claim (record { number = number; why = why }))
      by number Head it = absurd it
      by number False it = judged head (of_refusal head number False (λ e. cc) it)
      by number Over it = judged head (of_refusal head number Over (λ e. cc) it)
      by number Short it = judged head (of_refusal head number Short (λ e. cc) it)
      by number Potential it = absurd it
      by number Price it = absurd it
  kind_behind (verdicts.Text (CertWord at)) head it = judged head (of_word head at it)
  kind_behind (verdicts.Text (CertEnd at)) head it = judged head (of_end head at it)
  kind_behind (verdicts.Text (WrongHead at)) head it = absurd it.fault_at
  kind_behind (verdicts.Text Memory) head it = absurd it.fault_at

  kind_of : (it : Verdict) → IsVerdictBy subject it bytes → Kind it
  kind_of it (inl none) = refused none
  kind_of it (inr behind) = kind_behind it behind.head behind.finds

  same_head : (head other : H) (n m : ℕ) → Stands subject.IsHead bytes head n → Stands subject.IsHead bytes other m → head ≡ other
  same_head head other n m p q = (stands-one subject.IsHead alone bytes head other n m p q).0

  module _ (once : IsRefusedOnce subject bytes) where
    one_kind : (it other : Verdict) → Kind it → Kind other → it ≡ other
    one_kind it other (refused p) (refused q) = once.one it other p q
    one_kind it other (refused p) (judged head q) = absurd (once.none it head q.front q.rest p q.sound q.heads q.is)
    one_kind it other (judged head p) (refused q) = absurd (once.none other head p.front p.rest q p.sound p.heads p.is)
    one_kind it other (judged head p) (judged others q) =
        one_judged head it other p
        (subst (λ (h : H). IsJudged other h)
        (same_head others head _ _ (stands others other q) (stands head it p)) q)

    pub one_verdict : (it other : Verdict) → IsVerdictBy subject it bytes → IsVerdictBy subject other bytes → it ≡ other
    one_verdict it other p q = one_kind it other (kind_of it p) (kind_of other q)

    -- the text of a valid certificate has the verdict that accepts it
    accepted_verdict : (head : H) (it : Verdict) → IsCertificateText subject head bytes → IsVerdictBy subject it bytes
        → it ≡ verdicts.Accepted (subject.accepted head)
    accepted_verdict head it is found =
        one_kind it (verdicts.Accepted (subject.accepted head)) (kind_of it found) (judged head (of_valid head is))

module _ {H X : Type 0} (subject : Subject H X) (alone : Alone subject.IsHead)
    (once : (bytes : List ℕ) → IsRefusedOnce subject bytes) (files : Files) (name : List ℕ) where
  pub accepted_answer : {E : Type 0} (result : Result Verdict E) → IfOk result (λ it. MayBe files name (IsVerdictBy subject it))
      → IfOk result (λ it. (head : H) → AcceptsValid subject head files name it)
  accepted_answer (Ok it) found =
      λ head bytes has is. accepted_verdict subject alone bytes (once bytes) head it is (such_of files name bytes has _ found)
  accepted_answer (Err fault) found = tt
