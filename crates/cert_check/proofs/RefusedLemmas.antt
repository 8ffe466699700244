-- At most one opening stands at the front of bytes (`openings-alone`), and bytes are refused before
-- any claim in one way, if they are (`settings_once`). So bytes have one verdict (`one_verdict`),
-- and the text of a valid certificate is accepted (`accepted_answer`).
use Rattle.std.proofs.Common.{◌≡◌, ℕ, ◌+◌, ◌<◌, ◌≤◌, ◌⊎◌, Bool, true, false, nat_lt, List, [], ◌++◌, Option, None, Some, Result, Ok, Err, length, take, drop, inl, inr, refl, sym, ap, subst, ◌∙◌, arith, append_assoc, append-nil, length-append}
use Rattle.std.specs.Prelude.{IfOk, IfSome, if◌then◌else◌}
use Rattle.std.proofs.lemmas.Bool.Decides.{nat_tests}
use Rattle.std.proofs.lemmas.List.{append_cancel_left, take_all, take-append-drop}
use Rattle.std.proofs.Math.Seq.{take-append_seam}
use Rattle.std.specs.List.{flat_map}
use Rattle.std.specs.Io.{StartsWith}
use Rattle.cert_check.specs.Answers.{Answers}
use Rattle.cert_check.specs.Settings.{AcceptsValid, AreStated, AreTrueStated, Ground, HasStatedFault, HasUntrue, IsBrief, IsListed, IsOpeningOf, IsOpeningText, IsUnsound, IsVerdictOn, Lists, ListsStop, Numbers, Opening, Refuses, RefusesFront, form_of, ground_text, setting_subject}
use Rattle.cert_check.specs.declared.checking.CheckFault.{CheckFault}
use Rattle.cert_check.proofs.StartLemmas.{at_front}
use Rattle.cert_check.proofs.ToldLists.{IsPriced, front_of, of_due, of_high, of_stop, of_unsound, one_priced, same_lists, short_lists, stands_priced}
use Rattle.cert_check.proofs.ToldEntries.{Ends, IsStatedTold, Last, NotEnded, NotOwed, one_stated}
use Rattle.cert_file.specs.Readings.{Files, judged_bytes, longest_certificate}
use Rattle.cert_file.specs.declared.verdict.Verdict.{Verdict}
use Rattle.cert_file.specs.declared.verdict.Verdict.TheVariants as verdicts
use Rattle.cert_file.proofs.FileLemmas.{behind}
use Rattle.cert_file.proofs.OneVerdict as generic
use Rattle.cert_file.proofs.OneVerdict.{IsRefusedOnce}
use Rattle.cert_file.proofs.StatedTexts.{same_entries}
use Rattle.cert_law.specs.Certificates.{IsHeadSound}
use Rattle.cert_law.specs.Entries.{AreTrueEntries, entry_count}
use Rattle.cert_text.specs.declared.answers.CertFault.{CertFault}
use Rattle.cert_text.specs.declared.answers.CertFault.TheVariants.{CertHead as WrongHead, CertWord, CertEnd, Memory}
use Rattle.cert_text.specs.declared.answers.CertHead.{CertHead}
use Rattle.cert_text.specs.declared.answers.Form.{Form}
use Rattle.cert_text.specs.declared.answers.Form.TheVariants.{First, Second, Third}
use Rattle.cert_text.specs.declared.answers.Why.{Why}
use Rattle.cert_text.specs.declared.answers.Why.TheVariants.{Head, False, Over, Short, Potential, Price}
use Rattle.cert_text.specs.declared.potential.Potential.{Potential as Entry}
use Rattle.cert_text.specs.HeadRows.{IsUpTo}
use Rattle.cert_text.specs.HeadTexts.{Heads, TextStops, penalty_of}
use Rattle.cert_text.specs.Potentials.{last_line, potential_line}
use Rattle.cert_text.proofs.HeadBacks.{heads_are_one}
use Rattle.cert_text.proofs.PieceLemmas.{Alone}
use Rattle.fux_grid.specs.declared.exercise.Exercise.{Exercise}
use Rattle.fux_grid.specs.Exercises.{IsValid}
use Rattle.penalty_sheet.specs.declared.sheet.Sheet.{Sheet}
use Rattle.price_check.specs.Lists.{lists_text, most_lines}

-- ---- one opening stands at the front of bytes

module _ (ex : Exercise) where
  -- the text of lists is one that may be read
  abbrev IsReadable : Ground → Type 0
  IsReadable (Numbers stated) = Unit {0}
  IsReadable (Lists lines) = length (lists_text lines) ≤ most_lines

  readable : (ground : Ground) (front bytes : List ℕ) → bytes ≡ front ++ ground_text ground → IsBrief ground bytes
      → IsReadable ground
  readable (Numbers stated) front bytes is short = tt
  readable (Lists lines) front bytes is short = short_lists lines front bytes is short

  -- what is stated reads one way only
  same_stated : (a b : Ground) (xs ys : List ℕ) → ex.voices ≤ 4 → IsReadable a → IsReadable b → form_of a ≡ form_of b
      → AreStated ex a → AreStated ex b → ground_text a ++ xs ≡ ground_text b ++ ys → a ≡ b
  same_stated (Numbers None) (Numbers None) xs ys few r t forms f g e = refl
  same_stated (Numbers None) (Numbers (Some fs)) xs ys few r t forms f g e = cc
  same_stated (Numbers None) (Lists ms) xs ys few r t forms f g e = cc
  same_stated (Numbers (Some es)) (Numbers None) xs ys few r t forms f g e = cc
  same_stated (Numbers (Some es)) (Numbers (Some fs)) xs ys few r t forms f g e =
      ap (λ zs. Numbers (Some zs))
      (same_entries (entry_count ex) 0 es fs (last_line ++ xs) (last_line ++ ys) f.1 g.1 (omega (arith, f.0)) (omega (arith, g.0))
      (λ less. absurd (omega (arith, f.0, less))) (λ less. absurd (omega (arith, g.0, less)))
      (sym (append_assoc (flat_map potential_line es) last_line xs) ∙ e
      ∙ append_assoc (flat_map potential_line fs) last_line ys)).0
  same_stated (Numbers (Some es)) (Lists ms) xs ys few r t forms f g e = cc
  same_stated (Lists ls) (Numbers None) xs ys few r t forms f g e = cc
  same_stated (Lists ls) (Numbers (Some fs)) xs ys few r t forms f g e = cc
  same_stated (Lists ls) (Lists ms) xs ys few r t forms f g e = ap Lists (same_lists ex ls ms xs ys few f g r t e)

  module _ (valid : IsValid ex) (x y : Opening) (f g a b : List ℕ) (p : IsOpeningText ex x f) (q : IsOpeningText ex y g)
      (e : f ++ a ≡ g ++ b) where
    first : f ++ a ≡ p.front ++ (ground_text x.stated ++ a)
    first = ap (λ zs. zs ++ a) p.is ∙ append_assoc p.front (ground_text x.stated) a

    second : f ++ a ≡ q.front ++ (ground_text y.stated ++ b)
    second = e ∙ ap (λ zs. zs ++ b) q.is ∙ append_assoc q.front (ground_text y.stated) b

    heads : (form_of x.stated ≡ form_of y.stated) × (x.head ≡ y.head) × (length p.front ≡ length q.front)
    heads = heads_are_one ex (f ++ a) (form_of x.stated) (form_of y.stated) x.head y.head (length p.front) (length q.front) valid
        (at_front ex (form_of x.stated) x.head (f ++ a) p.front (ground_text x.stated ++ a) first p.heads)
        (at_front ex (form_of y.stated) y.head (f ++ a) q.front (ground_text y.stated ++ b) second q.heads)

    fronts : p.front ≡ q.front
    fronts = sym (front_of (f ++ a) p.front (ground_text x.stated ++ a) first) ∙ ap (λ n. take n (f ++ a)) heads.2
        ∙ front_of (f ++ a) q.front (ground_text y.stated ++ b) second

    stated : x.stated ≡ y.stated
    stated = same_stated x.stated y.stated a b valid.most_voices (readable x.stated p.front f p.is p.short)
        (readable y.stated q.front g q.is q.short) heads.0 p.fits q.fits
        (append_cancel_left p.front (ground_text x.stated ++ a) (ground_text y.stated ++ b)
        (sym first ∙ second ∙ ap (λ zs. zs ++ (ground_text y.stated ++ b)) (sym fronts)))

    same_opening : (x ≡ y) × (f ≡ g)
    same_opening = (
      ap (λ (h : CertHead). record { head = h; stated = x.stated }) heads.1
          ∙ ap (λ (o : Ground). record { head = y.head; stated = o }) stated,
      p.is ∙ ap (λ zs. zs ++ ground_text x.stated) fronts ∙ ap (λ (o : Ground). q.front ++ ground_text o) stated
          ∙ sym q.is,
    )

  pub openings-alone : IsValid ex → Alone (IsOpeningText ex)
  openings-alone valid x y f g a b p q e = same_opening valid x y f g a b p q e

-- ---- what is refused before claims

abbrev goes_beyond : List ℕ → Bool
goes_beyond bytes = nat_lt longest_certificate (length bytes)

some_same : (a b : Verdict) → Some a ≡ Some b → a ≡ b
some_same a b e = cc

some_not_none : (a : Verdict) → Some a ≡ None → ⊥
some_not_none a e = cc

module _ (ex : Exercise) (sheet : Sheet) (bytes : List ℕ) where
  -- what is refused behind a head of the first or the second form, whose text ends at a place, if
  -- anything is
  abbrev IsToldBehind : Form → ℕ → List ℕ → Option Verdict → Type 0
  IsToldBehind First place rest it = it ≡ None
  IsToldBehind Second place rest it = IsStatedTold ex sheet (goes_beyond bytes) place rest it
  IsToldBehind Third place rest it = ⊥

  record IsJudged (it : Option Verdict) (head : CertHead) : Type 0 where
    pub sound : IsHeadSound ex sheet head
    pub form : Form
    pub front : List ℕ
    pub heads : Heads ex form front head (length front)
    pub rest : List ℕ
    pub is : judged_bytes bytes ≡ front ++ rest
    pub told : IsToldBehind form (length front) rest it

  -- the file ends within what is judged
  within : length bytes ≤ longest_certificate → (judged_bytes bytes ≡ bytes) × (goes_beyond bytes ≡ false)
  within short = (take_all longest_certificate bytes short, grind (arith, nat_tests))

  beyond : longest_certificate < length bytes → goes_beyond bytes ≡ true
  beyond long = grind (arith, nat_tests)

  -- behind as many entries as there are to be none is owed
  whole : (es : List Entry) → length es ≡ entry_count ex → nat_lt (length es) (entry_count ex) ≡ false
  whole es same = grind (arith, nat_tests, same)

  module _ (head : CertHead) where
    -- behind a sound head and true entries, if some are stated, nothing is refused
    from_opening : (stated : Option (List Entry)) (opening rest : List ℕ) → IsHeadSound ex sheet head
        → IfSome stated (AreTrueEntries ex sheet) → IsOpeningOf ex head (Numbers stated) opening
        → judged_bytes bytes ≡ opening ++ rest → IsJudged None head
    from_opening None opening rest sound entries opens e = record {
      sound = sound;
      form = First;
      front = opens.front;
      heads = opens.heads;
      rest = rest;
      is = e ∙ ap (λ xs. xs ++ rest) (opens.is ∙ append-nil opens.front);
      told = refl;
    }
    from_opening (Some es) opening rest sound entries opens e =
        let lines = flat_map potential_line es in
        record {
          sound = sound;
          form = Second;
          front = opens.front;
          heads = opens.heads;
          rest = lines ++ (last_line ++ rest);
          is = e ∙ ap (λ xs. xs ++ rest) opens.is ∙ append_assoc opens.front (lines ++ last_line) rest
              ∙ ap (λ xs. opens.front ++ xs) (append_assoc lines last_line rest);
          told = record {
            entries = es;
            few = omega (arith, opens.fits.0);
            fits = opens.fits.1;
            later = last_line ++ rest;
            is = refl;
            ends = record {
              line = Last;
              is = (whole es opens.fits.0, (rest, refl));
              told = inr (record { entries = entries; told = refl });
            };
          };
        }

    -- an entry isn't true
    of_untrue : (number : ℕ) → HasUntrue ex sheet head number bytes
        → IsJudged (Some (verdicts.Claim (record { number = number; why = Potential }))) head
    of_untrue number it =
        let later = behind it.opening [] (judged_bytes bytes)
        (subst (λ xs. StartsWith (judged_bytes bytes) xs) (sym (append-nil it.opening)) it.begins) in
        let lines = flat_map potential_line it.entries in
        record {
          sound = it.sound;
          form = Second;
          front = it.opens.front;
          heads = it.opens.heads;
          rest = lines ++ (last_line ++ later.0);
          is = later.1 ∙ ap (λ xs. xs ++ later.0) it.opens.is
              ∙ append_assoc it.opens.front (lines ++ last_line) later.0
              ∙ ap (λ xs. it.opens.front ++ xs) (append_assoc lines last_line later.0);
          told = record {
            entries = it.entries;
            few = omega (arith, it.opens.fits.0);
            fits = it.opens.fits.1;
            later = last_line ++ later.0;
            is = refl;
            ends = record {
              line = Last;
              is = (whole it.entries it.opens.fits.0, (later.0, refl));
              told = inl (record {
                before = it.before;
                first = it.first;
                told = ap (λ n. Some (verdicts.Claim (record { number = n; why = Potential }))) it.numbered;
              });
            };
          };
        }

    -- ---- behind a head of the second form

    -- a fault behind entries
    module _ (fault : CertFault) (it : HasStatedFault ex sheet head fault bytes) where
      abbrev lines : List ℕ
      lines = flat_map potential_line it.entries

      from_entries : (verdict : Option Verdict) (later : List ℕ) → judged_bytes bytes ≡ (it.front ++ lines) ++ later
          → Ends ex sheet (goes_beyond bytes) (length it.front) it.entries later verdict → IsJudged verdict head
      from_entries verdict later is ends = record {
        sound = it.sound;
        form = Second;
        front = it.front;
        heads = it.heads;
        rest = lines ++ later;
        is = is ∙ append_assoc it.front lines later;
        told = record {
          entries = it.entries;
          few = it.few;
          fits = it.fits;
          later = later;
          is = refl;
          ends = ends;
        };
      }

    of_stated_word : (at : ℕ) → HasStatedFault ex sheet head (CertWord at) bytes
        → IsJudged (Some (verdicts.Text (CertWord at))) head
    of_stated_word at it =
        from_entries (CertWord at) it (Some (verdicts.Text (CertWord at))) it.fault_at.1.rest it.fault_at.1.is record {
          line = NotOwed;
          is = it.fault_at.1.wrong;
          told = ap (λ n. Some (verdicts.Text (CertWord n)))
              (it.fault_at.0 ∙ length-append it.front (flat_map potential_line it.entries));
        }

    of_stated_end : (at : ℕ) → HasStatedFault ex sheet head (CertEnd at) bytes
        → IsJudged (Some (verdicts.Text (CertEnd at))) head
    of_stated_end at it = elim it.fault_at [
      | inl here ↦ from_entries (CertEnd at) it (Some (verdicts.Text (CertEnd at))) here.1.rest
          ((within here.1.short).0 ∙ here.1.is) record {
            line = NotEnded;
            is = here.1.begun;
            told = ap (λ n. Some (verdicts.Text (CertEnd n)))
                (here.0 ∙ length-append it.front (flat_map potential_line it.entries)
                ∙ ap (λ more. if more then longest_certificate
                else length it.front + length (flat_map potential_line it.entries)) (sym (within here.1.short).1));
          }
      | inr far ↦ from_entries (CertEnd at) it (Some (verdicts.Text (CertEnd at))) far.1.rest far.1.is record {
        line = NotEnded;
        is = far.1.begun;
        told = ap (λ n. Some (verdicts.Text (CertEnd n)))
            (far.0 ∙ ap (λ more. if more then longest_certificate
            else length it.front + length (flat_map potential_line it.entries)) (sym (beyond far.1.long)));
      }
    ]

    -- a head stands at the front of all bytes
    stands : (it : Option Verdict) (judged : IsJudged it head) → Heads ex judged.form bytes head (length judged.front)
    stands it judged =
        let later = drop longest_certificate bytes in
        at_front ex judged.form head bytes judged.front (judged.rest ++ later)
        (sym (take-append-drop longest_certificate bytes) ∙ ap (λ xs. xs ++ later) judged.is
        ∙ append_assoc judged.front judged.rest later) judged.heads

    stands_unsound : (number : ℕ) (it : IsUnsound ex sheet head number bytes)
        → Heads ex it.form bytes head (length it.front)
    stands_unsound number it =
        let rest = drop (length it.front) bytes in
        at_front ex it.form head bytes it.front rest
        (sym (take-append-drop (length it.front) bytes) ∙ ap (λ xs. xs ++ rest) it.begins) it.heads

    none_stops : (form : Form) (n at : ℕ) → Heads ex form bytes head n → TextStops ex Third bytes at → ⊥
    none_stops form n at heads stops = stops.unfinished form tt n (penalty_of head) heads.within heads.text

    one_told_behind : (form : Form) (place : ℕ) (rest : List ℕ) (it other : Option Verdict)
        → IsToldBehind form place rest it → IsToldBehind form place rest other → it ≡ other
    one_told_behind First place rest it other p q = p ∙ sym q
    one_told_behind Second place rest it other p q =
        one_stated ex sheet (goes_beyond bytes) place rest it other p q
    one_told_behind Third place rest it other p q = absurd p

    one_judged : IsValid ex → (it other : Option Verdict) → IsJudged it head → IsJudged other head → it ≡ other
    one_judged valid it other p q =
        one_told_behind p.form (length p.front) p.rest it other p.told
        (subst (λ n. IsToldBehind p.form n p.rest other) (sym one.2)
        (subst (λ xs. IsToldBehind p.form (length q.front) xs other) (sym same)
        (subst (λ f. IsToldBehind f (length q.front) q.rest other) (sym one.0) q.told)))
      where
        one : (p.form ≡ q.form) × (head ≡ head) × (length p.front ≡ length q.front)
        one = heads_are_one ex bytes p.form q.form head head (length p.front) (length q.front) valid (stands it p)
            (stands other q)

        first : (xs ys : List ℕ) → judged_bytes bytes ≡ xs ++ ys → take (length xs) (judged_bytes bytes) ≡ xs
        first xs ys are = ap (λ zs. take (length xs) zs) are ∙ take-append_seam xs ys

        fronts : p.front ≡ q.front
        fronts = sym (first p.front p.rest p.is) ∙ ap (λ n. take n (judged_bytes bytes)) one.2
            ∙ first q.front q.rest q.is

        same : p.rest ≡ q.rest
        same = append_cancel_left p.front p.rest q.rest
            (sym p.is ∙ q.is ∙ ap (λ xs. xs ++ q.rest) (sym fronts))

  -- ---- the kinds of verdicts

  data Kind (it : Verdict) : Type 0 where
    headless : (at : ℕ) → it ≡ verdicts.Text (WrongHead at) → TextStops ex Third bytes at → Kind it
    unsound : (head : CertHead) → it ≡ verdicts.Claim (record { number = 0; why = Head })
        → (own : IsUnsound ex sheet head 0 bytes) → IsUpTo Second own.form → Kind it
    judged : (head : CertHead) → IsJudged (Some it) head → Kind it
    priced : (head : CertHead) → IsPriced ex sheet bytes (Some it) head → Kind it

  early_or_third : (form : Form) → IsUpTo Second form ⊎ (form ≡ Third)
  early_or_third First = inl tt
  early_or_third Second = inl tt
  early_or_third Third = inr refl

  module _ (valid : IsValid ex) where
    kind_unsound : (head : CertHead) (number : ℕ) → IsUnsound ex sheet head number bytes
        → Kind (verdicts.Claim (record { number = number; why = Head }))
    kind_unsound head number it = elim (early_or_third it.form) [
      | inl early ↦ unsound head (ap (λ n. verdicts.Claim (record { number = n; why = Head })) it.numbered)
          (record {
            numbered = refl;
            form = it.form;
            front = it.front;
            begins = it.begins;
            heads = it.heads;
            listed = it.listed;
            unsound = it.unsound;
          }) early
      | inr third ↦ priced head (of_unsound ex sheet bytes valid head number it.numbered
          (subst (λ (f : Form). IsListed ex f head bytes) third it.listed) it.unsound)
    ]

    kind_front : (head : CertHead) (number : ℕ) (why : Why) → RefusesFront ex sheet head number why bytes
        → Kind (verdicts.Claim (record { number = number; why = why }))
    kind_front head number Head it = kind_unsound head number it
    kind_front head number Potential it = judged head (of_untrue head number it)
    kind_front head number Price it = priced head (of_high ex sheet bytes valid head number it)
    kind_front head number False it = absurd it
    kind_front head number Over it = absurd it
    kind_front head number Short it = absurd it

    kind_stopped : (at : ℕ) → TextStops ex Third bytes at ⊎ ListsStop ex bytes at → Kind (verdicts.Text (WrongHead at))
    kind_stopped at (inl stops) = headless at refl stops
    kind_stopped at (inr stop) = priced stop.head (of_stop ex sheet bytes at stop)

    kind_of : (it : Verdict) → Refuses ex sheet it bytes → Kind it
    kind_of (verdicts.Accepted answer) it = absurd it
    kind_of (verdicts.Claim refused) it = kind_front it.0 refused.number refused.why it.1
    kind_of (verdicts.Text (WrongHead at)) it = kind_stopped at it
    kind_of (verdicts.Text (CertWord at)) it = judged it.0 (of_stated_word it.0 at it.1)
    kind_of (verdicts.Text (CertEnd at)) it = judged it.0 (of_stated_end it.0 at it.1)
    kind_of (verdicts.Text Memory) it = absurd it.1.fault_at

    same_head : (form another : Form) (head other : CertHead) (n m : ℕ) → Heads ex form bytes head n
        → Heads ex another bytes other m → head ≡ other
    same_head form another head other n m p q = (heads_are_one ex bytes form another head other n m valid p q).1

    one_stop : (a b : ℕ) → TextStops ex Third bytes a → TextStops ex Third bytes b → a ≡ b
    one_stop a b p q = omega (arith, p.longest b q.within q.begins, q.longest a p.within p.begins)

    not_sound : (head other : CertHead) (it : Option Verdict) → IsUnsound ex sheet head 0 bytes → IsJudged it other → ⊥
    not_sound head other it p q =
        p.unsound (subst (λ (h : CertHead). IsHeadSound ex sheet h)
        (same_head _ _ other head _ _ (stands other it q) (stands_unsound head 0 p)) q.sound)

    -- two judgments of the same bytes tell the same
    one_front : (head others : CertHead) (it other : Option Verdict) → IsJudged it head → IsJudged other others → it ≡ other
    one_front head others it other p q =
        one_judged head valid it other p
        (subst (λ (h : CertHead). IsJudged other h)
        (same_head _ _ others head _ _ (stands others other q) (stands head it p)) q)

    -- no head of another form stands where one of the third does
    unsound_priced : (head other : CertHead) (its : Option Verdict) (p : IsUnsound ex sheet head 0 bytes)
        → IsUpTo Second p.form → IsPriced ex sheet bytes its other → ⊥
    unsound_priced head other its p early q =
        let one = heads_are_one ex bytes p.form Third head other _ _ valid (stands_unsound head 0 p)
        (stands_priced ex sheet bytes valid other its q) in
        subst (λ (f : Form). IsUpTo Second f) one.0 early

    judged_priced : (head other : CertHead) (it its : Option Verdict) → IsJudged it head
        → IsPriced ex sheet bytes its other → ⊥
    judged_priced head other it its p q =
        let one = heads_are_one ex bytes p.form Third head other _ _ valid (stands head it p)
        (stands_priced ex sheet bytes valid other its q) in
        subst (λ (f : Form). IsToldBehind f (length p.front) p.rest it) one.0 p.told

    headless_priced : (at : ℕ) (head : CertHead) (its : Option Verdict) → TextStops ex Third bytes at
        → IsPriced ex sheet bytes its head → ⊥
    headless_priced at head its p q = none_stops head Third _ at (stands_priced ex sheet bytes valid head its q) p

    one_kind : (it other : Verdict) → Kind it → Kind other → it ≡ other
    one_kind it other (headless a e p) (headless b f q) =
        e ∙ ap (λ n. verdicts.Text (WrongHead n)) (one_stop a b p q) ∙ sym f
    one_kind it other (headless a e p) (unsound head f q early) =
        absurd (none_stops head _ _ a (stands_unsound head 0 q) p)
    one_kind it other (headless a e p) (judged head q) = absurd (none_stops head _ _ a (stands head (Some other) q) p)
    one_kind it other (headless a e p) (priced head q) = absurd (headless_priced a head (Some other) p q)
    one_kind it other (unsound head e p early) (headless b f q) =
        absurd (none_stops head _ _ b (stands_unsound head 0 p) q)
    one_kind it other (unsound head e p early) (unsound others f q also) = e ∙ sym f
    one_kind it other (unsound head e p early) (judged others q) = absurd (not_sound head others (Some other) p q)
    one_kind it other (unsound head e p early) (priced others q) =
        absurd (unsound_priced head others (Some other) p early q)
    one_kind it other (judged head p) (headless b f q) = absurd (none_stops head _ _ b (stands head (Some it) p) q)
    one_kind it other (judged head p) (unsound others f q early) = absurd (not_sound others head (Some it) q p)
    one_kind it other (judged head p) (judged others q) =
        some_same it other (one_front head others (Some it) (Some other) p q)
    one_kind it other (judged head p) (priced others q) =
        absurd (judged_priced head others (Some it) (Some other) p q)
    one_kind it other (priced head p) (headless b f q) = absurd (headless_priced b head (Some it) q p)
    one_kind it other (priced head p) (unsound others f q early) =
        absurd (unsound_priced others head (Some it) q early p)
    one_kind it other (priced head p) (judged others q) =
        absurd (judged_priced others head (Some other) (Some it) q p)
    one_kind it other (priced head p) (priced others q) =
        some_same it other (one_priced ex sheet bytes valid head others (Some it) (Some other) p q)

    -- no sound opening stands where bytes are refused
    no_opening : (it : Verdict) (head : CertHead) → Kind it → IsJudged None head → ⊥
    no_opening it head (headless a e p) own = none_stops head _ _ a (stands head None own) p
    no_opening it head (unsound other e p early) own = not_sound other head None p own
    no_opening it head (judged other p) own = some_not_none it (one_front other head (Some it) None p own)
    no_opening it head (priced other p) own = judged_priced head other None (Some it) own p

    no_lists : (it : Verdict) (head : CertHead) → Kind it → IsPriced ex sheet bytes None head → ⊥
    no_lists it head (headless a e p) own = headless_priced a head None p own
    no_lists it head (unsound other e p early) own = unsound_priced other head None p early own
    no_lists it head (judged other p) own = judged_priced other head (Some it) None p own
    no_lists it head (priced other p) own =
        some_not_none it (one_priced ex sheet bytes valid other head (Some it) None p own)

    -- all bytes begin with what those that are judged begin with
    begins_all : (front rest : List ℕ) → judged_bytes bytes ≡ front ++ rest → StartsWith bytes front
    begins_all front rest is =
        let later = drop longest_certificate bytes in
        front_of bytes front (rest ++ later)
        (sym (take-append-drop longest_certificate bytes) ∙ ap (λ xs. xs ++ later) is ∙ append_assoc front rest later)

    none_sound : (it : Verdict) (head : CertHead) (stated : Ground) (front rest : List ℕ) → Kind it
        → IsHeadSound ex sheet head → AreTrueStated ex sheet stated → IsOpeningOf ex head stated front
        → judged_bytes bytes ≡ front ++ rest → ⊥
    none_sound it head (Numbers stated) front rest kind sound its opens is =
        no_opening it head kind (from_opening head stated front rest sound its opens is)
    none_sound it head (Lists lines) front rest kind sound its opens is =
        no_lists it head kind
        (of_due ex sheet bytes valid head
        (record { lines = lines; opening = front; opens = opens; begins = begins_all front rest is }) sound its)

    pub settings_once : IsRefusedOnce (setting_subject record { exercise = ex; sheet = sheet }) bytes
    settings_once = record {
      one = λ it other p q. one_kind it other (kind_of it p) (kind_of other q);
      none = λ it opening front rest p sound opens is.
          none_sound it opening.head opening.stated front rest (kind_of it p) sound.head sound.stated opens is;
    }

pub one_verdict : (ex : Exercise) (sheet : Sheet) (bytes : List ℕ) (it other : Verdict) → IsValid ex
    → IsVerdictOn ex sheet it bytes → IsVerdictOn ex sheet other bytes → it ≡ other
one_verdict ex sheet bytes it other valid p q =
    generic.one_verdict (setting_subject record { exercise = ex; sheet = sheet }) (openings-alone ex valid) bytes
    (settings_once ex sheet bytes valid) it other p q

-- the text of a valid certificate is accepted
pub accepted_answer : (ex : Exercise) (sheet : Sheet) (files : Files) (name : List ℕ) (rose : Type 0) → IsValid ex
    → (result : Result Verdict CheckFault) → Answers ex sheet files name rose result
    → IfOk result (λ it. (head : CertHead) → AcceptsValid ex sheet head files name it)
accepted_answer ex sheet files name rose valid (Ok it) found =
    λ head bytes has is.
    generic.accepted_answer (setting_subject record { exercise = ex; sheet = sheet }) (openings-alone ex valid)
    (λ all. settings_once ex sheet all valid) files name {E = CheckFault} (Ok it) found
    (record { head = head; stated = is.stated }) bytes has is.is
accepted_answer ex sheet files name rose valid (Err fault) found = tt
