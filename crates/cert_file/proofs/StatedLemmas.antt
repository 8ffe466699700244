-- What a reader of what is stated makes of a piece: it takes a line of it (`stated_taken`) or
-- refuses it (`stated_refused`); and what the next piece makes of a reader (`stated_on`), or the
-- end of the file (`stated_ends`).
use Rattle.std.proofs.Common.{◌≡◌, ℕ, ◌+◌, ◌≤◌, Bool, true, false, nat_lt, List, [], ◌++◌, Option, None, Some, Result, Ok, Err, length, drop, get_or, refl, sym, ap, subst, ◌∙◌, arith, append_assoc, append-nil, length-append, length-drop}
use Rattle.std.specs.Prelude.{IfSome}
use Rattle.fux_port.specs.Files.{MayHave}
use Rattle.cert_text.specs.declared.answers.CertFault.{CertFault}
use Rattle.cert_text.specs.declared.answers.CertFault.TheVariants.{CertEnd, CertWord}
use Rattle.cert_text.specs.declared.potential.Potential.{Potential}
use Rattle.cert_text.specs.declared.potential.Potential.TheVariants.{Least, NoChain}
use Rattle.cert_text.specs.declared.potentials.TakenPotential.{TakenPotential}
use Rattle.cert_text.specs.Lines.{HasNoFeed, line_part}
use Rattle.cert_text.specs.PotentialReading.{PotentialReading, owes_potential, potential_line_start}
use Rattle.cert_text.specs.PotentialTakes.{LineEnds, RefusesPotential, TakesPotential}
use Rattle.cert_text.specs.Potentials.{BeginsOwed, last_line, potential_line}
use Rattle.cert_file.specs.Nearness.{StandsNearStated}
use Rattle.cert_file.specs.Readings.{Begins, Continues, FaultAtLine, Files, IsPlaced, MayBe, Piece, Stated, longest_certificate, longest_piece}
use Rattle.cert_file.specs.StatedReadings.{GivesStated, HasGiven, IsAtStated, ReadsStated, StatedReading, TakesLines, TakesStated, owed_line}
use Rattle.cert_file.specs.declared.fault.ReadFault.{ReadFault}
use Rattle.cert_file.specs.declared.fault.ReadFault.TheVariants.{Unreadable, Text}
use Rattle.cert_file.proofs.LineLemmas.{beyond_line, near_line, unended_line, wrong_line}
use Rattle.cert_file.proofs.PieceLemmas.{none_left, sizes, split}

-- a reader has read no more than a piece beyond the line behind its front
pub stands_near_stated : (before : StatedReading) (offset : ℕ) → length before.ahead ≤ longest_piece
    → offset ≡ before.offset → (files : Files) (name : List ℕ) → StandsNearStated files name before offset
stands_near_stated before offset short same files name = λ front at.
    near_line files name front before.entries.begun before.ahead offset at.unended at.begins (same ∙ at.offset) short

-- no bytes begin any line that is owed
pub nothing_begins_owed : (is_potential : Bool) → BeginsOwed is_potential []
nothing_begins_owed true = record { rest = potential_line NoChain; whole = (NoChain, tt, refl) }
nothing_begins_owed false = record { rest = last_line; whole = refl }

-- a potential's line isn't the line `claims`, which is none of theirs
pub not_last : (p : Potential) → BeginsOwed false (potential_line p) → ⊥
not_last (Least n) b = let no : 112 ≡ 99 = ap (λ xs. get_or xs 0 0) b.whole in absurd (omega (arith, no))
not_last NoChain b = let no : 110 ≡ 99 = ap (λ xs. get_or xs 0 0) b.whole in absurd (omega (arith, no))

pub not_potential : BeginsOwed true last_line → ⊥
not_potential b = by b.whole.0 b.whole.2
  where
    by : (p : Potential) → last_line ++ b.rest ≡ potential_line p → ⊥
    by (Least n) e = let no : 99 ≡ 112 = ap (λ xs. get_or xs 0 0) e in absurd (omega (arith, no))
    by NoChain e = let no : 99 ≡ 110 = ap (λ xs. get_or xs 0 0) e in absurd (omega (arith, no))

-- behind a potential's line one more is owed, whatever was refused before
pub more_behind : (old : PotentialReading) (piece : List ℕ) (taken : TakenPotential) (new : PotentialReading)
    (result : Result TakenPotential CertFault) → result ≡ Ok taken
    → ((at : ℕ) → old.refused ≡ Some at → result ≡ Err (CertWord at))
    → (old.refused ≡ None → TakesPotential old piece taken new)
    → IfSome taken.potential (λ _. new.done ≡ false)
more_behind old piece taken new result is again takes = by old.refused refl
  where
    ended : (p : Option Potential) (d : Bool) → taken.done ≡ d → new.done ≡ taken.done
        → LineEnds old p d (old.begun ++ line_part piece) new → IfSome p (λ _. new.done ≡ false)
    ended None d e same ends = tt
    ended (Some p) true e same ends = absurd ends
    ended (Some p) false e same ends = same ∙ e

    by : (refused : Option ℕ) → old.refused ≡ refused → IfSome taken.potential (λ _. new.done ≡ false)
    by (Some at) e = cc (is, again at e)
    by None e =
        let it = takes e in
        ended taken.potential taken.done refl it.done it.ends

module _ (files : Files) (name front : List ℕ) (before : StatedReading) (at : IsAtStated files name front before) where
  -- the line's place is behind the front
  here : potential_line_start before.entries ≡ length front
  here = omega (arith, at.next)

  module _ (taken : TakenPotential) (new : PotentialReading)
      (takes : TakesPotential before.entries before.ahead taken new) (after : Piece)
      (is : after ≡ record { ahead = drop taken.used before.ahead; offset = before.offset }) where
    abbrev seen : StatedReading
    seen = record { entries = new; ahead = after.ahead; offset = after.offset }

    abbrev whole : List ℕ
    whole = before.entries.begun ++ line_part before.ahead

    left : length after.ahead + taken.used ≡ length before.ahead
    left = omega (
      arith,
      ap (λ (p : Piece). length p.ahead) is,
      length-drop taken.used before.ahead,
      takes.within,
    )

    -- behind a line that ended, and the bytes of one that was begun
    module _ (line begun : List ℕ) (bytes : whole ≡ line ++ begun) where
      long : length before.entries.begun + taken.used ≡ length line + length begun
      long = sizes before.entries.begun before.ahead line begun taken.used takes.front takes.within bytes

      begins : MayBe files name (Begins ((front ++ line) ++ (begun ++ after.ahead)))
      begins = subst (λ xs. MayBe files name (Begins xs))
          (split before.entries.begun before.ahead line begun taken.used takes.front takes.within bytes front
          ∙ ap (λ (p : Piece). (front ++ line) ++ (begun ++ p.ahead)) (sym is)) at.begins

      far : after.offset ≡ length (front ++ line) + (length begun + length after.ahead)
      far = omega (arith, ap (λ (p : Piece). p.offset) is, at.offset, long, left, length-append front line)

      next : new.next ≡ length (front ++ line) + length begun
      next = omega (arith, takes.next, at.next, long, length-append front line)

    stands : (line : List ℕ) → taken.done ≡ false → whole ≡ line ++ new.begun → BeginsOwed (owes_potential new) new.begun
        → HasNoFeed new.begun → IsAtStated files name (front ++ line) seen
    stands line going bytes owed unended = record {
      begins = begins line new.begun bytes;
      next = next line new.begun bytes;
      clear = takes.refused;
      more = takes.done ∙ going;
      line = owed;
      unended = unended;
      offset = far line new.begun bytes;
    }

    -- the line that ended is the one that was owed
    potential_owed : (p : Potential) → whole ≡ potential_line p → owes_potential before.entries ≡ true
    potential_owed p same = by (owes_potential before.entries) refl takes.begins
      where
        by : (b : Bool) → owes_potential before.entries ≡ b → BeginsOwed b whole → owes_potential before.entries ≡ true
        by true e owed = e
        by false e owed = absurd (not_last p (subst (λ xs. BeginsOwed false xs) same owed))

    claims_owed : whole ≡ last_line → owes_potential before.entries ≡ false
    claims_owed same = by (owes_potential before.entries) refl takes.begins
      where
        by : (b : Bool) → owes_potential before.entries ≡ b → BeginsOwed b whole → owes_potential before.entries ≡ false
        by true e owed = absurd (not_potential (subst (λ xs. BeginsOwed true xs) same owed))
        by false e owed = e

    -- a line is taken, or the piece is used up
    pub stated_taken : TakesLines files name front before seen taken.potential taken.done
    stated_taken = by taken.potential taken.done refl refl takes.ends
      where
        by : (p : Option Potential) (d : Bool) → taken.potential ≡ p → taken.done ≡ d
            → LineEnds before.entries p d whole new
            → TakesLines files name front before seen p d
        by (Some p) true e f ends = absurd ends
        by (Some p) false e f ends = (
          ends.0,
          potential_owed p ends.1,
          stands (potential_line p) f
              (ends.1 ∙ sym (append-nil (potential_line p)) ∙ ap (λ xs. potential_line p ++ xs) (sym ends.2))
              (subst (λ xs. BeginsOwed (owes_potential new) xs) (sym ends.2)
              (nothing_begins_owed (owes_potential new)))
              (subst HasNoFeed (sym ends.2) tt),
          record { given = ends.3; count = takes.count },
        )
        by None true e f ends = (
          claims_owed ends.0,
          record {
            begins = begins last_line [] (ends.0 ∙ sym (append-nil last_line));
            offset = omega (arith, far last_line [] (ends.0 ∙ sym (append-nil last_line)));
          },
        )
        by None false e f ends = (
          subst (λ xs. IsAtStated files name xs seen) (append-nil front)
              (stands [] f (sym ends.0) (owed_still ends.0 ends.2) (subst HasNoFeed (sym ends.0) ends.1)),
          none_left after.ahead (omega (arith, left, takes.all e f)),
          record { given = omega (arith, ends.2); count = takes.count },
        )
          where
            owed_still : new.begun ≡ whole → new.given ≡ before.entries.given
                → BeginsOwed (owes_potential new) new.begun
            owed_still same given =
                subst (λ xs. BeginsOwed (owes_potential new) xs) (sym same)
                (subst (λ b. BeginsOwed b whole)
                (sym (ap (λ n. nat_lt n new.count) given ∙ ap (λ n. nat_lt before.entries.given n) takes.count))
                takes.begins)

  -- a line is refused
  pub stated_refused : (fault : CertFault) (new : PotentialReading) (after : StatedReading)
      → before.offset ≤ longest_certificate
      → RefusesPotential before.entries before.ahead fault new
      → TakesStated files name front before after (Err fault)
  stated_refused fault new after limit refuses =
      subst (λ it. MayBe files name (FaultAtLine (owed_line before) front it)) (sym refuses.named)
      (wrong_line (owed_line before) files name front before.entries.begun at.unended before.ahead
      (potential_line_start before.entries) here
      (omega (
        arith,
        limit,
        at.offset,
        length-append front (before.entries.begun ++ before.ahead),
        length-append before.entries.begun before.ahead,
      ))
      at.begins refuses.wrong)

  -- the end of the file
  pub stated_ends : (fault : CertFault) → fault ≡ CertEnd (potential_line_start before.entries)
      → before.offset ≤ longest_certificate
      → MayHave files name (front ++ before.entries.begun)
      → MayBe files name (FaultAtLine (owed_line before) front fault)
  stated_ends fault is limit had =
      subst (λ it. MayBe files name (FaultAtLine (owed_line before) front it)) (sym is)
      (unended_line (owed_line before) files name front before.entries.begun at.unended
      (potential_line_start before.entries) here tt at.line
      (omega (arith, limit, at.offset, length-append front before.entries.begun)) had)

-- what the next piece makes of a reader, where the last one is used up
module _ (files : Files) (name front : List ℕ) (entries : PotentialReading) (piece : Piece)
    (at : IsAtStated files name front (record { entries = entries; ahead = piece.ahead; offset = piece.offset })) where
  pub stated_placed : IsPlaced files name (front ++ entries.begun) piece
  stated_placed = record {
    begins = subst (λ xs. MayBe files name (Begins xs)) (sym (append_assoc front entries.begun piece.ahead)) at.begins;
    offset = omega (arith, at.offset, length-append front entries.begun);
  }

  pub stated_on : (after : Piece) (rose : Type 0) (result : Result Bool ReadFault)
      → Continues files name rose (front ++ entries.begun) after result
      → ReadsStated files name rose front (record { entries = entries; ahead = piece.ahead; offset = piece.offset })
      (record { entries = entries; ahead = after.ahead; offset = after.offset }) result
  stated_on after rose result on = by result on
    where
      stands : IsPlaced files name (front ++ entries.begun) after
          → IsAtStated files name front (record { entries = entries; ahead = after.ahead; offset = after.offset })
      stands there = record {
        begins = subst (λ xs. MayBe files name (Begins xs)) (append_assoc front entries.begun after.ahead) there.begins;
        next = at.next;
        clear = at.clear;
        more = at.more;
        line = at.line;
        unended = at.unended;
        offset = omega (arith, there.offset, length-append front entries.begun);
      }

      none : HasGiven (record { entries = entries; ahead = piece.ahead; offset = piece.offset })
          (record { entries = entries; ahead = after.ahead; offset = after.offset }) 0
      none = record { given = omega arith; count = refl }

      by : (read : Result Bool ReadFault) → Continues files name rose (front ++ entries.begun) after read
          → ReadsStated files name rose front (record { entries = entries; ahead = piece.ahead; offset = piece.offset })
          (record { entries = entries; ahead = after.ahead; offset = after.offset }) read
      by (Ok true) it = (stands it, none)
      by (Ok false) it = (stands it.0, none, it.1)
      by (Err Unreadable) it = it
      by (Err (Text fault)) it =
          subst (λ f. MayBe files name (FaultAtLine (Stated (owes_potential entries)) front f)) (sym it.0)
          (beyond_line (Stated (owes_potential entries)) files name front entries.begun at.unended at.line it.1.full
          it.1.more)

-- ---- what is given, where no potential was given since

pub given_later : (first before after : StatedReading) (more : ℕ) → HasGiven first before 0
    → HasGiven before after more → HasGiven first after more
given_later first before after more none some = record {
  given = omega (arith, none.given, some.given);
  count = some.count ∙ none.count;
}

pub owes_same : (first before : StatedReading) → HasGiven first before 0
    → owes_potential before.entries ≡ owes_potential first.entries
owes_same first before none =
    ap (λ n. nat_lt n before.entries.count) (omega (arith, none.given))
    ∙ ap (λ n. nat_lt first.entries.given n) none.count

module _ (files : Files) (name front : List ℕ) (first before : StatedReading) (none : HasGiven first before 0) where
  pub gives_potential : (after : StatedReading) (rose : Type 0) (p : Potential) (done : Bool)
      → TakesLines files name front before after (Some p) done
      → GivesStated files name rose front first after (Ok (Some p))
  gives_potential after rose p done takes =
      (takes.0, sym (owes_same first before none) ∙ takes.1, takes.2, given_later first before after 1 none takes.3)

  pub gives_claims : (after : StatedReading) (rose : Type 0) → TakesLines files name front before after None true
      → GivesStated files name rose front first after (Ok None)
  gives_claims after rose takes = (sym (owes_same first before none) ∙ takes.0, takes.1)

  pub gives_fault : (fault : CertFault) → MayBe files name (FaultAtLine (owed_line before) front fault)
      → MayBe files name (FaultAtLine (owed_line first) front fault)
  gives_fault fault known =
      subst (λ b. MayBe files name (FaultAtLine (Stated b) front fault)) (owes_same first before none) known

  -- where the next piece can't be read, or shows a fault
  pub gives_unread : (after next : StatedReading) (rose later : Type 0) (fault : ReadFault) → (later → rose)
      → ReadsStated files name later front before next (Err fault)
      → GivesStated files name rose front first after (Err fault)
  gives_unread after next rose later Unreadable so read = so read
  gives_unread after next rose later (Text fault) so read = gives_fault fault read
