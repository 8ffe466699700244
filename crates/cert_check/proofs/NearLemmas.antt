-- How much is read where what a certificate states is at fault (`entered_near`), or where a number of
-- it isn't true (`closed_near`).
use Rattle.std.proofs.Common.{◌≡◌, ℕ, ◌+◌, ◌≤◌, inr, List, [], Some, Err, length, refl, sym, subst, arith, append-nil}
use Rattle.std.specs.Prelude.{IfOk}
use Rattle.cert_check.specs.Answers.{unstarted}
use Rattle.cert_check.specs.Entering.{Enters, unclosed}
use Rattle.cert_check.specs.Settings.{Asked, Numbers, Opening, setting_subject}
use Rattle.cert_check.specs.Starts.{IsStatedWhole}
use Rattle.cert_check.specs.Stating.{Stating, TellsFalse, stating_for}
use Rattle.cert_check.specs.declared.stated.CloseFault.{CloseFault}
use Rattle.cert_check.specs.declared.stated.CloseFault.TheVariants as closing
use Rattle.cert_file.proofs.JudgingLemmas.{begins_front}
use Rattle.cert_file.specs.Nearness.{EndsNear, IsReadFor, IsReadNear, IsReadToClaim}
use Rattle.cert_file.specs.Readings.{Files, longest_piece}
use Rattle.cert_file.specs.StatedReadings.{StatedReading}
use Rattle.cert_file.specs.declared.fault.ReadFault.{ReadFault}
use Rattle.cert_file.specs.declared.fault.ReadFault.TheVariants.{Text, Unreadable}
use Rattle.cert_text.specs.declared.answers.CertFault.TheVariants.{CertHead as WrongHead, CertWord, CertEnd, Memory}
use Rattle.cert_text.specs.declared.answers.CertHead.{CertHead}
use Rattle.cert_text.specs.declared.answers.Refused.{Refused}
use Rattle.cert_text.specs.declared.potential.Potential.{Potential}

module _ (asked : Asked) (files : Files) (name : List ℕ) (before past : ℕ) where
  pub entered_near : (opening : Opening) (rose : Type 0) (old new : Stating) (after : StatedReading) (fault : ReadFault)
      (offset : ℕ) → past ≤ before + (offset + 1) → Enters files name rose old new after (Err fault)
      → ((place : ℕ) → fault ≡ Text (CertWord place) → (past ≤ before + offset) × EndsNear files name place offset)
      → IfOk (unstarted fault) (IsReadNear (setting_subject asked) files name before past)
  entered_near opening rose old new after Unreadable offset few known word = tt
  entered_near opening rose old new after (Text (WrongHead at)) offset few known word = absurd known.such.fault_at
  entered_near opening rose old new after (Text (CertWord at)) offset few known word =
      let told = word at refl in inr (opening, record { read = offset; few = told.0; near = told.1 })
  entered_near opening rose old new after (Text (CertEnd at)) offset few known word = inr (
    opening,
    record { read = offset + 1; few = few; near = record { bytes = known.bytes; had = known.had; such = tt } },
  )
  entered_near opening rose old new after (Text Memory) offset few known word = tt

  pub closed_near : (head : CertHead) (entries : List Potential) (reader : StatedReading) (fault : CloseFault)
      → IsStatedWhole asked.exercise files name head entries reader → length reader.ahead ≤ longest_piece
      → past ≤ before + reader.offset → TellsFalse (stating_for asked.exercise asked.sheet head entries) fault
      → IfOk (unclosed fault) (IsReadNear (setting_subject asked) files name before past)
  closed_near head entries reader (closing.Refused refused) is short few why = inr (
    opening,
    record {
      read = reader.offset;
      few = few;
      near = record {
        bytes = is.at.begins.bytes;
        had = is.at.begins.had;
        such = subst
            (λ (r : Refused). IsReadFor (setting_subject asked) opening reader.offset r.number r.why is.at.begins.bytes)
            (sym why.2) there;
      };
    },
  )
    where
      opening : Opening
      opening = record { head = head; stated = Numbers (Some entries) }

      there : IsReadToClaim (setting_subject asked) opening 0 reader.offset is.at.begins.bytes
      there = record {
        front = is.opening;
        claims = [];
        counted = refl;
        text = record { front = is.opening; heads = is.opens; fits = tt; is = sym (append-nil is.opening) };
        begins = begins_front is.at.begins.bytes is.opening _ is.at.begins.such;
        near = omega (arith, is.at.offset, short);
      }
  closed_near head entries reader closing.Memory is short few why = tt
