-- What `certcantus` writes: the certificate of a head that holds (`all_written`, `part_written`,
-- `too_long`), and what it is of the best cantus (`of_best`, `of_none`, `of_bound`).
use Rattle.std.proofs.Common.{◌≡◌, ℕ, ◌<◌, ◌≤◌, ◌^◌, List, None, Some, Option, Result, Ok, Err, length, inl, inr, refl}
use Rattle.std.proofs.lemmas.Bool.Decides.{leb_tells}
use Rattle.cantus_check.specs.Certificates.{Holds}
use Rattle.cantus_check.specs.Claims.{Said}
use Rattle.cantus_check.proofs.WrittenCantus.{written_is_valid}
use Rattle.cantus_space.specs.Answers.{IsBestWithin, IsLeastOver, IsNothingWithin}
use Rattle.cantus_space.specs.declared.plan.CantusPlan.{CantusPlan}
use Rattle.cantus_check.specs.Writing.{written_certificate}
use Rattle.fux_pitch.specs.declared.pitch.Pitch.{Pitch}
use Rattle.fux_port.specs.Written.{StopsShort, appended}
use Rattle.works.specs.declared.refusal.Refusal.TheVariants as refusal
use Rattle.works.specs.declared.work.Halt.{Halt}
use Rattle.works.specs.declared.work.Halt.TheVariants as halt
use Rattle.works.specs.declared.work.Stop.TheVariants as stop
use Rattle.works.specs.declared.work.Verdict.{Verdict}
use Rattle.works.specs.declared.work.Verdict.TheVariants.{Favorable, Unfavorable}
use Rattle.works.specs.CantusCertified.{CertifiesPlan, CertifiesSaid, IsCertificateOf}
use Rattle.works.specs.Composed.{IsBoundText}
use Rattle.works.specs.Endings.{Writes}
use Rattle.works.specs.Texts.{Work}
use Rattle.works.proofs.CertificateTexts.{cantus_acceptable, no_cantus_acceptable}
use Rattle.works.proofs.CertifyLemmas.{writes_so}

within : (bytes : List ℕ) → (1073741824 < length bytes → ⊥) → length bytes ≤ 1073741824
within bytes short = elim (leb_tells (length bytes) 1073741824) [ inl few ↦ few.1 | inr many ↦ absurd (short many.1) ]

module _ (plan : CantusPlan) (said : Said) (verdict : Verdict) (holds : Holds plan said) (cut : ℕ → Type 0)
    (old new : Option (List ℕ)) where
  its_certificate : IsCertificateOf plan said (written_certificate plan said)
  its_certificate = record { valid = written_is_valid plan said holds; written = refl }

  abbrev whole : Work
  whole = Ok record { verdict = verdict; bytes = written_certificate plan said }

  pub all_written : (1073741824 < length (written_certificate plan said) → ⊥)
      → new ≡ appended old (written_certificate plan said) → Writes (CertifiesSaid plan said verdict) cut old new (Ok verdict)
  all_written short all = record {
    work = whole;
    made = (refl, its_certificate, within (written_certificate plan said) short);
    holds = record {
      output = record { verdict = verdict; bytes = written_certificate plan said };
      is = refl;
      verdict = refl;
      written = all;
    };
  }

  pub part_written : (1073741824 < length (written_certificate plan said) → ⊥)
      → cut (length (written_certificate plan said)) → StopsShort old new (written_certificate plan said)
      → Writes (CertifiesSaid plan said verdict) cut old new (Err halt.Unwritable)
  part_written short why part = record {
    work = whole;
    made = (refl, its_certificate, within (written_certificate plan said) short);
    holds = record { cause = why; front = part };
  }

  pub too_long : 1073741824 < length (written_certificate plan said) → new ≡ old
      → Writes (CertifiesSaid plan said verdict) cut old new (Err (halt.Stopped (stop.Refused refusal.LongCertificate)))
  too_long long none = (none, (its_certificate, long))

module _ (plan : CantusPlan) (budget : ℕ) where
  of_best : (cantus : List Pitch) (penalty : ℕ) → IsBestWithin plan budget cantus penalty → 3 ≤ plan.bars
      → plan.bars ≤ 24 → penalty < 2 ^ 64 → (work : Work)
      → CertifiesSaid plan (Some (penalty, cantus)) Favorable work → CertifiesPlan plan budget work
  of_best cantus penalty best fewest most below (Ok output) made = record {
    shows = rw made.0 record {
      cantus = cantus;
      penalty = penalty;
      best = best;
      certificate = made.1;
      acceptable =
          cantus_acceptable plan cantus penalty output.bytes fewest most below best.best.lawful made.1;
    };
    fits = λ other. made.2;
  }
  of_best cantus penalty best fewest most below (Err refusal.LongCertificate) made = record {
    verdict = Favorable;
    found = λ is. cc is;
    bytes = _;
    shows = record {
      cantus = cantus;
      penalty = penalty;
      best = best;
      certificate = made.0;
      acceptable = cantus_acceptable plan cantus penalty _ fewest most below best.best.lawful made.0;
    };
    long = made.1;
  }
  of_best cantus penalty best fewest most below (Err (refusal.TooWide place count)) made = absurd made
  of_best cantus penalty best fewest most below (Err (refusal.Text kind line column)) made = absurd made
  of_best cantus penalty best fewest most below (Err refusal.NoSetting) made = absurd made
  of_best cantus penalty best fewest most below (Err refusal.LargeGraph) made = absurd made
  of_best cantus penalty best fewest most below (Err (refusal.Lesson kind line column)) made = absurd made
  of_best cantus penalty best fewest most below (Err (refusal.List line)) made = absurd made
  of_best cantus penalty best fewest most below (Err (refusal.Canon line)) made = absurd made
  of_best cantus penalty best fewest most below (Err (refusal.With voice)) made = absurd made
  of_best cantus penalty best fewest most below (Err (refusal.Sheet fault)) made = absurd made
  of_best cantus penalty best fewest most below (Err (refusal.Midi fault)) made = absurd made
  of_best cantus penalty best fewest most below (Err (refusal.Join fault)) made = absurd made

  of_none : IsNothingWithin plan budget → (work : Work) → CertifiesSaid plan None Unfavorable work
      → CertifiesPlan plan budget work
  of_none none (Ok output) made = record {
    shows = rw made.0 record {
      none = none;
      certificate = made.1;
      acceptable = no_cantus_acceptable plan output.bytes made.1;
    };
    fits = λ other. made.2;
  }
  of_none none (Err refusal.LongCertificate) made = record {
    verdict = Unfavorable;
    found = λ is. cc is;
    bytes = _;
    shows = record { none = none; certificate = made.0; acceptable = no_cantus_acceptable plan _ made.0 };
    long = made.1;
  }
  of_none none (Err (refusal.TooWide place count)) made = absurd made
  of_none none (Err (refusal.Text kind line column)) made = absurd made
  of_none none (Err refusal.NoSetting) made = absurd made
  of_none none (Err refusal.LargeGraph) made = absurd made
  of_none none (Err (refusal.Lesson kind line column)) made = absurd made
  of_none none (Err (refusal.List line)) made = absurd made
  of_none none (Err (refusal.Canon line)) made = absurd made
  of_none none (Err (refusal.With voice)) made = absurd made
  of_none none (Err (refusal.Sheet fault)) made = absurd made
  of_none none (Err (refusal.Midi fault)) made = absurd made
  of_none none (Err (refusal.Join fault)) made = absurd made

  of_bound : (bound : ℕ) → IsLeastOver plan budget bound → (work : Work) → IsBoundText bound work
      → CertifiesPlan plan budget work
  of_bound bound is (Ok output) made = record {
    shows = rw made.0 record { bound = bound; is_bound = is; spelled = made.1 };
    fits = λ other. absurd (other made.0);
  }
  of_bound bound is (Err refusal) made = absurd made

  -- what is written of what a search found is written of what is asked
  module _ (cut : ℕ → Type 0) (old new : Option (List ℕ)) (result : Result Verdict Halt) where
    pub best_certified : (cantus : List Pitch) (penalty : ℕ) → IsBestWithin plan budget cantus penalty
        → 3 ≤ plan.bars → plan.bars ≤ 24 → penalty < 2 ^ 64
        → Writes (CertifiesSaid plan (Some (penalty, cantus)) Favorable) cut old new result
        → Writes (CertifiesPlan plan budget) cut old new result
    best_certified cantus penalty best fewest most below =
        writes_so (CertifiesSaid plan (Some (penalty, cantus)) Favorable) (CertifiesPlan plan budget) cut old new result
        (of_best cantus penalty best fewest most below)

    pub none_certified : IsNothingWithin plan budget
        → Writes (CertifiesSaid plan None Unfavorable) cut old new result
        → Writes (CertifiesPlan plan budget) cut old new result
    none_certified none =
        writes_so (CertifiesSaid plan None Unfavorable) (CertifiesPlan plan budget) cut old new result (of_none none)

    pub bound_told : (bound : ℕ) → IsLeastOver plan budget bound → Writes (IsBoundText bound) cut old new result
        → Writes (CertifiesPlan plan budget) cut old new result
    bound_told bound is =
        writes_so (IsBoundText bound) (CertifiesPlan plan budget) cut old new result (of_bound bound is)
