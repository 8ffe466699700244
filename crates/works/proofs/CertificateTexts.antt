-- What the writers write for a head is the text of a certificate, where it is no longer than one
-- may be (`setting_acceptable`, `none_acceptable`, `cantus_acceptable`, `no_cantus_acceptable`).
use Rattle.std.proofs.Common.{◌≡◌, ℕ, ◌<◌, ◌≤◌, ◌^◌, List, [], ◌++◌, None, Some, length, refl, sym, subst, ◌∙◌, arith, append_assoc}
use Rattle.std.specs.Prelude.{IfSome}
use Rattle.std.specs.List.{AllByRecursion, flat_map}
use Rattle.std.proofs.lemmas.List.{take_all}
use Rattle.std.proofs.lemmas.List.Elements.{All-from_get_or}
use Rattle.cantus_check.specs.Claims.{Said}
use Rattle.cantus_check.specs.Writer as of_cantus
use Rattle.cantus_space.specs.Lawful.{IsLawful as IsLawfulCantus}
use Rattle.cantus_space.specs.declared.plan.CantusPlan.{CantusPlan}
use Rattle.cantus_check.specs.Heads as cantus
use Rattle.cantus_check.specs.Heads.{IsSaid}
use Rattle.cantus_check.proofs.Fits as cantus_fits
use Rattle.cert_check.specs.Settings.{AreStated, Lists, Numbers, form_of, ground_text}
use Rattle.cert_law.specs.Entries.{AreTrueEntries}
use Rattle.cert_law.specs.Rests.{stated_in}
use Rattle.cert_law.specs.Writer.{claims_of, head_text, stated_text}
use Rattle.cert_text.proofs.HeadLaws.{best-heads_written}
use Rattle.cert_text.specs.declared.answers.CertHead.{CertHead}
use Rattle.cert_text.specs.declared.answers.CertHead.TheVariants.{Best, Nothing}
use Rattle.cert_text.specs.declared.answers.Form.{Form}
use Rattle.cert_text.specs.declared.answers.Form.TheVariants.{First, Second, Third}
use Rattle.cert_text.specs.HeadTexts.{Heads}
use Rattle.cert_text.specs.Lines.{claim_line}
use Rattle.cert_text.specs.Potentials.{IsPotential}
use Rattle.cert_text.specs.SingItems.{best_text, nothing_text}
use Rattle.cert_writer.proofs.Fits.{claims_of-fit}
use Rattle.fux_grid.specs.declared.exercise.Exercise.{Exercise}
use Rattle.fux_grid.specs.Exercises.{HasCantus, IsComplete, IsValid}
use Rattle.fux_grid.specs.Grid.{Grid}
use Rattle.fux_judge.specs.Lawful.{IsLawful}
use Rattle.fux_pitch.specs.declared.pitch.Pitch.{Pitch}
use Rattle.fux_text.specs.Grammar.{IsSettingOf}
use Rattle.fux_text.specs.ReadBack.{sing_lines}
use Rattle.penalty_sheet.specs.declared.sheet.Sheet.{Sheet}
use Rattle.rule_law.specs.Prefixes.{IsSetting}
use Rattle.works.specs.CantusCertified as certified
use Rattle.cert_writer.specs.Certificates.{IsPricedCertificateOf}
use Rattle.works.specs.Certified.{IsAcceptable, IsCertificateByNumbers, IsCertificateOf}

-- ---- of settings

-- a setting, of this exercise or of another with as many voices, over the cantus as it is has lines
-- that are read back
pub setting_of : (ex other : Exercise) (score : Grid) → other.voices ≡ ex.voices → IsSetting other score.columns
    → HasCantus ex score.columns → IsComplete ex score → IsSettingOf ex score
setting_of ex other score same setting cantus complete = record {
  given = record { complete = complete; cantus = cantus };
  full =
      All-from_get_or (λ col. length col ≡ ex.voices) score.columns []
      (λ i within. (setting.prefix.menus i within).full ∙ same);
  follows = setting.prefix.follows;
}

module _ (ex : Exercise) (sheet : Sheet) (valid : IsValid ex) (unmixed : ex.mixed ≡ None) where
  -- the text of a head of a form is read as that head
  abbrev IsReadBack : Form → CertHead → Type 0
  IsReadBack form head = Heads ex form (head_text ex form head) head (length (head_text ex form head))

  no_setting_read : (form : Form) → IsReadBack form Nothing
  no_setting_read form =
      let text = nothing_text form in
      record { within = omega arith; text = take_all (length text) text (omega arith); setting = tt }

  setting_read : (form : Form) (score : Grid) (penalty : ℕ) → penalty < 2 ^ 64 → IsLawful ex score.columns
      → HasCantus ex score.columns → IsComplete ex score → IsReadBack form (Best penalty score)
  setting_read form score penalty below lawful cantus complete =
      let text = best_text form penalty (sing_lines ex score.columns) in
      (best-heads_written ex form text penalty score (length text) valid).1 (
        omega arith,
        below,
        record {
          setting = setting_of ex ex score refl lawful.setting cantus complete;
          written = take_all (length text) text (omega arith);
        },
      )

  entries_stated : (f : Form) → IfSome (stated_in f ex sheet) (AreTrueEntries ex sheet)
      → IfSome (stated_in f ex sheet) (AllByRecursion IsPotential) → AreStated ex (Numbers (stated_in f ex sheet))
  entries_stated First are small = tt
  entries_stated Second are small = (are.whole, small)
  entries_stated Third are small = tt

  -- what is written by numbers is the text of a certificate, where its head's text is read as that head
  numbers_acceptable : (form : Form) (head : CertHead) (bytes : List ℕ) → form_of (Numbers (stated_in form ex sheet)) ≡ form
      → IsReadBack form head → IsCertificateByNumbers ex sheet form head bytes → IsAcceptable ex sheet form head bytes
  numbers_acceptable form head bytes stating heads is short = record {
    text = record {
      stated = Numbers (stated_in form ex sheet);
      is = record {
        claims = claims_of ex sheet head;
        text = record {
          front = head_text ex form head ++ stated_text (stated_in form ex sheet);
          heads = record {
            front = head_text ex form head;
            heads = subst
                (λ (f : Form). Heads ex f (head_text ex form head) head (length (head_text ex form head)))
                (sym stating) heads;
            fits = entries_stated form is.valid.entries is.small;
            is = refl;
            short = tt;
          };
          fits = claims_of-fit (record { exercise = ex; sheet = sheet; head = head }) unmixed;
          is = is.written
              ∙ sym (append_assoc (head_text ex form head) (stated_text (stated_in form ex sheet))
              (flat_map claim_line (claims_of ex sheet head)));
        };
        short = short;
        valid = record {
          sound = record { head = is.valid.sound; stated = is.valid.entries };
          certified = is.valid.certified;
        };
      };
    };
    stating = stating;
    small = tt;
  }

  -- and so is what is written by prices
  prices_acceptable : (head : CertHead) (bytes : List ℕ) → IsReadBack Third head
      → IsPricedCertificateOf ex sheet head bytes → IsAcceptable ex sheet Third head bytes
  prices_acceptable head bytes heads is short = record {
    text = record {
      stated = Lists is.lines;
      is = record {
        claims = is.claims;
        text = record {
          front = head_text ex Third head ++ ground_text (Lists is.lines);
          heads = record {
            front = head_text ex Third head;
            heads = heads;
            fits = is.fit.stated.lists;
            is = refl;
            short = is.fit.fits;
          };
          fits = is.have_lines;
          is = is.written;
        };
        short = short;
        valid = record {
          sound = record { head = is.sound; stated = is.fit.stated.due };
          certified = is.certified;
        };
      };
    };
    stating = refl;
    small = is.small;
  }

  head_acceptable : (form : Form) (head : CertHead) (bytes : List ℕ) → IsReadBack form head
      → IsCertificateOf ex sheet form head bytes → IsAcceptable ex sheet form head bytes
  head_acceptable First head bytes heads is = numbers_acceptable First head bytes refl heads is
  head_acceptable Second head bytes heads is = numbers_acceptable Second head bytes refl heads is
  head_acceptable Third head bytes heads is = prices_acceptable head bytes heads is

  pub none_acceptable : (form : Form) (bytes : List ℕ) → IsCertificateOf ex sheet form Nothing bytes
      → IsAcceptable ex sheet form Nothing bytes
  none_acceptable form bytes is = head_acceptable form Nothing bytes (no_setting_read form) is

  pub setting_acceptable : (form : Form) (score : Grid) (penalty : ℕ) (bytes : List ℕ) → penalty < 2 ^ 64
      → IsLawful ex score.columns → HasCantus ex score.columns → IsComplete ex score
      → IsCertificateOf ex sheet form (Best penalty score) bytes → IsAcceptable ex sheet form (Best penalty score) bytes
  setting_acceptable form score penalty bytes below lawful cantus complete is =
      head_acceptable form (Best penalty score) bytes (setting_read form score penalty below lawful cantus complete) is

-- ---- of a cantus

module _ (plan : CantusPlan) where
  said_acceptable : (said : Said) (bytes : List ℕ) → IsSaid said → certified.IsCertificateOf plan said bytes
      → certified.IsAcceptable plan said bytes
  said_acceptable said bytes fits is short = record {
    claims = of_cantus.claims_of plan said;
    text = record {
      front = cantus.head_text said;
      heads = (fits, refl);
      fits = cantus_fits.claims_of-fit plan said;
      is = is.written;
    };
    short = short;
    valid = record { sound = is.valid.sound; certified = is.valid.certified };
  }

  pub no_cantus_acceptable : (bytes : List ℕ) → certified.IsCertificateOf plan None bytes
      → certified.IsAcceptable plan None bytes
  no_cantus_acceptable bytes is = said_acceptable None bytes tt is

  pub cantus_acceptable : (ps : List Pitch) (penalty : ℕ) (bytes : List ℕ) → 3 ≤ plan.bars → plan.bars ≤ 24
      → penalty < 2 ^ 64 → IsLawfulCantus plan ps → certified.IsCertificateOf plan (Some (penalty, ps)) bytes
      → certified.IsAcceptable plan (Some (penalty, ps)) bytes
  cantus_acceptable ps penalty bytes fewest most below lawful is =
      said_acceptable (Some (penalty, ps)) bytes
      (below, omega (arith, fewest, lawful.whole), omega (arith, most, lawful.whole)) is
