-- The commands of `clap` are simple, so that its contract says all of them.
use Rattle.std.proofs.Common.{◌≡◌, true, refl}
use Rattle.clap.specs.Words.{is_simple_and_free}
use Rattle.clap.proofs.OnLiterals.{clap_on_literals}
use Rattle.command_words.specs.Forms.{form_of}
use Rattle.command_words.specs.declared.verbs.Verb.{Verb}
use Rattle.command_words.specs.declared.verbs.Verb.TheVariants as verb

pub form_is_simple : (verb : Verb) → is_simple_and_free (form_of verb) ≡ true
unfolding clap_on_literals
form_is_simple verb.Compose = refl
form_is_simple verb.Best = refl
form_is_simple verb.Certify = refl
form_is_simple verb.Check = refl
form_is_simple verb.Mark = refl
form_is_simple verb.Explain = refl
form_is_simple verb.Cantus = refl
form_is_simple verb.Print = refl
form_is_simple verb.ToSmf = refl
form_is_simple verb.FromSmf = refl
form_is_simple verb.JoinSmf = refl
form_is_simple verb.Drill = refl
form_is_simple verb.Class = refl
form_is_simple verb.Canon = refl
form_is_simple verb.Mixed = refl
form_is_simple verb.MarkMixed = refl
form_is_simple verb.Weigh = refl
form_is_simple verb.ToXml = refl
form_is_simple verb.MarkXml = refl
form_is_simple verb.Picture = refl
form_is_simple verb.MarkPicture = refl
form_is_simple verb.NewCantus = refl
form_is_simple verb.CertCantus = refl
form_is_simple verb.CheckCantus = refl
