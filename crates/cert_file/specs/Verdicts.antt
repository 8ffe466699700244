-- The lines that tell verdicts.
use Rattle.std.specs.Prelude.{ℕ, List, [], ◌∷◌, ◌++◌, codes}
use Rattle.std.specs.Fmt.{decimal}
use Rattle.cert_text.specs.declared.answers.Accepted.{Accepted}
use Rattle.cert_text.specs.declared.answers.Accepted.TheVariants as accepted
use Rattle.cert_text.specs.declared.answers.CertFault.{CertFault}
use Rattle.cert_text.specs.declared.answers.CertFault.TheVariants.{CertHead, CertWord, CertEnd, Memory}
use Rattle.cert_text.specs.declared.answers.Refused.{Refused}
use Rattle.cert_text.specs.declared.answers.Why.{Why}
use Rattle.cert_text.specs.declared.answers.Why.TheVariants.{Head, False, Over, Short, Potential, Price}
use Rattle.cert_file.specs.declared.verdict.Verdict.{Verdict}
use Rattle.cert_file.specs.declared.verdict.Verdict.TheVariants as verdict

abbrev pub accepted_line : Accepted → List ℕ
accepted_line (accepted.Best penalty) = codes "accepted: best " ++ decimal penalty ++ 10 ∷ []
accepted_line accepted.Nothing = codes "accepted: none" ++ 10 ∷ []

-- what is refused: a claim, or a number or a price that is stated
abbrev pub refused_front : Why → List ℕ
refused_front Head = codes "refused at claim "
refused_front False = codes "refused at claim "
refused_front Over = codes "refused at claim "
refused_front Short = codes "refused at claim "
refused_front Potential = codes "refused at potential "
refused_front Price = codes "refused at price "

-- why it is, and the end of the line
abbrev pub why_end : Why → List ℕ
why_end Head = codes ": head" ++ 10 ∷ []
why_end False = codes ": false" ++ 10 ∷ []
why_end Over = codes ": over" ++ 10 ∷ []
why_end Short = codes ": short" ++ 10 ∷ []
why_end Potential = codes ": false" ++ 10 ∷ []
why_end Price = codes ": false" ++ 10 ∷ []

abbrev pub refused_line : Refused → List ℕ
refused_line refused = refused_front refused.why ++ decimal refused.number ++ why_end refused.why

-- what is wrong with the text; a want of memory isn't
abbrev pub fault_line : CertFault → List ℕ
fault_line (CertHead at) = codes "refused at byte " ++ decimal at ++ codes ": head" ++ 10 ∷ []
fault_line (CertWord at) = codes "refused at byte " ++ decimal at ++ codes ": word" ++ 10 ∷ []
fault_line (CertEnd at) = codes "refused at byte " ++ decimal at ++ codes ": end" ++ 10 ∷ []
fault_line Memory = []

abbrev pub verdict_line : Verdict → List ℕ
verdict_line (verdict.Accepted answer) = accepted_line answer
verdict_line (verdict.Claim refused) = refused_line refused
verdict_line (verdict.Text fault) = fault_line fault
