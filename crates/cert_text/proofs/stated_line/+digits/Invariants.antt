use Rattle.cert_text.proofs.stated_line.+digits.Given as goal

abbrev pub decreases-digits : goal.decreases-digits
decreases-digits l = l.number
