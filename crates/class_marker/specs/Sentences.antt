-- What each rule asks, where it is broken.
use Rattle.std.specs.Prelude.{ℕ, ◌==◌, nat_le, List, codes, if◌then◌else◌}

-- of S1 to S9
abbrev pub first_sentence : ℕ → List ℕ
first_sentence n =
    if n == 1 then codes "This note lies outside the voice's range in this bar."
    else (if n == 2 then codes "This note isn't one of the mode's notes in this bar."
    else (if n == 3 then codes "The bar's notes and rests form none of the shapes of the species."
    else (if n == 4 then codes "The voice moves by an interval that isn't sung."
    else (if n == 5 then codes "A note is struck twice in a row."
    else (if n == 6 then codes "Two leaps the same way make a dissonance or pass the octave."
    else (if n == 7 then codes "After a leap of a sixth or more the voice doesn't turn back."
    else (if n == 8 then codes "The voice turns a tritone away from where it turned before."
    else codes "With this note the voice spans more than a tenth.")))))))

-- of S10 to S18
abbrev pub middle_sentence : ℕ → List ℕ
middle_sentence n =
    if n == 10 then codes "The lower voice goes above the upper one."
    else (if n == 11 then codes "An inner bar begins with both voices on the same key."
    else (if n == 12 then codes "The voice doesn't begin on a perfect interval."
    else (if n == 13 then codes "The voices don't end on an interval that closes."
    else (if n == 14 then codes "The bar begins on a dissonance that both voices strike."
    else (if n == 15 then codes "A dissonance within the bar is no passing note and no ornament."
    else (if n == 16 then codes "Both voices move from a perfect interval to an equal one."
    else (if n == 17 then codes "The outer voices move the same way into a perfect interval."
    else codes "Two bars begin with equal perfect intervals, and nothing hides it.")))))))

-- of S19 to S28
abbrev pub last_sentence : ℕ → List ℕ
last_sentence n =
    if n == 19 then codes "The suspended note isn't prepared as a consonance of half a bar."
    else (if n == 20 then codes "The suspended note doesn't go down a step, to a consonance."
    else (if n == 21 then codes "The suspension is of a size that doesn't serve."
    else (if n == 22 then codes "No voice goes from the leading note to the final as cadences do."
    else (if n == 23 then codes "The leading note sounds in two voices at once."
    else (if n == 24 then codes "The lowest voice doesn't end on the final."
    else (if n == 25 then codes "A quaver isn't reached and left by steps."
    else (if n == 26 then codes "A sharpened note doesn't go up a step."
    else (if n == 27 then codes "No note that starts there excuses a dissonance within the bar."
    else codes "The other voice moves on before the suspended note resolves."))))))))

-- of the forms of a cantus firmus
abbrev pub cantus_sentence : ℕ → List ℕ
cantus_sentence n =
    if n == 31 then codes "The cantus doesn't begin on the final."
    else (if n == 32 then codes "The cantus doesn't end on the final."
    else codes "The cantus doesn't end by a step down.")

-- of a rule, by the number that marks have of it
abbrev pub rule_sentence : ℕ → List ℕ
rule_sentence n =
    if nat_le n 9 then first_sentence n
    else (if nat_le n 18 then middle_sentence n
    else (if nat_le n 28 then last_sentence n
    else cantus_sentence n))
