-- The names of rules in a few words.
use Rattle.std.specs.Prelude.{ℕ, ◌==◌, List, [], codes, if◌then◌else◌}

-- what a rule is called in a few words
abbrev pub rule_words : ℕ → List ℕ
rule_words rule =
    if rule == 1 then codes "out of the range"
    else (if rule == 2 then codes "not in the mode"
    else (if rule == 3 then codes "rhythm"
    else (if rule == 4 then codes "melodic interval"
    else (if rule == 5 then codes "struck again"
    else (if rule == 6 then codes "two leaps"
    else (if rule == 7 then codes "after a sixth"
    else (if rule == 8 then codes "tritone between turns"
    else (if rule == 9 then codes "too wide a line"
    else (if rule == 10 then codes "crossing"
    else (if rule == 11 then codes "unison"
    else (if rule == 12 then codes "beginning"
    else (if rule == 13 then codes "ending"
    else (if rule == 14 then codes "dissonance"
    else (if rule == 15 then codes "dissonance"
    else (if rule == 16 then codes "parallels"
    else (if rule == 17 then codes "hidden parallels"
    else (if rule == 18 then codes "parallels from bar to bar"
    else (if rule == 19 then codes "suspension not prepared"
    else (if rule == 20 then codes "suspension not resolved"
    else (if rule == 21 then codes "no suspension of this size"
    else (if rule == 22 then codes "no cadence"
    else (if rule == 23 then codes "leading note doubled"
    else (if rule == 24 then codes "not on the final"
    else (if rule == 25 then codes "quaver not by step"
    else (if rule == 26 then codes "sharp doesn't rise"
    else (if rule == 27 then codes "dissonance"
    else (if rule == 28 then codes "moves under a suspension"
    else [])))))))))))))))))))))))))))
