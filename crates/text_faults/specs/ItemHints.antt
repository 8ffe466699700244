-- What would be right in the items of a `sing` or `given` line, and where a pitch is wrong.
use Rattle.std.specs.Prelude.{ℕ, not, List, [], ◌∷◌, codes}
use Rattle.std.specs.List.{after_first}
use Rattle.text_lines.specs.Words.{is_blank}
use Rattle.text_faults.specs.declared.shown.Form.TheVariants as form
use Rattle.text_faults.specs.Shown.{Sentence}
use Rattle.text_faults.specs.WordTests.{begins, begins_within, first_fit, has, has_digit}

-- a word that is no item, where what stands behind it begins with a colon or not
unfoldable pub item_hint : List ℕ → List ℕ → Sentence
item_hint here word = first_fit (
    (begins (codes "|"), (codes "nothing stands behind the last bar: take this away", form.Nothing))
    ∷ (begins (codes ";"), (codes "a comment stands in a line of its own, which begins with ;", form.Nothing))
    ∷ (begins (codes "#"), (codes "a comment stands in a line of its own, which begins with ;", form.Nothing))
    ∷ (begins (codes ":"), (codes "no blank stands before a colon: `A4:4`", form.Nothing))
    ∷ (λ w. begins (codes ":") (after_first is_blank here), (codes "no blank stands before a colon: ", form.Joined))
    ∷ (has 124, (codes "blanks stand at both sides of a bar line: ", form.Apart))
    ∷ (has 44, (codes "items are apart by blanks alone: ", form.Single))
    ∷ (has 0xA0, (codes "a no-break space stands here, as web pages have it: type a blank", form.Nothing))
    ∷ (has 47, (codes "lengths count eighths of a bar: a half is ", form.Half))
    ∷ (has 46, (codes "lengths count eighths of a bar: a half is ", form.Half))
    ∷ (has 63, (codes "a ? stands in given lines alone: write a note", form.Nothing))
    ∷ (has 79, (codes "this is the letter O: a length is a digit from 1 to 8", form.Nothing))
    ∷ (has 111, (codes "this is the letter O: a length is a digit from 1 to 8", form.Nothing))
    ∷ (has 58, (codes "an item is a pitch, r or _, a colon and a length, as `A4:4`", form.Nothing))
    ∷ [])
    (codes "a length is missing: a whole bar is ", form.Whole) word

-- a word that names no pitch
unfoldable pub pitch_hint : List ℕ → List ℕ
pitch_hint name = first_fit (
    (begins (codes "R"), codes "a rest is a small r")
    ∷ (begins (codes "_"), codes "a held note is _ and a length, as in _:4, and names no pitch")
    ∷ (has 0xE2, codes "the flat sign is written b, and the sharp sign #")
    ∷ (begins (codes "H"), codes "H is no pitch here, and the note below C is B")
    ∷ (begins (codes "h"), codes "H is no pitch here, and the note below C is B")
    ∷ (has 39, codes "octaves are digits, and letters of pitches capitals")
    ∷ (begins (codes "BB"), codes "the flat sign is a small b")
    ∷ (begins_within 97 103, codes "letters of pitches are capitals")
    ∷ (begins_within 48 57, codes "the octave stands behind the letter and its sign")
    ∷ (has 115, codes "this is a German name, and a sharp sign is written #, a flat sign b")
    ∷ (λ w. not (has_digit w), codes "the octave is missing, and that from the middle C on is 4")
    ∷ [])
    (codes "a pitch is a letter A to G, a # or b or nothing, and an octave, from C1 to C7") name
