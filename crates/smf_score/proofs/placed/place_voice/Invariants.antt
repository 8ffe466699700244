use Rattle.std.proofs.Common.{◌≡◌, drop, length, reverse, take}
use Rattle.smf_score.specs.Placing.{latest, note_placed, voice_placed, with_earlier}
use Rattle.smf_score.proofs.EachLemmas.{with_front}
use Rattle.smf_score.proofs.placed.place_voice.Given as goal

-- the notes that were placed, and those that are left, are all
abbrev pub invariant-loop-note : goal.invariant-loop-note
invariant-loop-note l = record {
  read : with_front (note_placed l.division) l.places.items
      (with_earlier (reverse (take l.note-index l.notes)) (drop l.note-index l.notes))
      ≡ voice_placed l.division l.notes;
  ended : l.ended ≡ latest l.division (reverse (take l.note-index l.notes));
  count : length l.places.items ≡ l.note-index;
}
