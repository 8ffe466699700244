use Rattle.std.proofs.Common.{◌%◌, ◌∙◌, ap, string_bytes, unsigned_abs}
use Rattle.fux_pitch.specs.declared.interval.Interval.{Interval}
use Rattle.fux_pitch.specs.Size.{reduced}
use Rattle.class_marker.proofs.Pushed.{pushed, said}
use Rattle.class_marker.specs.Intervals.{interval_name, number_name, quality}
use Rattle.class_marker.proofs.intervals.put_name.Goals as goal

pub returns : goal.returns
unfolding interval_name
returns c =
    let start = string_bytes c.args.out.now in
    let way = c.args.way in
    let degrees = unsigned_abs way.degrees in
    pushed start (quality (degrees % 7) (reduced way).semitones) (number_name degrees)
    (said start c.in_ok-push_str.ensures.bytes
    (c.quality.ensures
    ∙ ap (λ d. quality (d % 7) c.reduce.result.semitones) c.degrees_of-degrees.ensures
    ∙ ap (λ (r : Interval). quality (degrees % 7) r.semitones) c.reduce.ensures))
    (said (string_bytes c.push_str.new.self) c.in_ok-put_number.ensures
    (ap number_name c.degrees_of-degrees.ensures))
