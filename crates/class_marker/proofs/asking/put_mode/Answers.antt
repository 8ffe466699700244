use Rattle.std.proofs.Common.{◌++◌, string_bytes, codes}
use Rattle.class_marker.proofs.Pushed.{pushed, said}
use Rattle.fux_pitch.specs.Modes.{mode_name}
use Rattle.class_marker.specs.Asked.{mode_told}
use Rattle.class_marker.proofs.asking.put_mode.Goals as goal

pub returns : goal.returns
unfolding mode_told
returns c =
    let start = string_bytes c.args.out.now in
    let name = mode_name c.args.mode in
    let t1 = codes "The exercise is in the " in
    let t2 = t1 ++ name in
    pushed start t2 (codes " mode.\n")
    (pushed start t1 name c.in_ok-push_str.ensures.bytes
    (said (string_bytes c.push_str.new.self) c.in_ok-push_str-2.ensures.bytes c.mode_name.ensures))
    c.in_ok-push_str-3.ensures.bytes
