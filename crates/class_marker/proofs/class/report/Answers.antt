use Rattle.std.proofs.Common.{length, zip, refl, arith}
use Rattle.std.proofs.lemmas.Slice.Zip.{length-zip}
use Rattle.class_marker.proofs.ReportLemmas.{whole_is}
use Rattle.class_marker.proofs.class.report.Goals as goal

pub returns : goal.returns
returns g c =
    whole_is (zip c.args.names.now c.args.texts.now) c.in_ok-report.report _ (length c.args.texts.now) c.in_ok-report.ensures
    (omega (arith, length-zip c.args.names.now c.args.texts.now, c.requires)) c.in_ok-put_count.ensures
    refl refl
