use Rattle.std.proofs.Common.{Some, ap, sym, ◌∙◌}
use Rattle.fux_port.proofs.Names.{file_at-named_files}
use Rattle.fux_port.proofs.mem_shelf.find_file.Goals as goal

pub returns : goal.returns
returns c =
    ap Some c.as_slice.ensures ∙ c.in_ok-file.ensures.value ∙ sym (file_at-named_files c.args.files.now c.args.name.now)

pub returns-in_err-file : goal.returns-in_err-file
returns-in_err-file c =
    rw c.from_residual.ensures (c.in_err-file.ensures.value
    ∙ sym (file_at-named_files c.args.files.now c.args.name.now))
