use Rattle.std.proofs.Common.{◌∙◌, ap, sym, Ok, rules}
use Rattle.std.proofs.lemmas.Result.{err_from_is_err_and}
use Rattle.forward_io.proofs.Captures.{added, faulty, too-many}
use Rattle.forward_io.proofs.captured.gathering.add_capture.Goals as goal

pub returns-in_err-found-clause-refused : goal.returns-in_err-found-clause-refused
returns-in_err-found-clause-refused c =
    let p = err_from_is_err_and c.from_residual.result c.from_residual.ensures.1 in
    rw (p.1, p.2) (faulty c.args.reading c.args.frames.now.items c.args.port c.args.queue c.args.bytes.now _ c.in_err-found.ensures)

pub returns-then-records-room-clause-refused : goal.returns-then-records-room-clause-refused
returns-then-records-room-clause-refused c =
    too-many c.args.reading c.args.frames.now.items _ c.args.port c.args.queue c.args.bytes.now _ _ c.in_ok-found.ensures (search rules) (search rules)

pub returns-clause-added : goal.returns-clause-added
returns-clause-added c =
    added c.args.reading c.args.frames.now.items c.args.port c.args.queue c.args.bytes.now _ _ c.records-2.result.now c.in_ok-found.ensures (search rules) (search rules)
    ∙ ap (λ fs. Ok (fs, c.in_ok-found.skipped)) (sym c.in_ok-push_frames.ensures.pushed)
