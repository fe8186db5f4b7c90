-- `write` meets its contract: the network is refused, or its record is too long, or it is written. Assumes nothing.
use mathlib.Core.Path.{sym}
use native.Mathlib.Omega.{arith}
use Rattle.std.proofs.lemmas.Result.{err_from_is_err_and}
use Rattle.network_writer.proofs.Writing.{write_refused, write_short, write_whole}
use Rattle.network_writer.proofs.write.Goals as goal

pub returns-in_err-check-clause-answer : goal.returns-in_err-check-clause-answer
returns-in_err-check-clause-answer c =
    let p = err_from_is_err_and c.from_residual.result c.from_residual.ensures.1 in
    rw (p.1, p.2) (write_refused c.args.network c.args.buffer.now _ c.in_err-check.ensures).0

pub returns-in_err-check-clause-refusal : goal.returns-in_err-check-clause-refusal
returns-in_err-check-clause-refusal c =
    let p = err_from_is_err_and c.from_residual.result c.from_residual.ensures.1 in
    rw (p.1, p.2) (write_refused c.args.network c.args.buffer.now _ c.in_err-check.ensures).1.0

pub returns-in_err-check-clause-size : goal.returns-in_err-check-clause-size
returns-in_err-check-clause-size c =
    let p = err_from_is_err_and c.from_residual.result c.from_residual.ensures.1 in
    rw p.1 (write_refused c.args.network c.args.buffer.now _ c.in_err-check.ensures).1.1.0

pub returns-in_err-check-clause-buffer_after : goal.returns-in_err-check-clause-buffer_after
returns-in_err-check-clause-buffer_after c = (write_refused c.args.network c.args.buffer.now _ c.in_err-check.ensures).1.1.1

pub returns-then-buffer-record_length-clause-answer : goal.returns-then-buffer-record_length-clause-answer
returns-then-buffer-record_length-clause-answer c = (write_short c.args.network c.args.buffer.now (sym c.in_ok-check.ensures) (omega arith)).0

pub returns-then-buffer-record_length-clause-refusal : goal.returns-then-buffer-record_length-clause-refusal
returns-then-buffer-record_length-clause-refusal c = (write_short c.args.network c.args.buffer.now (sym c.in_ok-check.ensures) (omega arith)).1.0

pub returns-then-buffer-record_length-clause-size : goal.returns-then-buffer-record_length-clause-size
returns-then-buffer-record_length-clause-size c = (write_short c.args.network c.args.buffer.now (sym c.in_ok-check.ensures) (omega arith)).1.1.0

pub returns-then-buffer-record_length-clause-buffer_after : goal.returns-then-buffer-record_length-clause-buffer_after
returns-then-buffer-record_length-clause-buffer_after c = (write_short c.args.network c.args.buffer.now (sym c.in_ok-check.ensures) (omega arith)).1.1.1

pub returns-clause-answer : goal.returns-clause-answer
returns-clause-answer c =
    (write_whole c.args.network c.args.buffer.now _ _ (sym c.in_ok-check.ensures) (omega arith) c.write_record.ensures.0 c.write_record.ensures.1).0

pub returns-clause-refusal : goal.returns-clause-refusal
returns-clause-refusal c =
    (write_whole c.args.network c.args.buffer.now _ _ (sym c.in_ok-check.ensures) (omega arith) c.write_record.ensures.0 c.write_record.ensures.1).1.0

pub returns-clause-size : goal.returns-clause-size
returns-clause-size c =
    (write_whole c.args.network c.args.buffer.now _ _ (sym c.in_ok-check.ensures) (omega arith) c.write_record.ensures.0 c.write_record.ensures.1).1.1.0

pub returns-clause-buffer_after : goal.returns-clause-buffer_after
returns-clause-buffer_after c =
    (write_whole c.args.network c.args.buffer.now _ _ (sym c.in_ok-check.ensures) (omega arith) c.write_record.ensures.0 c.write_record.ensures.1).1.1.1
