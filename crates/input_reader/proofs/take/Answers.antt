-- `take` meets its contract: framing's refusal, or what the two records that were found hold. Assumes nothing.
use mathlib.Core.Path.{sym, ◌∙◌}
use Rattle.std.proofs.lemmas.Result.{err_from_is_err_and}
use Rattle.inputs.proofs.Framing.{frame_is}
use Rattle.inputs.proofs.Taking.{input_refused, input_two}
use Rattle.input_reader.proofs.take.Goals as goal

pub returns-in_err-found : goal.returns-in_err-found
returns-in_err-found c =
    let p = err_from_is_err_and c.from_residual.result c.from_residual.ensures.1 in
    rw (p.1, p.2) (input_refused _ _ (sym c.in_err-found.ensures))

pub slice_bounds-read_records-count : goal.slice_bounds-read_records-count
slice_bounds-read_records-count c = (frame_is _ _ _ (sym c.in_ok-found.ensures)).ordered

pub slice_bounds-read_records-start : goal.slice_bounds-read_records-start
slice_bounds-read_records-start c = (frame_is _ _ _ (sym c.in_ok-found.ensures)).ordered

pub slice_bounds-read_records-end : goal.slice_bounds-read_records-end
slice_bounds-read_records-end c = (frame_is _ _ _ (sym c.in_ok-found.ensures)).inside

pub slice_bounds-read_records-count-2 : goal.slice_bounds-read_records-count-2
slice_bounds-read_records-count-2 c = (frame_is _ _ _ (sym c.in_ok-found.ensures)).inside

pub slice_bounds-read_records-start-2 : goal.slice_bounds-read_records-start-2
slice_bounds-read_records-start-2 c = (frame_is _ _ _ (sym c.in_ok-found.ensures)).inside

pub returns : goal.returns
returns c = c.read_records.ensures ∙ input_two _ _ _ (frame_is _ _ _ (sym c.in_ok-found.ensures))
