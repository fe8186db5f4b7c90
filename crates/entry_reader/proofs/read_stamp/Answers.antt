-- `read_stamp` meets its contract: four octets are there or not. Assumes nothing.
use Rattle.std.proofs.Common.{◌≡◌, ℕ, ◌-◌, List, length, take, drop, sym, ap, ◌∙◌, length-drop}
use lib.Seq.{take-length, get_or-take}
use Rattle.entry_reader.proofs.Reading.{stamp_short, stamp_read}
use Rattle.entry_reader.proofs.read_stamp.Goals as goal

tail : (s : List ℕ) (at : ℕ) → take (length s - at) (drop at s) ≡ drop at s
tail s at = ap (λ (n : ℕ). take n (drop at s)) (sym (length-drop at s)) ∙ take-length (drop at s)

pub returns-in-Some : goal.returns-in-Some
returns-in-Some c =
    let e = rw (tail c.args.octets.now c.args.at) at c.in-Some.ensures.cases in
    stamp_read c.args.octets.now c.args.at c.in-Some.stamp.now _ e.enough (λ i h. rw e.same (get_or-take 4 (drop c.args.at c.args.octets.now) i 0 h)) c.from_le_bytes.ensures

pub returns-in-None : goal.returns-in-None
returns-in-None c =
    stamp_short c.args.octets.now c.args.at (rw (tail c.args.octets.now c.args.at) at c.in-None.ensures.cases)
