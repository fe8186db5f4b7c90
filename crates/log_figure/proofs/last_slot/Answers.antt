-- `last_slot` meets its contract: the last entry's slot, or 0 in an empty log. Assumes nothing.
use Rattle.std.proofs.Common.{◌≡◌, ℕ, ◌-◌, List, [], ◌∷◌, length, None, slice_get, sym, ap, refl, arith}
use Rattle.std.proofs.lemmas.Option.{get_or_from_slice_get, slice_get-get_or}
use Rattle.logs.specs.declared.Entry.{Entry}
use Rattle.logs.specs.Log.{no_entry, last_slot}
use Rattle.log_figure.proofs.last_slot.Goals as goal

empty : (es : List Entry) → slice_get es (length es - 1) ≡ None → 0 ≡ last_slot es
unfolding last_slot
empty [] h = refl
empty (e ∷ es) h =
    let more = slice_get-get_or (e ∷ es) (length (e ∷ es) - 1) no_entry (omega arith) in
    absurd (let z : ◌≡◌ {A = ℕ} 0 1 = cc in omega arith)

pub returns-in-Some : goal.returns-in-Some
unfolding last_slot
returns-in-Some c =
    let es = c.args.entries.now in
    sym (ap (λ (e : Entry). e.slot) (get_or_from_slice_get es (length es - 1) _ no_entry (sym c.in-Some.ensures.value)))

pub returns-in-None : goal.returns-in-None
returns-in-None c = empty _ (sym c.in-None.ensures.value)
