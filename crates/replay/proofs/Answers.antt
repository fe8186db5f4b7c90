-- The answer of a replay, one law for each way through the code: the definition, rewritten by what was read and found. Assumes nothing.
use mathlib.Core.Path.{◌≡◌, refl, sym, ap, ap₂, subst⁻¹, ◌∙◌}
use mathlib.Core.List.{List, []}
use mathlib.Core.Bool.{Bool, true, false}
use Prim.Native.Nat.{ℕ, suc}
use Rattle.std.specs.Prelude.{Result, Ok, Err}
use Rattle.refusals.specs.declared.Refusal.{Refusal}
use Rattle.numbers.specs.Field.{Parse, refused, accepted}
use Rattle.flows.specs.Network as model
use Rattle.flows.specs.Flow.{delivered}
use Rattle.network.specs.declared.Network.{Network}
use Rattle.network.specs.Record.{read_network}
use Rattle.network.specs.Held as network
use Rattle.network.proofs.Model.{count_model}
use Rattle.network.proofs.Answers as networks
use Rattle.logs.specs.declared.Entry.{Entry}
use Rattle.logs.specs.Log.{logged, last_slot}
use Rattle.logs.specs.Finding.{overfull, oversent, finding, figure}
use Rattle.logs.specs.Record.{read_log}
use Rattle.logs.proofs.Findings.{finding_one, finding_two, finding_zero, figure_one, figure_two, figure_zero}
use Rattle.replay.specs.declared.Finding.{Finding}
use Rattle.replay.specs.declared.Finding.TheVariants.{Kept, Overfull, Oversent}
use Rattle.replay.specs.Replay.{number_of_finding, figure_of_finding, found, replayed_log, replayed_for, replayed}
use Rattle.replay.specs.Told.{LogNumbers, NumbersFor}

-- the numbers of what is found are the finding's number and the figure
pub found_numbers : (N : model.Network) (es : List Entry)
    → (number_of_finding (found (finding N es) (figure N es)) ≡ finding N es) × (figure_of_finding (found (finding N es) (figure N es)) ≡ figure N es)
found_numbers N es = go (overfull N es) (oversent N es) refl refl
  where
    go : (a b : Bool) → overfull N es ≡ a → oversent N es ≡ b
        → (number_of_finding (found (finding N es) (figure N es)) ≡ finding N es) × (figure_of_finding (found (finding N es) (figure N es)) ≡ figure N es)
    go true b e f = let q = finding_one N es e in rw (q, figure_one N es q) (refl, refl)
    go false true e f = let q = finding_two N es e f in rw (q, figure_two N es q) (refl, refl)
    go false false e f = let q = finding_zero N es e f in rw q (refl, refl)

log_numbers : (N : model.Network) (x : Parse (List Entry)) → LogNumbers N x (replayed_log N x)
unfolding replayed_log
log_numbers N (refused e) = record { refusal_number = refl; finding_number = refl; delivered_number = refl }
log_numbers N (accepted es rest) =
    let n = found_numbers N es in
    record { refusal_number = refl; finding_number = n.0; delivered_number = n.1 }

numbers_for : (x : Parse model.Network) (log : List ℕ) → NumbersFor x log (replayed_for x log)
unfolding replayed_for
numbers_for (refused e) log = record { refusal_number = refl; finding_number = refl; delivered_number = refl }
numbers_for (accepted N rest) log = log_numbers N (read_log (model.count N) log)

-- the answer that `replayed` names has the numbers that are promised
pub promised : (octets log : List ℕ) (answer : Result Finding Refusal) → answer ≡ replayed octets log → NumbersFor (read_network octets) log answer
unfolding replayed
promised octets log answer e = subst⁻¹ (NumbersFor (read_network octets) log) e (numbers_for (read_network octets) log)

module _ (s t : List ℕ) where
  pub replayed_refused : (e : Refusal) → read_network s ≡ refused e → Err e ≡ replayed s t
  unfolding replayed replayed_for
  replayed_refused e w = rw w

  module _ (net : Network) (n : networks.WasRead s net) where
    -- the log is read by the count in the network's struct
    read_by_count : read_log (model.count (network.model_of net)) t ≡ read_log net.count t
    read_by_count = ap (λ (links : ℕ). read_log links t) (count_model net)

    pub replayed_log_refused : (e : Refusal) → read_log net.count t ≡ refused e → Err e ≡ replayed s t
    unfolding replayed replayed_for replayed_log
    replayed_log_refused e w = rw (n.reads, read_by_count, w)

    module _ (es : List Entry) (reads : read_log net.count t ≡ accepted es []) where
      answer_is : Ok (found (finding (network.model_of net) es) (figure (network.model_of net) es)) ≡ replayed s t
      unfolding replayed replayed_for replayed_log
      answer_is = rw (n.reads, read_by_count, reads)

      pub found_1 : overfull (network.model_of net) es ≡ true → Ok Overfull ≡ replayed s t
      found_1 e =
          let f = finding_one (network.model_of net) es e in
          ap (λ (n : ℕ). Ok (found n (figure (network.model_of net) es))) (sym f) ∙ answer_is

      module _ (kept : overfull (network.model_of net) es ≡ false) where
        pub found_2 : oversent (network.model_of net) es ≡ true → Ok Oversent ≡ replayed s t
        found_2 e =
            let f = finding_two (network.model_of net) es kept e in
            ap (λ (n : ℕ). Ok (found n (figure (network.model_of net) es))) (sym f) ∙ answer_is

        pub found_0 : (d : ℕ) → d ≡ delivered (network.model_of net) (suc (last_slot es)) (logged es)
            → oversent (network.model_of net) es ≡ false → Ok (Kept d) ≡ replayed s t
        found_0 d is e =
            let f = finding_zero (network.model_of net) es kept e in
            ap₂ (λ (n x : ℕ). Ok (found n x)) (sym f) (is ∙ sym (figure_zero (network.model_of net) es f)) ∙ answer_is
