-- What `network_reader::read` promises of the struct, told of the table: a struct that was read holds its network, so its table is the
-- network's. Assumes nothing.
use mathlib.Core.Path.{◌≡◌, refl, ap, ◌∙◌}
use mathlib.Core.List.{List}
use Prim.Native.Nat.{ℕ}
use Rattle.std.specs.Prelude.{Ok, Err}
use Rattle.refusals.specs.declared.Refusal.{Refusal}
use Rattle.refusals.specs.Numbers.{number_of}
use Rattle.limits.specs.Limits.{most_links}
use Rattle.network.specs.declared.Network.{Network}
use Rattle.network.specs.Record.{read_network}
use Rattle.network.specs.Held.{model_of, read_answer}
use Rattle.network.proofs.Answers.{was_refused, was_read}
use Rattle.tables.specs.Table.{read_refusal, table_after}
use Rattle.table_writer.specs.Front.{front}
use Rattle.table_writer.proofs.Front.{front_held}

module _ (s before : List ℕ) where
  pub read_refused : (e : Refusal) → Err e ≡ read_answer (read_network s)
      → (number_of e ≡ read_refusal (read_network s)) × (before ≡ table_after (read_network s) before)
  unfolding read_refusal table_after
  read_refused e h = rw (was_refused s e h) (refl, refl)

  pub read_told : (net : Network) → Ok net ≡ read_answer (read_network s) → (table : List ℕ) → table ≡ front net most_links
      → (0 ≡ read_refusal (read_network s)) × (table ≡ table_after (read_network s) before)
  unfolding read_refusal table_after
  read_told net h table t =
      let w = was_read s net h in
      rw w.reads (
        refl,
        t ∙ ap (λ (n : Network). front n most_links) w.holds ∙ front_held (model_of net) w.well_formed.links_most,
      )
