-- A plan read from its record, one law for each way through the code: the copy of the network's record and the parts read so far are
-- accepted, and the next one is refused or read. The reader stands at r₀, then r₁ and so on, always in one record. Assumes nothing.
use mathlib.Core.Path.{◌≡◌, sym, ap, ◌∙◌}
use mathlib.Core.List.{List, []}
use Prim.Native.Nat.{ℕ, ◌≤◌, ◌<◌}
use native.Mathlib.Omega.{arith}
use lib.ListN.{length, drop}
use borrow.Author.Tests.{eq-eqb, ne_eqb}
use Rattle.std.specs.Prelude.{Result, Ok, Err}
use Rattle.std.proofs.Common.{Bor}
use Rattle.limits.specs.Limits.{least_amount, most_amount, least_plan_horizon, most_places, fewest_rows, most_rows, longest_plan_horizon, most_cut_number}
use Rattle.refusals.specs.declared.Refusal.{Refusal}
use Rattle.refusals.specs.declared.Refusal.TheVariants.{PlanRemains}
use Rattle.numbers.specs.declared.Part.{Part}
use Rattle.numbers.specs.Field.{Parse, refused, accepted, and_then, complete}
use Rattle.numbers.specs.Numbered.{by_number}
use Rattle.numbers.specs.Position.{part_answer, field_answer}
use Rattle.numbers.proofs.Many.{run_length}
use Rattle.numbers.proofs.Parts.{PartRead, Holds, part_read, part_refused}
use Rattle.flows.specs.Plan as model
use Rattle.flows.specs.Rows as model_rows
use Rattle.plans.specs.declared.Row.{Row}
use Rattle.plans.specs.Record.{number, read_numbers, read_rows, read_plan}
use Rattle.plans.specs.Carried.{read_copy, read_carrying}
use Rattle.plans.specs.Held.{padded, held_rows, held, read_answer}
use Rattle.plan_parts.specs.Cursor.{cut_answer}
use Rattle.plan_reader.specs.declared.PlanReader.{PlanReader}
use Rattle.plan_reader.specs.Rows.{rows_answer}
use Rattle.plans.proofs.Parts.{rows_run}
use Rattle.plans.proofs.Carried.{copy_proper}
use Rattle.plan_parts.proofs.Cursor.{number_part, number_high, numbers_part}
use Rattle.plan_reader.proofs.Rows.{rows_part}

-- octets are left, or none
complete_more : {A : Type 0} (refusal : Refusal) (a : A) (s : List ℕ) (left : ℕ) → left ≡ length s → 0 < left → complete refusal a s ≡ refused refusal
unfolding complete
complete_more refusal a s left e h = rw (ne_eqb (length s) 0 (λ z. omega arith))

complete_none : {A : Type 0} (refusal : Refusal) (a : A) (s : List ℕ) (left : ℕ) → left ≡ length s → left ≤ 0 → complete refusal a s ≡ accepted a s
unfolding complete
complete_none refusal a s left e h = rw (eq-eqb (length s) 0 (omega arith))

-- what is told of a part at a position of the reader's record is told of the plan's
told_at : {A B : Type 0} (hold : A → B) (part : List ℕ → Parse A) (at : ℕ) (octets plan : Bor (List ℕ)) (x : Result (Part B) Refusal) → octets ≡ plan
    → x ≡ part_answer hold (length octets.now) (part (drop at octets.now)) → x ≡ part_answer hold (length plan.now) (part (drop at plan.now))
told_at hold part at octets plan x e h = h ∙ ap (λ (o : Bor (List ℕ)). part_answer hold (length o.now) (part (drop at o.now))) e

-- what was read after a part is in the scope of that part
module _ (network : List ℕ) (plan : Bor (List ℕ)) (places links : ℕ) (r₀ : PlanReader) (made : r₀ ≡ record { octets = plan; at = 0 }) where
  abbrev s : List ℕ
  s = plan.now

  abbrev Stops : Refusal → Type 0
  Stops e = Err e ≡ read_answer (read_carrying network places links s)

  stops : (e : Refusal) → read_carrying network places links s ≡ refused e → Stops e
  unfolding read_answer
  stops e h = sym (ap read_answer h)

  in_plan₀ : r₀.octets ≡ plan
  in_plan₀ = ap (λ (r : PlanReader). r.octets) made

  told₀ : (x : Result (Part ℕ) Refusal) → x ≡ field_answer (length r₀.octets.now) (read_copy network (drop r₀.at r₀.octets.now))
      → x ≡ field_answer (length s) (read_copy network s)
  told₀ x h = h ∙ ap (λ (r : PlanReader). field_answer (length r.octets.now) (read_copy network (drop r.at r.octets.now))) made

  pub stops₀ : (e : Refusal) → Err e ≡ field_answer (length r₀.octets.now) (read_copy network (drop r₀.at r₀.octets.now)) → Stops e
  unfolding read_carrying and_then
  stops₀ e h = stops e (rw (part_refused (λ n. n) (length s) (read_copy network s) e (told₀ _ h)))

  module _ (copy : ℕ) (r₁ : PlanReader)
      (copied : Ok (record { value = copy; next = r₁.at }) ≡ field_answer (length r₀.octets.now) (read_copy network (drop r₀.at r₀.octets.now)))
      (same₁ : r₁.octets ≡ r₀.octets) where
    in_plan₁ : r₁.octets ≡ plan
    in_plan₁ = same₁ ∙ in_plan₀

    copy_read : Holds (λ n. n) s (read_copy network s) copy r₁.at
    copy_read =
        part_read (λ n. n) s 0 (read_copy network s) (record { value = copy; next = r₁.at }) (told₀ _ copied) (omega arith) (copy_proper network s)

    pub stops₁ : (e : Refusal) → Err e ≡ field_answer (length r₁.octets.now) (number least_amount most_amount (drop r₁.at r₁.octets.now)) → Stops e
    unfolding read_carrying read_plan and_then
    stops₁ e h =
        stops e
        (rw (
          copy_read.read.accepts,
          part_refused (λ n. n) (length s) (number least_amount most_amount (drop r₁.at s)) e
              (told_at (λ n. n) (number least_amount most_amount) r₁.at _ _ _ in_plan₁ h),
        ))

    module _ (amount : ℕ) (r₂ : PlanReader)
        (asked : Ok (record { value = amount; next = r₂.at }) ≡ field_answer (length r₁.octets.now) (number least_amount most_amount (drop r₁.at r₁.octets.now)))
        (same₂ : r₂.octets ≡ r₁.octets) where
      in_plan₂ : r₂.octets ≡ plan
      in_plan₂ = same₂ ∙ in_plan₁

      amount_read : PartRead s (number least_amount most_amount (drop r₁.at s)) amount r₂.at
      amount_read =
          number_part s r₁.at least_amount most_amount (record { value = amount; next = r₂.at })
          (told_at (λ n. n) (number least_amount most_amount) r₁.at _ _ _ in_plan₁ asked)

      pub stops₂ : (e : Refusal) → Err e ≡ field_answer (length r₂.octets.now) (number least_plan_horizon longest_plan_horizon (drop r₂.at r₂.octets.now)) → Stops e
      unfolding read_carrying read_plan and_then
      stops₂ e h =
          stops e
          (rw (
            copy_read.read.accepts,
            amount_read.accepts,
            part_refused (λ n. n) (length s) (number least_plan_horizon longest_plan_horizon (drop r₂.at s)) e
                (told_at (λ n. n) (number least_plan_horizon longest_plan_horizon) r₂.at _ _ _ in_plan₂ h),
          ))

      module _ (horizon : ℕ) (r₃ : PlanReader)
          (timed : Ok (record { value = horizon; next = r₃.at }) ≡ field_answer (length r₂.octets.now) (number least_plan_horizon longest_plan_horizon (drop r₂.at r₂.octets.now)))
          (same₃ : r₃.octets ≡ r₂.octets) where
        in_plan₃ : r₃.octets ≡ plan
        in_plan₃ = same₃ ∙ in_plan₂

        horizon_read : PartRead s (number least_plan_horizon longest_plan_horizon (drop r₂.at s)) horizon r₃.at
        horizon_read =
            number_part s r₂.at least_plan_horizon longest_plan_horizon (record { value = horizon; next = r₃.at })
            (told_at (λ n. n) (number least_plan_horizon longest_plan_horizon) r₂.at _ _ _ in_plan₂ timed)

        pub cut_inside : r₃.at ≤ length r₃.octets.now
        cut_inside = rw in_plan₃ horizon_read.inside

        abbrev numbers : List ℕ → Parse (List ℕ)
        numbers t = read_numbers places 0 most_cut_number t []

        pub stops₃ : (e : Refusal) → Err e ≡ cut_answer (length r₃.octets.now) (numbers (drop r₃.at r₃.octets.now)) → Stops e
        unfolding read_carrying read_plan and_then
        stops₃ e h =
            stops e
            (rw (
              copy_read.read.accepts,
              amount_read.accepts,
              horizon_read.accepts,
              part_refused (padded most_places) (length s) (numbers (drop r₃.at s)) e (told_at (padded most_places) numbers r₃.at _ _ _ in_plan₃ h),
            ))

        module _ (cut : List ℕ) (r₄ : PlanReader)
            (cuts : Ok (record { value = cut; next = r₄.at }) ≡ cut_answer (length r₃.octets.now) (numbers (drop r₃.at r₃.octets.now)))
            (same₄ : r₄.octets ≡ r₃.octets) where
          in_plan₄ : r₄.octets ≡ plan
          in_plan₄ = same₄ ∙ in_plan₃

          cut_read : Holds (padded most_places) s (numbers (drop r₃.at s)) cut r₄.at
          cut_read =
              numbers_part (padded most_places) s r₃.at places 0 most_cut_number (record { value = cut; next = r₄.at }) horizon_read.inside
              (told_at (padded most_places) numbers r₃.at _ _ _ in_plan₃ cuts)

          pub stops₄ : (e : Refusal) → Err e ≡ field_answer (length r₄.octets.now) (number fewest_rows most_rows (drop r₄.at r₄.octets.now)) → Stops e
          unfolding read_carrying read_plan and_then
          stops₄ e h =
              stops e
              (rw (
                copy_read.read.accepts,
                amount_read.accepts,
                horizon_read.accepts,
                cut_read.read.accepts,
                part_refused (λ n. n) (length s) (number fewest_rows most_rows (drop r₄.at s)) e
                    (told_at (λ n. n) (number fewest_rows most_rows) r₄.at _ _ _ in_plan₄ h),
              ))

          module _ (count : ℕ) (r₅ : PlanReader)
              (counted : Ok (record { value = count; next = r₅.at }) ≡ field_answer (length r₄.octets.now) (number fewest_rows most_rows (drop r₄.at r₄.octets.now)))
              (same₅ : r₅.octets ≡ r₄.octets) where
            in_plan₅ : r₅.octets ≡ plan
            in_plan₅ = same₅ ∙ in_plan₄

            counted_at : Ok (record { value = count; next = r₅.at }) ≡ field_answer (length s) (number fewest_rows most_rows (drop r₄.at s))
            counted_at = told_at (λ n. n) (number fewest_rows most_rows) r₄.at _ _ _ in_plan₄ counted

            count_read : PartRead s (number fewest_rows most_rows (drop r₄.at s)) count r₅.at
            count_read = number_part s r₄.at fewest_rows most_rows (record { value = count; next = r₅.at }) counted_at

            pub rows_inside : r₅.at ≤ length r₅.octets.now
            rows_inside = rw in_plan₅ count_read.inside

            pub count_high : count ≤ most_rows
            count_high = number_high s r₄.at fewest_rows most_rows (record { value = count; next = r₅.at }) counted_at

            abbrev rows : List ℕ → Parse (List model_rows.Row)
            rows t = read_rows count links t []

            pub stops₅ : (e : Refusal) → Err e ≡ rows_answer (length r₅.octets.now) (rows (drop r₅.at r₅.octets.now)) → Stops e
            unfolding read_carrying read_plan and_then
            stops₅ e h =
                stops e
                (rw (
                  copy_read.read.accepts,
                  amount_read.accepts,
                  horizon_read.accepts,
                  cut_read.read.accepts,
                  count_read.accepts,
                  part_refused held_rows (length s) (rows (drop r₅.at s)) e (told_at held_rows rows r₅.at _ _ _ in_plan₅ h),
                ))

            module _ (all : List Row) (r₆ : PlanReader)
                (filled : Ok (record { value = all; next = r₆.at }) ≡ rows_answer (length r₅.octets.now) (rows (drop r₅.at r₅.octets.now)))
                (same₆ : r₆.octets ≡ r₅.octets)
                (left : ℕ) (remain : left ≡ length (drop r₆.at r₆.octets.now)) where
              rows_read : Holds held_rows s (rows (drop r₅.at s)) all r₆.at
              rows_read =
                  rows_part s r₅.at count links (record { value = all; next = r₆.at }) count_read.inside
                  (told_at held_rows rows r₅.at _ _ _ in_plan₅ filled)

              left_over : left ≡ length (drop r₆.at s)
              left_over = remain ∙ ap (λ (o : Bor (List ℕ)). length (drop r₆.at o.now)) (same₆ ∙ in_plan₅)

              abbrev read : model.Plan
              read = record { amount = amount; horizon = horizon; cut = cut_read.part; rows = rows_read.part }

              -- all parts are read
              parts_read : read_carrying network places links s ≡ complete PlanRemains read (drop r₆.at s)
              unfolding read_carrying read_plan and_then
              parts_read =
                  rw (
                    copy_read.read.accepts,
                    amount_read.accepts,
                    horizon_read.accepts,
                    cut_read.read.accepts,
                    count_read.accepts,
                    rows_read.read.accepts,
                  )

              -- octets remain
              octets_remain : 0 < left → read_carrying network places links s ≡ refused PlanRemains
              octets_remain f = parts_read ∙ complete_more PlanRemains read (drop r₆.at s) left left_over f

              pub stops₆ : 0 < left → by_number (read_carrying network places links s) ≡ refused 18
              stops₆ f = ap by_number (octets_remain f)

              pub remains : 0 < left → Stops PlanRemains
              remains f = stops PlanRemains (octets_remain f)

              -- the whole plan
              pub reads_plan : left ≤ 0
                  → Ok (record { amount = amount; horizon = horizon; cut = cut; count = count; rows = all })
                  ≡ read_answer (read_carrying network places links s)
              unfolding read_answer held held_rows
              reads_plan f =
                  let n : count ≡ length rows_read.part =
                  sym (run_length _ (rows_run count links (drop r₅.at s) rows_read.part (drop r₆.at s) rows_read.read.accepts)) in
                  (λ j. Ok (record { amount = amount; horizon = horizon; cut = cut_read.held j; count = n j; rows = rows_read.held j }))
                  ∙ sym (ap read_answer (parts_read ∙ complete_none PlanRemains read (drop r₆.at s) left left_over f))
