-- A row read at a position, one law for each way through the code: the parts read so far are accepted, and the next one is refused or
-- read. Assumes nothing.
use mathlib.Core.Path.{◌≡◌, sym, ap, ◌∙◌}
use mathlib.Core.List.{List, []}
use Prim.Native.Nat.{ℕ, ◌-◌, ◌≤◌}
use lib.ListN.{length, take, drop}
use Rattle.std.specs.Prelude.{Ok, Err}
use Rattle.limits.specs.Limits.{fewest_row_links, most_row_links, longest_length, least_rate, most_rate, least_departures, latest_first, most_departures}
use Rattle.refusals.specs.declared.Refusal.{Refusal}
use Rattle.numbers.specs.declared.Part.{Part}
use Rattle.numbers.specs.Field.{Parse, and_then}
use Rattle.numbers.specs.Position.{field_answer}
use Rattle.numbers.proofs.Many.{run_length}
use Rattle.numbers.proofs.Parts.{PartRead, Holds, part_refused, answer_refused, answer_accepted}
use Rattle.flows.specs.Rows as rows
use Rattle.plans.specs.declared.Row.{Row}
use Rattle.plans.specs.Record.{number, read_numbers, read_tail, read_row}
use Rattle.plans.specs.Held.{padded, held_row}
use Rattle.plans.proofs.Parts.{numbers_run}
use Rattle.plans.proofs.Model.{take_padded}
use Rattle.plan_parts.specs.Cursor.{chain_answer, row_answer}
use Rattle.plan_parts.proofs.Cursor.{number_part, number_high, numbers_part}

----- The links of a row, each part from the position after the one before it

module _ (s : List ℕ) (start links : ℕ) where
  pub stops₁ : (e : Refusal) → Err e ≡ field_answer (length s) (number fewest_row_links most_row_links (drop start s))
      → Err e ≡ row_answer (length s) (read_row links (drop start s))
  unfolding read_row and_then
  stops₁ e h =
      answer_refused held_row _ _ _ (rw (part_refused (λ n. n) (length s) (number fewest_row_links most_row_links (drop start s)) e h))

  module _ (count : Part ℕ) (counted : Ok count ≡ field_answer (length s) (number fewest_row_links most_row_links (drop start s))) where
    abbrev numbers : Parse (List ℕ)
    numbers = read_numbers count.value 0 (links - 1) (drop count.next s) []

    pub count_read : PartRead s (number fewest_row_links most_row_links (drop start s)) count.value count.next
    count_read = number_part s start fewest_row_links most_row_links count counted

    pub count_high : count.value ≤ most_row_links
    count_high = number_high s start fewest_row_links most_row_links count counted

    pub stops₂ : (e : Refusal) → Err e ≡ chain_answer (length s) numbers → Err e ≡ row_answer (length s) (read_row links (drop start s))
    unfolding read_row and_then
    stops₂ e h =
        answer_refused held_row _ _ _ (rw (count_read.accepts, part_refused (padded most_row_links) (length s) numbers e h))

    module _ (chain : Part (List ℕ)) (chained : Ok chain ≡ chain_answer (length s) numbers) where
      chain_read : Holds (padded most_row_links) s numbers chain.value chain.next
      chain_read = numbers_part (padded most_row_links) s count.next count.value 0 (links - 1) chain count_read.inside chained

      many : count.value ≡ length chain_read.part
      many = sym (run_length _ (numbers_run count.value 0 (links - 1) (drop count.next s) chain_read.part (drop chain.next s) chain_read.read.accepts))

      kept : take count.value chain.value ≡ chain_read.part
      kept = ap (take count.value) chain_read.held ∙ take_padded most_row_links chain_read.part count.value (sym many)

      -- the links are kept as the row's struct keeps them
      pub links_kept : (chain.value ≡ padded most_row_links (take count.value chain.value)) × (count.value ≡ length (take count.value chain.value))
      links_kept = (chain_read.held ∙ ap (padded most_row_links) (sym kept), many ∙ ap length (sym kept))

      -- and the row goes on with its tail
      pub tail_follows : read_tail (take count.value chain.value) (drop chain.next s) ≡ read_row links (drop start s)
      unfolding read_row and_then
      tail_follows = rw (kept, count_read.accepts, chain_read.read.accepts)

----- The tail of a row with these links

module _ (s : List ℕ) (at : ℕ) (es : List ℕ) where
  abbrev Stops : Refusal → Type 0
  Stops e = Err e ≡ row_answer (length s) (read_tail es (drop at s))

  pub stops₃ : (e : Refusal) → Err e ≡ field_answer (length s) (number 0 longest_length (drop at s)) → Stops e
  unfolding read_tail and_then
  stops₃ e h = answer_refused held_row _ _ _ (rw (part_refused (λ n. n) (length s) (number 0 longest_length (drop at s)) e h))

  module _ (long : Part ℕ) (measured : Ok long ≡ field_answer (length s) (number 0 longest_length (drop at s))) where
    length_read : PartRead s (number 0 longest_length (drop at s)) long.value long.next
    length_read = number_part s at 0 longest_length long measured

    pub stops₄ : (e : Refusal) → Err e ≡ field_answer (length s) (number least_rate most_rate (drop long.next s)) → Stops e
    unfolding read_tail and_then
    stops₄ e h =
        answer_refused held_row _ _ _
        (rw (length_read.accepts, part_refused (λ n. n) (length s) (number least_rate most_rate (drop long.next s)) e h))

    module _ (rate : Part ℕ) (rated : Ok rate ≡ field_answer (length s) (number least_rate most_rate (drop long.next s))) where
      rate_read : PartRead s (number least_rate most_rate (drop long.next s)) rate.value rate.next
      rate_read = number_part s long.next least_rate most_rate rate rated

      pub stops₅ : (e : Refusal) → Err e ≡ field_answer (length s) (number 0 latest_first (drop rate.next s)) → Stops e
      unfolding read_tail and_then
      stops₅ e h =
          answer_refused held_row _ _ _
          (rw (length_read.accepts, rate_read.accepts, part_refused (λ n. n) (length s) (number 0 latest_first (drop rate.next s)) e h))

      module _ (first : Part ℕ) (begun : Ok first ≡ field_answer (length s) (number 0 latest_first (drop rate.next s))) where
        first_read : PartRead s (number 0 latest_first (drop rate.next s)) first.value first.next
        first_read = number_part s rate.next 0 latest_first first begun

        pub stops₆ : (e : Refusal) → Err e ≡ field_answer (length s) (number least_departures most_departures (drop first.next s)) → Stops e
        unfolding read_tail and_then
        stops₆ e h =
            answer_refused held_row _ _ _
            (rw (
              length_read.accepts,
              rate_read.accepts,
              first_read.accepts,
              part_refused (λ n. n) (length s) (number least_departures most_departures (drop first.next s)) e h,
            ))

        -- the whole row, whose struct has these links and so many of them
        module _ (departures : Part ℕ) (left : Ok departures ≡ field_answer (length s) (number least_departures most_departures (drop first.next s))) where
          departures_read : PartRead s (number least_departures most_departures (drop first.next s)) departures.value departures.next
          departures_read = number_part s first.next least_departures most_departures departures left

          abbrev row : rows.Row
          row = record { links = es; length = long.value; rate = rate.value; first = first.value; departures = departures.value }

          read : Ok (record { value = held_row row; next = departures.next }) ≡ row_answer (length s) (read_tail es (drop at s))
          unfolding read_tail and_then
          read =
              answer_accepted held_row s _ row departures.next
              (rw (length_read.accepts, rate_read.accepts, first_read.accepts, departures_read.accepts)) departures_read.inside

          pub reads_row : (chain : List ℕ) (count : ℕ) → (chain ≡ padded most_row_links es) × (count ≡ length es)
              → Ok (record {
                value = record {
                  links = chain;
                  count = count;
                  length = long.value;
                  rate = rate.value;
                  first = first.value;
                  departures = departures.value;
                };
                next = departures.next;
              })
              ≡ row_answer (length s) (read_tail es (drop at s))
          unfolding held_row
          reads_row chain count k =
              let held : record { links = chain; count = count; length = long.value; rate = rate.value; first = first.value; departures = departures.value }
              ≡ held_row row =
              λ j. record { links = k.0 j; count = k.1 j; length = long.value; rate = rate.value; first = first.value; departures = departures.value } in
              ap (λ (r : Row). Ok (record { value = r; next = departures.next })) held ∙ read
