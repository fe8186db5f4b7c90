-- The structs that hold a row and a plan: the model's values from the structs, and the structs from the model's values.
use Rattle.std.specs.Prelude.{List, [], ◌∷◌, ◌++◌, map, ℕ, zero, suc, ◌-◌, length, get_or, take, replicate, Result, Ok, Err}
use Rattle.limits.specs.Limits.{most_places, most_rows, most_row_links}
use Rattle.refusals.specs.declared.Refusal.{Refusal}
use Rattle.numbers.specs.Field.{Parse, refused, accepted}
use Rattle.flows.specs.Rows as rows
use Rattle.flows.specs.Plan as model
use Rattle.plans.specs.declared.Row.{Row}
use Rattle.plans.specs.declared.Plan.{Plan}

-- an array of n numbers that begins with these and goes on with zeros
abbrev pub padded : ℕ → List ℕ → List ℕ
padded n xs = xs ++ replicate (n - length xs) 0

unfoldable pub held_row : rows.Row → Row
held_row r = record {
  links = padded most_row_links r.links;
  count = length r.links;
  length = r.length;
  rate = r.rate;
  first = r.first;
  departures = r.departures;
}

-- the row of all zeros
unfoldable pub no_row : Row
no_row = record { links = replicate most_row_links 0; count = 0; length = 0; rate = 0; first = 0; departures = 0 }

-- an array of rows that begins with these and goes on with rows of zeros
unfoldable pub held_rows : List rows.Row → List Row
held_rows rs = map held_row rs ++ replicate (most_rows - length rs) no_row

unfoldable pub held : model.Plan → Plan
held p = record {
  amount = p.amount;
  horizon = p.horizon;
  cut = padded most_places p.cut;
  count = length p.rows;
  rows = map held_row p.rows ++ replicate (most_rows - length p.rows) no_row;
}

-- the row that a struct holds
abbrev pub row_of : Row → rows.Row
row_of r = record { links = take r.count r.links; length = r.length; rate = r.rate; first = r.first; departures = r.departures }

-- what stands past the end of an array of rows, as the logic has it
abbrev pub past : Row
past = record { links = []; count = 0; length = 0; rate = 0; first = 0; departures = 0 }

-- the first n rows of a struct
abbrev pub rows_below : Plan → ℕ → List rows.Row
rows_below plan zero = []
rows_below plan (suc n) = rows_below plan n ++ (row_of (get_or plan.rows n past) ∷ [])

-- the plan that a struct holds, for a network with this number of places
unfoldable pub model_of : ℕ → Plan → model.Plan
model_of places plan = record {
  amount = plan.amount;
  horizon = plan.horizon;
  cut = take places plan.cut;
  rows = rows_below plan plan.count;
}

-- what reading answers
unfoldable pub read_answer : Parse model.Plan → Result Plan Refusal
read_answer (refused e) = Err e
read_answer (accepted p rest) = Ok (held p)
