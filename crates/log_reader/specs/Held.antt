-- The struct that holds a log: the struct from the model's entries, and the entries from the struct. No promise names it.
use Rattle.std.specs.Prelude.{List, ◌++◌, ℕ, ◌-◌, length, take, replicate, Result, Ok, Err}
use Rattle.limits.specs.Limits.{most_log_entries}
use Rattle.refusals.specs.declared.Refusal.{Refusal}
use Rattle.numbers.specs.Field.{Parse, refused, accepted}
use Rattle.logs.specs.declared.Entry.{Entry}
use Rattle.logs.specs.Log.{no_entry}
use Rattle.logs.specs.Columns.{Given}
use Rattle.log_reader.specs.declared.Log.{Log}

-- entries in the log's order, then zeros
abbrev pub filled : List Entry → List Entry
filled es = es ++ replicate (most_log_entries - length es) no_entry

unfoldable pub held : List Entry → Log
held es = record { count = length es; entries = filled es }

-- the log that a struct holds
unfoldable pub model_of : Log → List Entry
model_of log = take log.count log.entries

-- a struct that holds a log that was read
abbrev pub GivenLog : ℕ → Log → Type 0
GivenLog links log = Given links (model_of log)

-- what the code's reader answers
unfoldable pub log_answer : Parse (List Entry) → Result Log Refusal
log_answer (refused e) = Err e
log_answer (accepted es rest) = Ok (held es)
