-- "Most by a horizon": what the operation promises for every input.
use Rattle.std.specs.Prelude.{◌≡◌, List, cond, ℕ, length, take, drop, ltb, Result, Ok, Err}
use Rattle.refusals.specs.declared.Refusal.{Refusal}
use Rattle.refusals.specs.declared.Refusal.TheVariants.{HorizonLimits, CutShort}
use Rattle.std.specs.Result.{result_unwrap_or}
use Rattle.refusals.specs.Numbers.{number_of, told}
use Rattle.limits.specs.Limits.{longest_horizon}
use Rattle.numbers.specs.Field.{Parse, refused, accepted}
use Rattle.flows.specs.Network.{Network}
use Rattle.flows.specs.Flow.{Most}
use Rattle.flows.specs.Holding.{MostUnheld}
use Rattle.flows.specs.Cut.{IsCut, bound}
use Rattle.network.specs.Record.{read_network}

-- "9 horizon above 100,063,000; 10 fewer numbers lent for the cut than there are places"; or neither
unfoldable pub refusal_after : Network → ℕ → ℕ → Result (Unit {0}) Refusal
refusal_after N horizon lent = cond (ltb longest_horizon horizon) (Err HorizonLimits) (cond (ltb lent N.places) (Err CutShort) (Ok tt))

-- "the answer is the most blocks, with a cut for that horizon whose bound equals it, one number per place; further numbers lent stay";
-- and it is the most of the flows that hold nothing too. "A refused call gives its number, 0 in every other number of the answer"
pub record Answered (N : Network) (horizon : ℕ) (before after : List ℕ) (answer : Result ℕ Refusal) : Type 0 where
  pub most : ℕ
  pub blocks : answer ≡ Ok most
  pub refusal_number : told answer ≡ 0
  pub blocks_number : result_unwrap_or answer 0 ≡ most
  pub is_most : Most N horizon most
  pub is_most_unheld : MostUnheld N horizon most
  pub is_cut : IsCut N horizon (take N.places after)
  pub proves : bound N (take N.places after) ≡ most
  pub rest : drop N.places after ≡ drop N.places before
  pub size : length after ≡ length before

-- a refusal by its number, with the numbers lent as they were
pub record RefusedWith (refusal : Refusal) (before after : List ℕ) (answer : Result ℕ Refusal) : Type 0 where
  pub number : answer ≡ Err refusal
  pub refusal_number : told answer ≡ number_of refusal
  pub blocks_number : result_unwrap_or answer 0 ≡ 0
  pub kept : after ≡ before

abbrev pub Decided : Network → ℕ → List ℕ → List ℕ → Result ℕ Refusal → Result (Unit {0}) Refusal → Type 0
Decided N horizon before after answer (Ok x) = Answered N horizon before after answer
Decided N horizon before after answer (Err e) = RefusedWith e before after answer

abbrev pub PromisedOf : Parse Network → ℕ → List ℕ → List ℕ → Result ℕ Refusal → Type 0
PromisedOf (refused e) horizon before after answer = RefusedWith e before after answer
PromisedOf (accepted N rest) horizon before after answer =
    Decided N horizon before after answer (refusal_after N horizon (length before))

-- what `most` promises, for every record, horizon and list lent
abbrev pub Promised : List ℕ → ℕ → List ℕ → List ℕ → Result ℕ Refusal → Type 0
Promised network horizon before after answer = PromisedOf (read_network network) horizon before after answer
