-- Sums over a log's entries: what they say entered a link, left a place and arrived at it before a slot, each as one sum over the
-- entries, by exchanging two sums. Over any columns L (links or places), S (slots) and B (blocks) of n entries. Assumes nothing.
use mathlib.Core.Path.{◌≡◌, sym, ap, ap₂, ◌∙◌}
use Prim.Native.Nat.{ℕ, zero, suc, ◌≤◌, ◌<◌, zero-le}
use native.Mathlib.Nat.{le_refl}
use native.Mathlib.Omega.{arith}
use native.Mathlib.Decide.{ℕ_discrete, dec_lt}
use borrow.Author.Tests.{lt-ltb, le-ltb}
use Rattle.flows.specs.Sums.{sum, only, gather}
use Rattle.logs.specs.Columns.{earlier, puts}
use Rattle.flows.proofs.Sums.{sum_eq, sum_le, sum_mono, sum_swap, only_same, only_other, only_sum, only_zero, only_most, gather_one, gather_eq}

pub earlier_yes : (s k x : ℕ) → s < k → earlier s k x ≡ x
unfolding earlier
earlier_yes s k x h = rw (lt-ltb s k h)

pub earlier_no : (s k x : ℕ) → k ≤ s → earlier s k x ≡ 0
unfolding earlier
earlier_no s k x h = rw (le-ltb s k h)

pub earlier_most : (s k x : ℕ) → earlier s k x ≤ x
earlier_most s k x = elim (dec_lt s k) [ yes h ↦ omega (arith, earlier_yes s k x h) | no h ↦ omega (arith, earlier_no s k x (omega arith)) ]

pub earlier_grows : (s j k x : ℕ) → j ≤ k → earlier s j x ≤ earlier s k x
earlier_grows s j k x p =
    elim (dec_lt s j) [
      | yes h ↦ omega (arith, earlier_yes s j x h, earlier_yes s k x (omega arith))
      | no h ↦ omega (arith, earlier_no s j x (omega arith))
    ]

-- the sum over the slots before k of what is in one slot
pub slots_sum : (s k x : ℕ) → sum (λ t. only s t x) k ≡ earlier s k x
slots_sum s zero x = sym (earlier_no s 0 x zero-le)
slots_sum s (suc k) x =
    elim (ℕ_discrete s k) [
      | yes e ↦
          let here : only s k x ≡ x = rw e (only_same k x) in
          omega (arith, slots_sum s k x, earlier_no s k x (omega arith), earlier_yes s (suc k) x (omega arith), here)
      | no q ↦
          elim (dec_lt s k) [
            | yes h ↦ omega (arith, slots_sum s k x, earlier_yes s k x h, earlier_yes s (suc k) x (omega arith), only_other s k x q)
            | no h ↦ omega (arith, slots_sum s k x, earlier_no s k x (omega arith), earlier_no s (suc k) x (omega arith), only_other s k x q)
          ]
    ]

pub only_le : (a v : ℕ) {x y : ℕ} → x ≤ y → only a v x ≤ only a v y
only_le a v {x} {y} p =
    elim (ℕ_discrete a v) [
      | yes e ↦ rw (e, only_same v x, only_same v y) p
      | no q ↦ omega (arith, only_other a v x q)
    ]

module _ (L S B : ℕ → ℕ) where
  -- what they put at e before slot k
  abbrev pub before : ℕ → ℕ → ℕ → ℕ
  before n e k = sum (λ i. only (L i) e (earlier (S i) k (B i))) n

  pub puts_before : (n e k : ℕ) → sum (λ s. puts L S B n e s) k ≡ before n e k
  puts_before n e k =
      sum_swap (λ s i. only (L i) e (only (S i) s (B i))) k n
      ∙ sum_eq n (λ i p. only_sum (L i) e (λ s. only (S i) s (B i)) k ∙ ap (only (L i) e) (slots_sum (S i) k (B i)))

  -- a place's share of what entries put into links: each link counts where `at` says that it stands
  pub gathers : (at : ℕ → ℕ) (m n : ℕ) (x : ℕ → ℕ → ℕ) (v : ℕ) → ((i : ℕ) → i < n → L i < m)
      → gather at m (λ e. sum (λ i. only (L i) e (x i e)) n) v ≡ sum (λ i. only (at (L i)) v (x i (L i))) n
  unfolding gather
  gathers at m n x v known =
      sum_eq m (λ e p. sym (only_sum (at e) v (λ i. only (L i) e (x i e)) n))
      ∙ sum_swap (λ e i. only (at e) v (only (L i) e (x i e))) m n
      ∙ sum_eq n (λ i p. gather_one at m (L i) (x i) v (known i p))

  -- the same of what they put there before a slot, which may depend on the link
  pub gathers_before : (at : ℕ → ℕ) (m n : ℕ) (k : ℕ → ℕ) (v : ℕ) → ((i : ℕ) → i < n → L i < m)
      → gather at m (λ e. sum (λ s. puts L S B n e s) (k e)) v ≡ sum (λ i. only (at (L i)) v (earlier (S i) (k (L i)) (B i))) n
  gathers_before at m n k v known =
      gather_eq at m v (λ e p. puts_before n e (k e)) ∙ gathers at m n (λ i e. earlier (S i) (k e) (B i)) v known

  -- ---- tests at entries, one after another

  -- where what the entries up to each put at its place in its slot is within a limit, all of it is
  pub within_all : (limit : ℕ → ℕ) (n : ℕ) → ((i : ℕ) → i < n → puts L S B (suc i) (L i) (S i) ≤ limit (L i)) → (e s : ℕ) → puts L S B n e s ≤ limit e
  within_all limit zero h e s = zero-le
  within_all limit (suc n) h e s =
      let prior = within_all limit n (λ i p. h i (omega arith)) e s in
      elim (ℕ_discrete (L n) e) [
        | no q ↦ omega (arith, prior, only_other (L n) e (only (S n) s (B n)) q)
        | yes q ↦
            elim (ℕ_discrete (S n) s) [
              | no r ↦ omega (arith, prior, only_most (L n) e (only (S n) s (B n)), only_other (S n) s (B n) r)
              | yes r ↦ omega (arith, h n (le_refl _), ap₂ (λ (a t : ℕ). puts L S B (suc n) a t) q r, ap limit q)
            ]
      ]

  pub puts_up_to : (i n : ℕ) → i < n → (e s : ℕ) → puts L S B (suc i) e s ≤ puts L S B n e s
  puts_up_to i n p e s = sum_mono (λ j. only (L j) e (only (S j) s (B j))) p

  -- where what the entries up to each take from the place v is within a limit that never falls, all that was taken before a slot is
  pub before_all : (v : ℕ) (limit : ℕ → ℕ) → ((j k : ℕ) → j ≤ k → limit j ≤ limit k) → (n : ℕ)
      → ((i : ℕ) → i < n → sum (λ j. only (L j) v (B j)) (suc i) ≤ limit (suc (S i))) → (k : ℕ) → before n v k ≤ limit k
  before_all v limit rises zero h k = zero-le
  before_all v limit rises (suc n) h k =
      elim (dec_lt (S n) k) [
        | no q ↦
            omega (
              arith,
              before_all v limit rises n (λ i p. h i (omega arith)) k,
              ap (only (L n) v) (earlier_no (S n) k (B n) (omega arith)),
              only_zero (L n) v,
            )
        | yes q ↦
            omega (
              arith,
              sum_le {g = λ j. only (L j) v (earlier (S j) k (B j))} {h = λ j. only (L j) v (B j)} (suc n) (λ j p. only_le (L j) v (earlier_most (S j) k (B j))),
              h n (le_refl _),
              rises (suc (S n)) k q,
            )
      ]

  -- of entries in the order of their slots, those up to i are before the slot after i's
  pub up_to_before : (v i n : ℕ) → i < n → ((j : ℕ) → j ≤ i → S j ≤ S i) → sum (λ j. only (L j) v (B j)) (suc i) ≤ before n v (suc (S i))
  up_to_before v i n p ordered =
      omega (
        arith,
        sum_eq {g = λ j. only (L j) v (B j)} {h = λ j. only (L j) v (earlier (S j) (suc (S i)) (B j))} (suc i) (λ j q.
            ap (only (L j) v) (sym (earlier_yes (S j) (suc (S i)) (B j) (omega (arith, ordered j (omega arith)))))),
        sum_mono (λ j. only (L j) v (earlier (S j) (suc (S i)) (B j))) {m = suc i} {n = n} p,
      )
