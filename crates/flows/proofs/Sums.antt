-- Laws of finite sums and of tests over the numbers below a bound, each by induction on the bound; a law of `gather` serves the
-- starts of links as well as their ends. Assumes nothing.
use mathlib.Core.Path.{◌≡◌, refl, sym, ap, ◌∙◌}
use mathlib.Core.Logic.{◌≢◌, ◌⊎◌, inl, inr}
use mathlib.Core.Bool.{Bool, true, false, true≢false, false≢true, cond, ◌&&◌, ◌||◌}
use Prim.Native.Nat.{ℕ, zero, suc, ◌+◌, ◌-◌, ◌*◌, ◌≤◌, ◌<◌, zero-le}
use native.Mathlib.Nat.{le_refl, le_trans, add-zero, add-suc, add-sub_of_le, mul-zero, mul-suc, zero-mul, add-mul}
use native.Mathlib.Omega.{arith}
use native.Mathlib.Decide.{ℕ_discrete, dec_lt}
use lib.Dec.{T, eqb, eqb→eq, eqb_refl}
use Rattle.flows.specs.Sums.{sum, only, gather, some}

-- ---- sum

-- two sums that agree term by term
pub sum_eq : {g h : ℕ → ℕ} (n : ℕ) → ((i : ℕ) → i < n → g i ≡ h i) → sum g n ≡ sum h n
sum_eq zero p = refl
sum_eq (suc n) p = omega (arith, sum_eq n (λ i q. p i (omega arith)), p n (le_refl _))

pub sum_le : {g h : ℕ → ℕ} (n : ℕ) → ((i : ℕ) → i < n → g i ≤ h i) → sum g n ≤ sum h n
sum_le zero p = zero-le
sum_le (suc n) p = omega (arith, sum_le n (λ i q. p i (omega arith)), p n (le_refl _))

pub sum_zero : (n : ℕ) → sum (λ i. 0) n ≡ 0
sum_zero zero = refl
sum_zero (suc n) = omega (arith, sum_zero n)

pub sum_add : (g h : ℕ → ℕ) (n : ℕ) → sum (λ i. g i + h i) n ≡ sum g n + sum h n
sum_add g h zero = refl
sum_add g h (suc n) = omega (arith, sum_add g h n)

pub sum_scale : (g : ℕ → ℕ) (c n : ℕ) → sum (λ i. g i * c) n ≡ sum g n * c
sum_scale g c zero = sym (zero-mul c)
sum_scale g c (suc n) = rw (sum_scale g c n, add-mul)

-- the order of two sums
pub sum_swap : (g : ℕ → ℕ → ℕ) (m n : ℕ) → sum (λ i. sum (g i) n) m ≡ sum (λ j. sum (λ i. g i j) m) n
sum_swap g m zero = sum_zero m
sum_swap g m (suc n) = sum_add (λ i. sum (g i) n) (λ i. g i n) m ∙ ap (λ (x : ℕ). x + sum (λ i. g i n) m) (sum_swap g m n)

-- the first term apart
pub sum_cons : (g : ℕ → ℕ) (n : ℕ) → sum g (suc n) ≡ g 0 + sum (λ i. g (suc i)) n
sum_cons g zero = omega arith
sum_cons g (suc n) = omega (arith, sum_cons g n)

pub sum_mono : (g : ℕ → ℕ) {m n : ℕ} → m ≤ n → sum g m ≤ sum g n
sum_mono g {m} {n} p = rw (← add-sub_of_le p) (go (n - m))
  where
    go : (d : ℕ) → sum g m ≤ sum g (m + d)
    go zero = rw add-zero (le_refl _)
    go (suc d) = rw add-suc (omega (arith, go d))

-- a sum whose terms are 0 from m on
pub sum_stops : (g : ℕ → ℕ) (m n : ℕ) → m ≤ n → ((i : ℕ) → m ≤ i → g i ≡ 0) → sum g n ≡ sum g m
sum_stops g m n p q = rw (← add-sub_of_le p) (go (n - m))
  where
    go : (d : ℕ) → sum g (m + d) ≡ sum g m
    go zero = rw add-zero
    go (suc d) = rw add-suc (omega (arith, go d, q (m + d) (omega arith)))

-- where no term is above c, d more terms add at most c * d
pub sum_rate : (g : ℕ → ℕ) (c m d : ℕ) → ((i : ℕ) → g i ≤ c) → sum g (m + d) ≤ sum g m + c * d
sum_rate g c m zero p = rw (add-zero, mul-zero) (omega arith)
sum_rate g c m (suc d) p = rw (add-suc, mul-suc) (omega (arith, sum_rate g c m d p, p (m + d)))

pub sum_far : (g : ℕ → ℕ) (c k m d : ℕ) → ((i : ℕ) → g i ≤ c) → k ≤ m + d → sum g k ≤ sum g m + c * d
sum_far g c k m d p q = le_trans (sum_mono g q) (sum_rate g c m d p)

-- a sum of n numbers, none of them above c
pub sum_most : (g : ℕ → ℕ) (c n : ℕ) → ((i : ℕ) → i < n → g i ≤ c) → sum g n ≤ c * n
sum_most g c zero p = zero-le
sum_most g c (suc n) p = rw mul-suc (omega (arith, sum_most g c n (λ i q. p i (omega arith)), p n (le_refl _)))

-- a term of a sum
pub sum_term : (g : ℕ → ℕ) (n i : ℕ) → i < n → g i ≤ sum g n
sum_term g zero i p = omega arith
sum_term g (suc n) i p =
    elim (ℕ_discrete i n) [ yes e ↦ rw e (omega arith) | no q ↦ omega (arith, sum_term g n i (omega arith)) ]

-- a sum that is not 0 has a term that is not 0
pub sum_pos : (g : ℕ → ℕ) (n : ℕ) → 0 < sum g n → (i : ℕ) × (i < n) × (0 < g i)
sum_pos g zero p = absurd (omega arith)
sum_pos g (suc n) p =
    elim (dec_lt 0 (g n)) [
      | yes q ↦ (n, le_refl _, q)
      | no q ↦ let r = sum_pos g n (omega arith) in (r.0, omega (arith, r.1), r.2)
    ]

-- ---- cond, and, or

pub cond_no : (b : Bool) (x : ℕ) → (T b → ⊥) → cond b x 0 ≡ 0
cond_no true x p = absurd (p tt)
cond_no false x p = refl

pub cond_yes : (b : Bool) (x : ℕ) → T b → cond b x 0 ≡ x
cond_yes true x p = refl
cond_yes false x p = absurd p

pub cond_le : (b : Bool) (x : ℕ) → cond b x 0 ≤ x
cond_le true x = le_refl x
cond_le false x = zero-le

-- a condition that asks two things, asked one after the other
pub cond_and : (b c : Bool) (x : ℕ) → cond (b && c) x 0 ≡ cond b (cond c x 0) 0
cond_and true c x = refl
cond_and false c x = refl

pub cond_pos : (b : Bool) (x : ℕ) → 0 < cond b x 0 → T b × (0 < x)
cond_pos true x p = (tt, p)
cond_pos false x p = absurd (omega arith)

cond_sum : (b : Bool) (h : ℕ → ℕ) (k : ℕ) → sum (λ s. cond b (h s) 0) k ≡ cond b (sum h k) 0
cond_sum true h k = refl
cond_sum false h k = sum_zero k

cond_add : (b : Bool) (x y : ℕ) → cond b (x + y) 0 ≡ cond b x 0 + cond b y 0
cond_add true x y = refl
cond_add false x y = refl

cond_comm : (b c : Bool) (x : ℕ) → cond b (cond c x 0) 0 ≡ cond c (cond b x 0) 0
cond_comm true c x = refl
cond_comm false true x = refl
cond_comm false false x = refl

cond_scale : (b : Bool) (x c : ℕ) → cond b (x * c) 0 ≡ cond b x 0 * c
cond_scale true x c = refl
cond_scale false x c = sym (zero-mul c)

pub and_split : (a b : Bool) → T (a && b) → T a × T b
and_split true b t = (tt, t)
and_split false b t = absurd t

pub and_join : (a b : Bool) → T a → T b → T (a && b)
and_join true b s t = t
and_join false b s t = absurd s

pub or_left : (a b : Bool) → T a → T (a || b)
or_left true b t = tt
or_left false b t = absurd t

pub or_right : (a b : Bool) → T b → T (a || b)
or_right true b t = tt
or_right false b t = t

pub or_split : (a b : Bool) → T (a || b) → T a ⊎ T b
or_split true b t = inl tt
or_split false b t = inr t

pub test_true : (b : Bool) → T b → b ≡ true
test_true true t = refl
test_true false t = absurd t

pub true_test : (b : Bool) → b ≡ true → T b
true_test true p = tt
true_test false p = absurd (false≢true p)

pub test_false : (b : Bool) → (T b → ⊥) → b ≡ false
test_false true n = absurd (n tt)
test_false false n = refl

pub false_test : (b : Bool) → b ≡ false → T b → ⊥
false_test true p t = true≢false p
false_test false p t = t

pub or_no : (a b : Bool) → (a || b) ≡ false → (a ≡ false) × (b ≡ false)
or_no true b p = absurd (true≢false p)
or_no false b p = (refl, p)

pub no_or : (a b : Bool) → a ≡ false → b ≡ false → (a || b) ≡ false
no_or true b p q = p
no_or false b p q = q

-- ---- only

pub only_same : (a x : ℕ) → only a a x ≡ x
unfolding only
only_same a x = cond_yes (eqb a a) x (eqb_refl a)

pub only_other : (a v x : ℕ) → a ≢ v → only a v x ≡ 0
unfolding only
only_other a v x p = cond_no (eqb a v) x (λ t. p (eqb→eq a v t))

pub only_zero : (a v : ℕ) → only a v 0 ≡ 0
only_zero a v = elim (ℕ_discrete a v) [ yes e ↦ rw e (only_same v 0) | no q ↦ only_other a v 0 q ]

pub only_most : (a v x : ℕ) → only a v x ≤ x
unfolding only
only_most a v x = cond_le (eqb a v) x

pub only_pos : (a v x : ℕ) → 0 < only a v x → (a ≡ v) × (0 < x)
unfolding only
only_pos a v x p = let r = cond_pos (eqb a v) x p in (eqb→eq a v r.0, r.1)

pub only_add : (a v x y : ℕ) → only a v (x + y) ≡ only a v x + only a v y
unfolding only
only_add a v x y = cond_add (eqb a v) x y

pub only_scale : (a v x c : ℕ) → only a v (x * c) ≡ only a v x * c
unfolding only
only_scale a v x c = cond_scale (eqb a v) x c

pub only_comm : (a v b w x : ℕ) → only a v (only b w x) ≡ only b w (only a v x)
unfolding only
only_comm a v b w x = cond_comm (eqb a v) (eqb b w) x

pub only_sum : (a v : ℕ) (h : ℕ → ℕ) (k : ℕ) → sum (λ s. only a v (h s)) k ≡ only a v (sum h k)
unfolding only
only_sum a v h k = cond_sum (eqb a v) h k

sum_only_out : (g : ℕ → ℕ) (a n : ℕ) → n ≤ a → sum (λ v. only a v (g v)) n ≡ 0
sum_only_out g a zero p = refl
sum_only_out g a (suc n) p = omega (arith, sum_only_out g a n (omega arith), only_other a n (g n) (omega arith))

-- a sum with one term
pub sum_only : (g : ℕ → ℕ) (a n : ℕ) → a < n → sum (λ v. only a v (g v)) n ≡ g a
sum_only g a zero p = omega arith
sum_only g a (suc n) p =
    elim (ℕ_discrete a n) [
      | yes e ↦
          let here : only a n (g n) ≡ g a = rw e (only_same n (g n)) in
          omega (arith, sum_only_out g a n (omega arith), here)
      | no q ↦ omega (arith, sum_only g a n (omega arith), only_other a n (g n) q)
    ]

-- two sums that agree but at d
pub sum_but : (g h : ℕ → ℕ) (d n : ℕ) → d < n → ((i : ℕ) → i < n → i ≢ d → g i ≡ h i) → sum g n + h d ≡ sum h n + g d
sum_but g h d n p q =
    omega (
      arith,
      sum_eq {g = λ i. g i + only d i (h d)} {h = λ i. h i + only d i (g d)} n (λ i r.
          elim (ℕ_discrete i d) [
            | yes e ↦ rw (e, only_same, only_same) (omega arith)
            | no t ↦ omega (arith, q i r t, only_other d i (h d) (λ e. t (sym e)), only_other d i (g d) (λ e. t (sym e)))
          ]),
      sum_add g (λ i. only d i (h d)) n,
      sum_add h (λ i. only d i (g d)) n,
      sum_only (λ i. h d) d n p,
      sum_only (λ i. g d) d n p,
    )

-- ---- gather: `at` is the chosen end of each link

module _ (at : ℕ → ℕ) (n : ℕ) where
  pub gather_eq : {x y : ℕ → ℕ} (v : ℕ) → ((e : ℕ) → e < n → x e ≡ y e) → gather at n x v ≡ gather at n y v
  unfolding gather
  gather_eq v p = sum_eq n (λ e q. ap (only (at e) v) (p e q))

  pub gather_zero : (v : ℕ) → gather at n (λ e. 0) v ≡ 0
  unfolding gather
  gather_zero v = sum_eq n (λ e p. only_zero (at e) v) ∙ sum_zero n

  pub gather_add : (x y : ℕ → ℕ) (v : ℕ) → gather at n (λ e. x e + y e) v ≡ gather at n x v + gather at n y v
  unfolding gather
  gather_add x y v = sum_eq n (λ e p. only_add (at e) v (x e) (y e)) ∙ sum_add _ _ n

  pub gather_scale : (x : ℕ → ℕ) (c v : ℕ) → gather at n (λ e. x e * c) v ≡ gather at n x v * c
  unfolding gather
  gather_scale x c v = sum_eq n (λ e p. only_scale (at e) v (x e) c) ∙ sum_scale _ c n

  -- of one link alone
  pub gather_one : (a : ℕ) (x : ℕ → ℕ) (v : ℕ) → a < n → gather at n (λ e. only a e (x e)) v ≡ only (at a) v (x a)
  unfolding gather
  gather_one a x v p = sum_eq n (λ e q. only_comm (at e) v a e (x e)) ∙ sum_only (λ e. only (at e) v (x e)) a n p

  -- over all places: each link counts once, at its own place
  pub gather_all : (x : ℕ → ℕ → ℕ) (m : ℕ) → ((e : ℕ) → e < n → at e < m)
      → sum (λ v. gather at n (λ e. x e v) v) m ≡ sum (λ e. x e (at e)) n
  unfolding gather
  gather_all x m p = sum_swap (λ v e. only (at e) v (x e v)) m n ∙ sum_eq n (λ e q. sum_only (x e) (at e) m (p e q))

  -- over all places, weighed by a number of the place
  pub gather_weigh : (x p : ℕ → ℕ) (m : ℕ) → ((e : ℕ) → e < n → at e < m)
      → sum (λ v. gather at n x v * p v) m ≡ sum (λ e. x e * p (at e)) n
  gather_weigh x p m q = sum_eq m (λ v r. sym (gather_scale x (p v) v)) ∙ gather_all (λ e v. x e * p v) m q

  pub gather_pos : (x : ℕ → ℕ) (v : ℕ) → 0 < gather at n x v → (e : ℕ) × (e < n) × (at e ≡ v) × (0 < x e)
  unfolding gather
  gather_pos x v p =
      let r = sum_pos (λ e. only (at e) v (x e)) n p in
      let s = only_pos (at r.0) v (x r.0) r.2 in
      (r.0, r.1, s.0, s.1)

-- ---- every, some

-- a test passes at every number below n
abbrev pub every : (ℕ → Bool) → ℕ → Bool
every t zero = true
every t (suc n) = every t n && t n

pub every_at : (t : ℕ → Bool) (n : ℕ) → T (every t n) → (i : ℕ) → i < n → T (t i)
every_at t zero p i q = absurd (omega arith)
every_at t (suc n) p i q =
    let h = and_split (every t n) (t n) p in
    elim (ℕ_discrete i n) [ yes e ↦ rw e h.1 | no d ↦ every_at t n h.0 i (omega arith) ]

pub some_at : (t : ℕ → Bool) (n : ℕ) → T (some t n) → (i : ℕ) × (i < n) × T (t i)
some_at t zero p = absurd p
some_at t (suc n) p =
    elim (or_split (some t n) (t n) p) [
      | inl q ↦ let r = some_at t n q in (r.0, omega (arith, r.1), r.2)
      | inr q ↦ (n, le_refl _, q)
    ]

pub some_of : (t : ℕ → Bool) (n i : ℕ) → i < n → T (t i) → T (some t n)
some_of t zero i p q = absurd (omega arith)
some_of t (suc n) i p q =
    elim (ℕ_discrete i n) [
      | yes e ↦ or_right (some t n) (t n) (rw e at q)
      | no d ↦ or_left (some t n) (t n) (some_of t n i (omega arith) q)
    ]

pub some_no : (t : ℕ → Bool) (n : ℕ) → some t n ≡ false → (i : ℕ) → i < n → t i ≡ false
some_no t n p i q = test_false (t i) (λ h. false_test (some t n) p (some_of t n i q h))

pub no_some : (t : ℕ → Bool) (n : ℕ) → ((i : ℕ) → i < n → t i ≡ false) → some t n ≡ false
no_some t n p = test_false (some t n) (λ h. let r = some_at t n h in false_test (t r.0) (p r.0 r.1) r.2)

-- one at some number, or the other at all of them
pub some_or_all : {P : Type 0} {Q : ℕ → Type 0} (n : ℕ) → ((i : ℕ) → i < n → P ⊎ Q i) → P ⊎ ((i : ℕ) → i < n → Q i)
some_or_all zero h = inr (λ i p. absurd (omega arith))
some_or_all {Q = Q} (suc n) h =
    elim (h n (le_refl _)) [
      | inl p ↦ inl p
      | inr q ↦ elim (some_or_all n (λ i r. h i (omega arith))) [
        | inl p ↦ inl p
        | inr g ↦ inr (λ i r. elim (ℕ_discrete i n) [ yes e ↦ rw e q | no k ↦ g i (omega arith) ])
      ]
    ]
