-- Filing uses one after another, and their weight. A use filed under the next number begins its link's chain, and the chains below it stay.
-- Assumes nothing.
use mathlib.Core.Path.{◌≡◌, refl, sym, ap, ap₂, ◌∙◌}
use mathlib.Core.List.{List, [], ◌∷◌, ◌++◌, append-nil, append_assoc}
use Prim.Native.Nat.{ℕ, ◌+◌, ◌*◌, ◌/◌, ◌≤◌, ◌<◌}
use native.Mathlib.Nat.{le_refl}
use native.Mathlib.Numerals.{add-one}
use native.Mathlib.Omega.{arith}
use native.Mathlib.Decide.{ℕ_discrete, dec_lt}
use lib.ListN.{length, get_or, set, take, replicate}
use lib.Seq.{get_or-set_same, get_or-set_other, set_out, take_all, take-suc}
use Rattle.limits.specs.Limits.{most_links, latest_first, most_departures}
use Rattle.flows.specs.Sums.{sum, only}
use Rattle.flows.specs.Network.{link}
use Rattle.flows.specs.Network as model
use Rattle.flows.specs.Rows.{Use, duration, uses_from, uses_of, all_uses, enters, entering}
use Rattle.flows.specs.Rows as rows
use Rattle.flows.proofs.Lists.{get_or_zeros}
use Rattle.flows.proofs.Sums.{sum_cons, only_same, only_other}
use Rattle.flows.proofs.Overload.{use_at}
use Rattle.network.specs.declared.Network.{Network}
use Rattle.network.specs.Held.{model_of}
use Rattle.plans.specs.declared.Row.{Row}
use Rattle.plans.specs.declared.Plan.{Plan}
use Rattle.plans.specs.Held.{row_of, past, rows_below}
use Rattle.row_uses.specs.Given.{GivenRow}
use Rattle.row_uses.specs.Uses.{Columns, use_in, along, chain, weigh, Filed}
use Rattle.row_uses.proofs.Given.{links_length, links_at}
use Rattle.row_uses.proofs.Chain.{chain_first, chain_eq, chain_set}

-- ---- weights

pub weigh_append : (w : Use → ℕ) (us vs : List Use) → weigh w (us ++ vs) ≡ weigh w us + weigh w vs
unfolding weigh
weigh_append w [] vs = omega arith
weigh_append w (u ∷ us) vs = omega (arith, weigh_append w us vs)

weigh_one : (w : Use → ℕ) (u : Use) → weigh w (u ∷ []) ≡ w u
unfolding weigh
weigh_one w u = omega arith

-- with one use more
weigh_more : (w : Use → ℕ) (us : List Use) (u : Use) → weigh w (us ++ (u ∷ [])) ≡ weigh w us + w u
weigh_more w us u = omega (arith, weigh_append w us (u ∷ []), weigh_one w u)

pub weigh_eq : (v w : Use → ℕ) (us : List Use) → ((u : Use) → v u ≡ w u) → weigh v us ≡ weigh w us
unfolding weigh
weigh_eq v w [] p = refl
weigh_eq v w (u ∷ us) p = ap₂ ◌+◌ (p u) (weigh_eq v w us p)

-- as a sum over numbers
pub weigh_sum : (w : Use → ℕ) (us : List Use) → weigh w us ≡ sum (λ i. w (use_at us i)) (length us)
unfolding weigh
weigh_sum w [] = refl
weigh_sum w (u ∷ us) = omega (arith, weigh_sum w us, sum_cons (λ i. w (use_at (u ∷ us) i)) (length us))

-- what enters a link
pub weigh_entering : (us : List Use) (e s : ℕ) → weigh (λ u. enters u e s) us ≡ entering us e s
unfolding weigh
weigh_entering [] e s = refl
weigh_entering (u ∷ us) e s = ap (λ (x : ℕ). enters u e s + x) (weigh_entering us e s)

-- a use is its four numbers
use_eq : {e f s t q r d c : ℕ} → e ≡ f → s ≡ t → q ≡ r → d ≡ c
    → ◌≡◌ {A = Use} (record { link = e; entry = s; rate = q; departures = d }) (record { link = f; entry = t; rate = r; departures = c })
use_eq a b c d = λ i. record { link = a i; entry = b i; rate = c i; departures = d i }

-- ---- a use filed under the number k

-- a stored number is the one stored or one of before
pub set_most : (xs : List ℕ) (at x most i : ℕ) → x ≤ most → get_or xs i 0 ≤ most → get_or (set xs at x) i 0 ≤ most
set_most xs at x most i p q =
    elim (ℕ_discrete i at) [
      | no n ↦ rw (get_or-set_other xs at i x 0 n) q
      | yes e ↦
          elim (dec_lt at (length xs)) [
            | yes h ↦ rw (e, get_or-set_same xs at x 0 h) p
            | no h ↦ rw (set_out xs at x (omega arith)) q
          ]
    ]

-- the columns with the use k, of the link e
abbrev pub with_use : Columns → List ℕ → ℕ → ℕ → ℕ → Columns
with_use c head k e lag = record {
  prev = set c.prev k (get_or head e 0);
  lags = set c.lags k lag;
  firsts = c.firsts;
  departures = c.departures;
  rates = c.rates;
}

module _ (c : Columns) (head : List ℕ) (us : List Use) (k e lag : ℕ) (filed : Filed c head k us) where
  abbrev after : Columns
  after = with_use c head k e lag

  module _ (for_prev : k < length c.prev) (for_lags : k < length c.lags) (for-head : e < length head) where
    falls_more : (m : ℕ) → get_or after.prev m 0 ≤ m
    falls_more m =
        elim (ℕ_discrete m k) [
          | yes q ↦ rw (q, get_or-set_same c.prev k (get_or head e 0) 0 for_prev) (filed.heads e)
          | no n ↦ rw (get_or-set_other c.prev k m (get_or head e 0) 0 n) (filed.orderly.falls m)
        ]

    -- uses of before are the same
    same_use : (v m : ℕ) → m < k → use_in after v m ≡ use_in c v m
    same_use v m h =
        ap (λ (lag₁ : ℕ). record {
          link = v;
          entry = get_or c.firsts (m / 63) 0 + lag₁;
          rate = (use_in c v m).rate;
          departures = (use_in c v m).departures;
        }) (get_or-set_other c.lags k m lag 0 (λ q. omega arith))

    this_use : use_in after e k
        ≡ record { link = e; entry = get_or c.firsts (k / 63) 0 + lag; rate = (use_in c e k).rate; departures = (use_in c e k).departures }
    this_use =
        ap (λ (lag₁ : ℕ). record {
          link = e;
          entry = get_or c.firsts (k / 63) 0 + lag₁;
          rate = (use_in c e k).rate;
          departures = (use_in c e k).departures;
        }) (get_or-set_same c.lags k lag 0 for_lags)

    -- a chain that begins at k or below is as it was
    kept_chain : (w : Use → ℕ) (v m : ℕ) → m ≤ k
        → chain after.prev (λ n. w (use_in after v n)) m ≡ chain c.prev (λ n. w (use_in c v n)) m
    kept_chain w v m h =
        chain_set c.prev filed.orderly.falls _ k (get_or head e 0) m h
        ∙ chain_eq c.prev filed.orderly.falls _ _ m (λ n l. ap w (same_use v n (omega arith)))

    pub file_use : Filed after (set head e (k + 1)) (k + 1)
        (us ++ (record { link = e; entry = get_or c.firsts (k / 63) 0 + lag; rate = (use_in c e k).rate; departures = (use_in c e k).departures } ∷ []))
    file_use =
        let u : Use = record { link = e; entry = get_or c.firsts (k / 63) 0 + lag; rate = (use_in c e k).rate; departures = (use_in c e k).departures } in
        record {
          orderly = record {
            falls = falls_more;
            firsts_most = filed.orderly.firsts_most;
            departures_most = filed.orderly.departures_most;
          };
          heads = λ v. set_most head e (k + 1) (k + 1) v (le_refl _) (omega (arith, filed.heads v));
          weighs =
              λ w v h. elim (ℕ_discrete v e) [
                | yes q ↦
                    rw (q, get_or-set_same head e (k + 1) 0 for-head)
                    (chain_first after.prev falls_more (λ n. w (use_in after e n)) k
                    ∙ omega (
                      arith,
                      ap w this_use,
                      ap (chain after.prev (λ n. w (use_in after e n))) (get_or-set_same c.prev k (get_or head e 0) 0 for_prev),
                      kept_chain w e (get_or head e 0) (filed.heads e),
                      filed.weighs w e (rw q at h),
                      weigh_more (λ x. only x.link e (w x)) us u,
                      only_same e (w u),
                    ))
                | no n ↦
                    rw (get_or-set_other head e v (k + 1) 0 n)
                    (omega (
                      arith,
                      kept_chain w v (get_or head v 0) (filed.heads v),
                      filed.weighs w v h,
                      weigh_more (λ x. only x.link v (w x)) us u,
                      only_other e v (w u) (λ q. n (sym q)),
                    ))
              ];
        }

-- ---- columns of zeros hold no use

pub file_none : (c : Columns) (uses rows : ℕ) → c.prev ≡ replicate uses 0 → c.firsts ≡ replicate rows 0 → c.departures ≡ replicate rows 0
    → Filed c (replicate most_links 0) 0 []
unfolding along weigh
file_none c uses rows is-prev is-firsts is-departures = record {
  orderly = record {
    falls = λ k. rw is-prev (omega (arith, get_or_zeros uses k));
    firsts_most = λ i. rw is-firsts (omega (arith, get_or_zeros rows i));
    departures_most = λ i. rw is-departures (omega (arith, get_or_zeros rows i));
  };
  heads = λ e. omega (arith, get_or_zeros 256 e);
  weighs = λ w e h. rw (get_or_zeros 256 e);
}

-- ---- the terms of row i, stored before its uses are filed

module _ (c : Columns) (head : List ℕ) (us : List Use) (i first departures rate : ℕ) (filed : Filed c head (63 * i) us)
    (first_most : first ≤ latest_first) (departures_most : departures ≤ most_departures) where
  abbrev with_terms : Columns
  with_terms = record {
    prev = c.prev;
    lags = c.lags;
    firsts = set c.firsts i first;
    departures = set c.departures i departures;
    rates = set c.rates i rate;
  }

  earlier_use : (v m : ℕ) → m < 63 * i → use_in with_terms v m ≡ use_in c v m
  earlier_use v m h =
      let other : (xs : List ℕ) (x : ℕ) → get_or (set xs i x) (m / 63) 0 ≡ get_or xs (m / 63) 0 = λ xs x. get_or-set_other xs i (m / 63) x 0 (λ q. omega arith) in
      λ t. record {
        link = v;
        entry = other c.firsts first t + get_or c.lags m 0;
        rate = other c.rates rate t;
        departures = other c.departures departures t;
      }

  pub file_terms : Filed with_terms head (63 * i) us
  file_terms = record {
    orderly = record {
      falls = filed.orderly.falls;
      firsts_most = λ j. set_most c.firsts i first latest_first j first_most (filed.orderly.firsts_most j);
      departures_most = λ j. set_most c.departures i departures most_departures j departures_most (filed.orderly.departures_most j);
    };
    heads = filed.heads;
    weighs =
        λ w v h. chain_eq c.prev filed.orderly.falls _ _ (get_or head v 0) (λ m l. ap w (earlier_use v m (omega (arith, filed.heads v))))
        ∙ filed.weighs w v h;
  }

-- a row of fewer links leaves numbers without a use
pub file_gap : (c : Columns) (head : List ℕ) (us : List Use) (m n : ℕ) → m ≤ n → Filed c head m us → Filed c head n us
file_gap c head us m n h filed = record { orderly = filed.orderly; heads = λ e. omega (arith, filed.heads e); weighs = filed.weighs }

-- ---- the uses of the first links of a row

module _ (N : model.Network) (rate departures : ℕ) where
  uses_append : (slot : ℕ) (es fs : List ℕ)
      → uses_from N rate departures slot (es ++ fs) ≡ uses_from N rate departures slot es ++ uses_from N rate departures (slot + duration N es) fs
  uses_append slot [] fs = ap (λ (s : ℕ). uses_from N rate departures s fs) (omega arith)
  uses_append slot (e ∷ es) fs =
      ap (λ (us : List Use). record { link = e; entry = slot; rate = rate; departures = departures } ∷ us)
      (uses_append (slot + (link N e).transit) es fs
      ∙ ap (λ (s : ℕ). uses_from N rate departures (slot + (link N e).transit) es ++ uses_from N rate departures s fs) (omega arith))

  pub uses_more : (slot : ℕ) (es : List ℕ) (j : ℕ) → j < length es
      → uses_from N rate departures slot (take (j + 1) es)
      ≡ uses_from N rate departures slot (take j es)
      ++ (record { link = get_or es j 0; entry = slot + duration N (take j es); rate = rate; departures = departures } ∷ [])
  uses_more slot es j h =
      ap (uses_from N rate departures slot) (take_more es j h)
      ∙ uses_append slot (take j es) (get_or es j 0 ∷ [])
    where
      take_more : (es : List ℕ) (j : ℕ) → j < length es → take (j + 1) es ≡ take j es ++ (get_or es j 0 ∷ [])
      take_more es j h = rw add-one (take-suc es j 0 h)

duration_append : (N : model.Network) (es fs : List ℕ) → duration N (es ++ fs) ≡ duration N es + duration N fs
duration_append N [] fs = omega arith
duration_append N (e ∷ es) fs = omega (arith, duration_append N es fs)

pub duration_more : (N : model.Network) (es : List ℕ) (j : ℕ) → j < length es
    → duration N (take (j + 1) es) ≡ duration N (take j es) + (link N (get_or es j 0)).transit
duration_more N es j h =
    rw (add-one, take-suc es j 0 h) (duration_append N (take j es) (get_or es j 0 ∷ []) ∙ omega arith)

-- ---- the uses of a row's links, filed one after another

-- uses, and behind them those of a row's first j links
abbrev pub with_row_links : Network → Row → List Use → ℕ → List Use
with_row_links net r us j = us ++ uses_from (model_of net) r.rate r.departures r.first (take j (row_of r).links)

module _ (net : Network) (r : Row) (given : GivenRow net r) (i : ℕ) (us : List Use) where
  pub links_none : (c : Columns) (head : List ℕ) → Filed c head (63 * i) us → Filed c head (63 * i + 0) (with_row_links net r us 0)
  links_none c head filed = rw append-nil (file_gap c head us (63 * i) (63 * i + 0) (omega arith) filed)

  pub links_more : (c : Columns) (head : List ℕ) (k j lag : ℕ) → j < r.count → k ≡ 63 * i + j
      → lag ≡ duration (model_of net) (take j (row_of r).links)
      → get_or c.firsts i 0 ≡ r.first → get_or c.departures i 0 ≡ r.departures → get_or c.rates i 0 ≡ r.rate
      → k < length c.prev → k < length c.lags → get_or r.links j 0 < length head
      → Filed c head (63 * i + j) (with_row_links net r us j)
      → Filed (with_use c head k (get_or r.links j 0) lag) (set head (get_or r.links j 0) (k + 1)) (63 * i + (j + 1)) (with_row_links net r us (j + 1))
  links_more c head k j lag h at is-lag is-first is-departures is-rate for_prev for_lags for-head filed =
      let N : model.Network = model_of net in
      let es : List ℕ = (row_of r).links in
      let e : ℕ = get_or r.links j 0 in
      let row : k / 63 ≡ i = omega (arith, given.stands.size) in
      let u : Use = record {
        link = e;
        entry = get_or c.firsts (k / 63) 0 + lag;
        rate = get_or c.rates (k / 63) 0;
        departures = get_or c.departures (k / 63) 0;
      } in
      let v : Use = record {
        link = get_or es j 0;
        entry = r.first + duration N (take j es);
        rate = r.rate;
        departures = r.departures;
      } in
      let same : u ≡ v =
      use_eq (sym (links_at r given.stands j h))
      (ap₂ ◌+◌ (ap (λ (m : ℕ). get_or c.firsts m 0) row ∙ is-first) is-lag)
      (ap (λ (m : ℕ). get_or c.rates m 0) row ∙ is-rate)
      (ap (λ (m : ℕ). get_or c.departures m 0) row ∙ is-departures) in
      let more : with_row_links net r us j ++ (u ∷ []) ≡ with_row_links net r us (j + 1) =
      ap (λ (x : Use). with_row_links net r us j ++ (x ∷ [])) same
      ∙ append_assoc us (uses_from N r.rate r.departures r.first (take j es)) (v ∷ [])
      ∙ ap (λ (xs : List Use). us ++ xs)
      (sym (uses_more N r.rate r.departures r.first es j (omega (arith, links_length r given.stands)))) in
      rw more at
      (file_gap (with_use c head k e lag) (set head e (k + 1)) (with_row_links net r us j ++ (u ∷ [])) (k + 1) (63 * i + (j + 1)) (omega arith)
      (file_use c head (with_row_links net r us j) k e lag (rw (sym at) at filed) for_prev for_lags for-head))

  pub links_all : (c : Columns) (head : List ℕ) (j : ℕ) → j ≡ r.count → Filed c head (63 * i + j) (with_row_links net r us j)
      → Filed c head (63 * (i + 1)) (us ++ uses_of (model_of net) (row_of r))
  links_all c head j done filed =
      let whole : take j (row_of r).links ≡ (row_of r).links =
      take_all j (row_of r).links (omega (arith, links_length r given.stands)) in
      rw whole at (file_gap c head (with_row_links net r us j) (63 * i + j) (63 * (i + 1)) (omega (arith, given.stands.size)) filed)

-- ---- the uses of all rows

all_uses_append : (N : model.Network) (rs qs : List rows.Row) → all_uses N (rs ++ qs) ≡ all_uses N rs ++ all_uses N qs
all_uses_append N [] qs = refl
all_uses_append N (r ∷ rs) qs =
    ap (λ (us : List Use). uses_of N r ++ us) (all_uses_append N rs qs) ∙ sym (append_assoc (uses_of N r) (all_uses N rs) (all_uses N qs))

-- the rows below i and row i
pub all_uses_more : (N : model.Network) (plan : Plan) (i : ℕ)
    → all_uses N (rows_below plan i) ++ uses_of N (row_of (get_or plan.rows i past)) ≡ all_uses N (rows_below plan (i + 1))
all_uses_more N plan i =
    let r : rows.Row = row_of (get_or plan.rows i past) in
    rw add-one
    (ap (λ (us : List Use). all_uses N (rows_below plan i) ++ us) (sym (append-nil (uses_of N r)))
    ∙ sym (all_uses_append N (rows_below plan i) (r ∷ [])))
