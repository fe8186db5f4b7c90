-- A plan that passes, laid out as a log slot by slot, replays with 0, however many slots are logged, and with its amount once its horizon
-- is. What is logged is what the rows put in, up to the last slot; up to there nothing differs from the flow, and after it nothing is sent.
-- Assumes nothing.
use mathlib.Core.Path.{◌≡◌, refl, sym, ap, ap₂, ◌∙◌}
use mathlib.Core.Logic.{◌≢◌}
use mathlib.Core.List.{List, [], ◌∷◌, ◌++◌}
use Prim.Native.Nat.{ℕ, zero, suc, ◌+◌, ◌-◌, ◌≤◌, ◌<◌, zero-le}
use native.Mathlib.Omega.{arith}
use native.Mathlib.Decide.{ℕ_discrete, dec_lt, dec_le}
use lib.ListN.{length, length-append, get_or-append}
use lib.Seq.{get_or_at}
use Rattle.flows.specs.Sums.{only}
use Rattle.flows.specs.Clock.{counting}
use Rattle.flows.specs.Network.{Network, link, count, Connects}
use Rattle.flows.specs.Flow.{left, arrived, delivered, IsFlow}
use Rattle.flows.specs.Rows.{load}
use Rattle.flows.specs.Plan.{Plan, Certified, verdict}
use Rattle.flows.proofs.Sums.{sum_eq, sum_cons, sum_stops, gather_eq, only_same, only_other}
use Rattle.flows.proofs.Clock.{counting_within}
use Rattle.flows.proofs.Exact.{verdict_certifies}
use Rattle.flows.proofs.Duality.{conserved_before}
use Rattle.flows.proofs.Longer.{longer, longer_delivers}
use Rattle.logs.specs.declared.Entry.{Entry}
use Rattle.logs.specs.Log.{no_entry, entry, logged, last_slot}
use Rattle.logs.specs.Columns.{earlier}
use Rattle.logs.specs.Finding.{finding, figure}
use Rattle.logs.proofs.Sums.{earlier_yes, earlier_no, earlier_most}
use Rattle.logs.proofs.Tests.{arrived_rises}
use Rattle.logs.proofs.Findings.{figure_zero}
use Rattle.logs.proofs.Exact.{Ready, own, finding_0}

-- ---- laying entries out slot by slot

-- behind a log, what enters the first m links in slot s
abbrev pub slot_on : (ℕ → ℕ → ℕ) → ℕ → ℕ → List Entry → List Entry
slot_on f s zero es = es
slot_on f s (suc m) es = slot_on f s m es ++ (record { link = m; slot = s; blocks = f m s } ∷ [])

-- what enters each of so many links in each slot before slot k
abbrev pub laid : (ℕ → ℕ → ℕ) → ℕ → ℕ → List Entry
laid f links zero = []
laid f links (suc k) = slot_on f k links (laid f links k)

-- ---- one entry more

logged_none : (e s : ℕ) → logged [] e s ≡ 0
unfolding logged
logged_none e s = refl

module _ (x : Entry) where
  logged_more : (es : List Entry) (e s : ℕ) → logged (es ++ (x ∷ [])) e s ≡ logged es e s + only x.link e (only x.slot s x.blocks)
  unfolding logged
  logged_more [] e s = omega arith
  logged_more (y ∷ es) e s =
      omega (
        arith,
        sum_cons (λ i. only (entry (y ∷ (es ++ (x ∷ []))) i).link e (only (entry (y ∷ (es ++ (x ∷ []))) i).slot s (entry (y ∷ (es ++ (x ∷ []))) i).blocks)) (length (es ++ (x ∷ []))),
        sum_cons (λ i. only (entry (y ∷ es) i).link e (only (entry (y ∷ es) i).slot s (entry (y ∷ es) i).blocks)) (length es),
        logged_more es e s,
      )

  last_more : (es : List Entry) → last_slot (es ++ (x ∷ [])) ≡ x.slot
  unfolding last_slot
  last_more es =
      let n : length (es ++ (x ∷ [])) - 1 ≡ length es = omega (arith, length-append es (x ∷ [])) in
      ap (λ (m : ℕ). (entry (es ++ (x ∷ [])) m).slot) n ∙ ap (λ (y : Entry). y.slot) (get_or_at es x [] no_entry (length es) refl)

  -- the slots of a log up to s
  abbrev By : ℕ → List Entry → Type 0
  By s es = (i : ℕ) → i < length es → (entry es i).slot ≤ s

  by_more : (s : ℕ) (es : List Entry) → By s es → x.slot ≤ s → By s (es ++ (x ∷ []))
  by_more s es h l i p =
      elim (dec_lt i (length es)) [
        | yes q ↦ rw (get_or-append es (x ∷ []) no_entry i q) (h i q)
        | no q ↦ rw (get_or_at es x [] no_entry i (omega (arith, length-append es (x ∷ [])))) l
      ]

  ready_more : (N : Network) (es : List Entry) → Ready N es → By x.slot es → x.link < count N → Ready N (es ++ (x ∷ []))
  ready_more N es r by l =
      let last : (i : ℕ) → i < length (es ++ (x ∷ [])) → (i < length es → ⊥) → i ≡ length es = λ i p q. omega (arith, length-append es (x ∷ [])) in
      record {
        known =
            λ i p. elim (dec_lt i (length es)) [
              | yes q ↦ rw (get_or-append es (x ∷ []) no_entry i q) (r.known i q)
              | no q ↦ rw (get_or_at es x [] no_entry i (sym (last i p q))) l
            ];
        ordered =
            λ i j p q. elim (dec_lt j (length es)) [
              | yes t ↦ rw (get_or-append es (x ∷ []) no_entry j t, get_or-append es (x ∷ []) no_entry i (omega arith)) (r.ordered i j p t)
              | no t ↦ rw (get_or_at es x [] no_entry j (sym (last j q t))) (by_more x.slot es by (omega arith) i (omega arith))
            ];
      }

module _ (N : Network) (f : ℕ → ℕ → ℕ) where
  slot_by : (s m : ℕ) (es : List Entry) → ((i : ℕ) → i < length es → (entry es i).slot ≤ s) → (i : ℕ) → i < length (slot_on f s m es) → (entry (slot_on f s m es) i).slot ≤ s
  slot_by s zero es h = h
  slot_by s (suc m) es h = by_more _ s (slot_on f s m es) (slot_by s m es h) (omega arith)

  slot_ready : (s m : ℕ) (es : List Entry) → m ≤ count N → Ready N es → ((i : ℕ) → i < length es → (entry es i).slot ≤ s) → Ready N (slot_on f s m es)
  slot_ready s zero es l r h = r
  slot_ready s (suc m) es l r h = ready_more _ N (slot_on f s m es) (slot_ready s m es (omega arith) r h) (slot_by s m es h) l

  laid_by : (k : ℕ) → (i : ℕ) → i < length (laid f (count N) k) → (entry (laid f (count N) k) i).slot ≤ k
  laid_by zero i p = absurd (omega arith)
  laid_by (suc k) i p = omega (arith, slot_by k (count N) (laid f (count N) k) (laid_by k) i p)

  pub laid_ready : (k : ℕ) → Ready N (laid f (count N) k)
  laid_ready zero = record { known = λ i p. absurd (omega arith); ordered = λ i j p q. absurd (omega arith) }
  laid_ready (suc k) = slot_ready k (count N) (laid f (count N) k) (omega arith) (laid_ready k) (laid_by k)

  -- what is logged is what enters, link by link and slot by slot
  slot_logged : (s m : ℕ) (es : List Entry) (e t : ℕ) → logged (slot_on f s m es) e t ≡ logged es e t + earlier e m (only s t (f e s))
  slot_logged s zero es e t = omega (arith, earlier_no e 0 (only s t (f e s)) zero-le)
  slot_logged s (suc m) es e t =
      omega (
        arith,
        logged_more (record { link = m; slot = s; blocks = f m s }) (slot_on f s m es) e t,
        slot_logged s m es e t,
        next,
      )
    where
      next : earlier e m (only s t (f e s)) + only m e (only s t (f m s)) ≡ earlier e (suc m) (only s t (f e s))
      next =
          elim (ℕ_discrete m e) [
            | yes q ↦ rw q (omega (arith, earlier_no e e (only s t (f e s)) (omega arith), earlier_yes e (suc e) (only s t (f e s)) (omega arith), only_same e (only s t (f e s))))
            | no q ↦
                elim (dec_lt e m) [
                  | yes l ↦ omega (arith, only_other m e (only s t (f m s)) q, earlier_yes e m (only s t (f e s)) l, earlier_yes e (suc m) (only s t (f e s)) (omega arith))
                  | no l ↦ omega (arith, only_other m e (only s t (f m s)) q, earlier_no e m (only s t (f e s)) (omega arith), earlier_no e (suc m) (only s t (f e s)) (omega arith))
                ]
          ]

  pub laid_logged : (k e t : ℕ) → e < count N → logged (laid f (count N) k) e t ≡ earlier t k (f e t)
  laid_logged zero e t p = logged_none e t ∙ sym (earlier_no t 0 (f e t) zero-le)
  laid_logged (suc k) e t p =
      omega (
        arith,
        slot_logged k (count N) (laid f (count N) k) e t,
        earlier_yes e (count N) (only k t (f e k)) p,
        laid_logged k e t p,
        next,
      )
    where
      next : earlier t k (f e t) + only k t (f e k) ≡ earlier t (suc k) (f e t)
      next =
          elim (ℕ_discrete k t) [
            | yes q ↦ rw q (omega (arith, earlier_no t t (f e t) (omega arith), earlier_yes t (suc t) (f e t) (omega arith), only_same t (f e t)))
            | no q ↦
                elim (dec_lt t k) [
                  | yes l ↦ omega (arith, only_other k t (f e k) q, earlier_yes t k (f e t) l, earlier_yes t (suc k) (f e t) (omega arith))
                  | no l ↦ omega (arith, only_other k t (f e k) q, earlier_no t k (f e t) (omega arith), earlier_no t (suc k) (f e t) (omega arith))
                ]
          ]

  -- ---- of a flow

  module _ (T : ℕ) (flow : IsFlow N T f) (k : ℕ) where
    abbrev es : List Entry
    es = laid f (count N) k

    left_same : (v j : ℕ) → j ≤ k → left N (logged es) v j ≡ left N f v j
    left_same v j p = gather_eq _ (count N) v (λ e q. sum_eq j (λ s r. laid_logged k e s q ∙ earlier_yes s k (f e s) (omega arith)))

    arrived_same : (v j : ℕ) → j ≤ k → arrived N (logged es) v j ≡ arrived N f v j
    arrived_same v j p =
        gather_eq _ (count N) v (λ e q. sum_eq (j - (link N e).transit) (λ s r. laid_logged k e s q ∙ earlier_yes s k (f e s) (omega arith)))

    left_after : (v j : ℕ) → k ≤ j → left N (logged es) v j ≡ left N (logged es) v k
    left_after v j p = gather_eq _ (count N) v (λ e q. sum_stops (logged es e) k j p (λ s r. laid_logged k e s q ∙ earlier_no s k (f e s) r))

    balanced : (v j : ℕ) → v < N.places → v ≢ N.origin → left N f v j ≤ arrived N f v j
    balanced v j p q = conserved_before (longer flow (T + j) (omega arith)) v j p q (omega arith)

    conserved : (v j : ℕ) → v < N.places → v ≢ N.origin → left N (logged es) v j ≤ arrived N (logged es) v j
    conserved v j p q =
        elim (dec_le j k) [
          | yes l ↦ omega (arith, left_same v j l, arrived_same v j l, balanced v j p q)
          | no l ↦
              omega (
                arith,
                left_after v j (omega arith),
                left_same v k (omega arith),
                arrived_same v k (omega arith),
                balanced v k p q,
                arrived_rises N es (own es) (laid_ready k) v k j (omega arith),
              )
        ]

    -- a flow, however much of it is laid out, is kept
    pub laid_kept : finding N es ≡ 0
    laid_kept =
        (finding_0 N es (laid_ready k)).1 (record {
          within = λ e s p. omega (arith, laid_logged k e s p, earlier_most s k (f e s), flow.within e s p);
          conserved = λ v s p q. conserved v (suc s) p q;
        })

    -- all of it is logged with its horizon
    laid_all : T ≤ k → (e s : ℕ) → e < count N → logged es e s ≡ f e s
    laid_all p e s q =
        elim (dec_lt s k) [
          | yes l ↦ laid_logged k e s q ∙ earlier_yes s k (f e s) l
          | no l ↦ laid_logged k e s q ∙ earlier_no s k (f e s) (omega arith) ∙ sym (flow.inside e s q (omega (arith, counting_within T)))
        ]

    laid_delivers : T ≤ k → (U : ℕ) → T ≤ U → delivered N U (logged es) ≡ delivered N T f
    unfolding delivered
    laid_delivers p U l =
        ap₂ (λ (a b : ℕ). a - b)
        (gather_eq _ (count N) N.destination (λ e q. sum_eq (counting U - (link N e).transit) (λ s r. laid_all p e s q)))
        (gather_eq _ (count N) N.destination (λ e q. sum_eq (counting U) (λ s r. laid_all p e s q)))
        ∙ longer_delivers flow U l

-- the last slot logged, where there is a link
laid_last : (f : ℕ → ℕ → ℕ) (links k : ℕ) → 1 ≤ links → last_slot (laid f links (suc k)) ≡ k
laid_last f zero k p = absurd (omega arith)
laid_last f (suc m) k p = last_more (record { link = m; slot = k; blocks = f m k }) (slot_on f k m (laid f (suc m) k))

-- "the log of a plan that passes, laid out slot by slot"
module _ (N : Network) (p : Plan) (connects : Connects N) (size : length p.cut ≡ N.places) (passes : verdict N p ≡ 0) where
  certified : Certified N p
  certified = verdict_certifies connects size passes

  pub plan_kept : (k : ℕ) → finding N (laid (load N p.rows) (count N) k) ≡ 0
  plan_kept k = laid_kept N (load N p.rows) p.horizon certified.flow k

  pub plan_figure : 1 ≤ count N → (k : ℕ) → p.horizon ≤ k → 1 ≤ k → figure N (laid (load N p.rows) (count N) k) ≡ p.amount
  plan_figure some zero l q = absurd (omega arith)
  plan_figure some (suc k) l q =
      figure_zero N _ (plan_kept (suc k))
      ∙ ap (λ (s : ℕ). delivered N (suc s) (logged (laid (load N p.rows) (count N) (suc k)))) (laid_last (load N p.rows) (count N) k some)
      ∙ laid_delivers N (load N p.rows) p.horizon certified.flow (suc k) l (suc k) l
      ∙ certified.delivers
