-- The chain of a key is its bucket: by recursion over the chain, and over the positions below a number. Assumes nothing.
use mathlib.Core.Path.{◌≡◌, sym, ap, subst, ◌∙◌}
use mathlib.Core.List.{List}
use Prim.Native.Nat.{ℕ, zero, suc, ◌-◌, ◌≤◌, ◌<◌}
use native.Mathlib.Omega.{arith}
use native.Mathlib.Decide.{ℕ_discrete, dec_lt}
use lib.ListN.{length, get_or}
use Rattle.buckets.specs.Buckets.{last, Bucketed}
use Rattle.buckets.proofs.Buckets.{last_le, last_key, last_skips}
use Rattle.residual.specs.Relax.{OnChain, here, later}
use Rattle.residual.proofs.Relax.{on_first}

module _ (keys first next : List ℕ) (g : Bucketed keys first next) (v : ℕ) where
  -- the position at which a chain begins has the key, and the chain goes on with what is below it
  begins : (m e : ℕ) → suc e ≡ last keys m v → (e < m) × (get_or keys e 0 ≡ v)
  begins m e h =
      (omega (arith, last_le keys m v), ap (λ (j : ℕ). get_or keys j 0) (omega arith) ∙ last_key keys m v (omega arith))

  goes_on : (m e : ℕ) → m ≤ length keys → suc e ≡ last keys m v → get_or next e 0 ≡ last keys e v
  goes_on m e l h =
      let b = begins m e h in
      g.goes_on e (omega (arith, b.0)) ∙ ap (last keys e) b.1

  chain_key : {at e : ℕ} → OnChain next at e → (m : ℕ) → m ≤ length keys → at ≡ last keys m v → (e < m) × (get_or keys e 0 ≡ v)
  chain_key (here e) m l h = begins m e h
  chain_key (later e k c) m l h =
      let b = begins m e h in
      let r = chain_key c e (omega (arith, b.0)) (goes_on m e l h) in
      (omega (arith, b.0, r.0), r.1)

  key_chain : (f m e : ℕ) → m ≤ f → m ≤ length keys → e < m → get_or keys e 0 ≡ v → OnChain next (last keys m v) e
  key_chain zero m e p l h k = absurd (omega arith)
  key_chain (suc f) m e p l h k =
      elim (dec_lt e (last keys m v)) [
        | no i ↦ absurd (last_skips keys m v e (omega arith) h k)
        | yes i ↦
            let at : ℕ = last keys m v in
            let s : suc (at - 1) ≡ last keys m v = omega arith in
            elim (ℕ_discrete e (at - 1)) [
              | yes q ↦ subst (λ (j : ℕ). OnChain next at j) (sym q) (on_first next at (omega arith))
              | no q ↦
                  subst (λ (j : ℕ). OnChain next j e) s
                  (later (at - 1) e
                  (subst (λ (j : ℕ). OnChain next j e) (sym (goes_on m (at - 1) l s))
                  (key_chain f (at - 1) e (omega (arith, last_le keys m v)) (omega (arith, last_le keys m v)) (omega arith) k)))
            ]
      ]

  module _ (h : v < length first) where
    pub listed_key : (e : ℕ) → OnChain next (get_or first v 0) e → (e < length keys) × (get_or keys e 0 ≡ v)
    listed_key e c = chain_key c (length keys) (omega arith) (g.begins v h)

    pub key_listed : (e : ℕ) → e < length keys → get_or keys e 0 ≡ v → OnChain next (get_or first v 0) e
    key_listed e i k =
        subst (λ (j : ℕ). OnChain next j e) (sym (g.begins v h)) (key_chain (length keys) (length keys) e (omega arith) (omega arith) i k)

    pub listed_falls : (e : ℕ) → OnChain next (get_or first v 0) e → get_or next e 0 ≤ e
    listed_falls e c = omega (arith, g.goes_on e (listed_key e c).0, last_le keys e (get_or keys e 0))
