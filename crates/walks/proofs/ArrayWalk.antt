-- An array of plain data in a local, in a walk of MIR by hand. Nothing of plans is in it.
--     elem             element i of an array's cell, as `Types/Part.antt`'s `sub` is a field of a struct's: `store_in` stores to it
--     Held             each element has its machine value.        held_told      so it is where the array has machine values
--     held_set         so it stays where one element is set.       held_is        so the array has its machine value
--     map_set          the machine values of the list with one element set
-- `elem` assumes `Logic`. The rest assumes nothing.
use mathlib.Core.Path.{◌≡◌, refl, ◌∙◌, ap, subst}
use Prim.Native.Nat.{ℕ, zero, suc, ◌+◌, ◌*◌, ◌<◌}
use native.Mathlib.Nat.{le_of_suc-le-suc, not-suc-le-zero}
use mathlib.Core.List.{List, [], ◌∷◌, map}
use lib.ListN.{length, get_or, set, length-set}
use seplogic.Ra.Ura.{Ura}
use mir.Syntax.{Ty, ty_array}
use mir.Val.{Val, vunit}
use base.Logic.{SProp, ent, sep, wand, all, via, mono_r, all_i, all_e, apply∗}
use base.Fml.{Share, fat}
use prog.Memory.{size}
use prog.Model.{elems}
use types.Logic.{Logic}
use types.Kit.{‵, raw, ◌⊛◌, ◌$◌, ◌∵◌, !, qed, move, use1, use2, split, assume, frame, each as for-each, done}
use types.Part.{Part}
use denote.RattleType.{RattleType}
use denote.Shadow.{shadow}
use denote.Laws.{Is}
use denote.Array.{Array, array_val, each}
use denote.Index.{place, place_is}

-- ---- the cell of one element
set_same : (us : List Val) (i : ℕ) → set us i (get_or us i vunit) ≡ us
set_same [] i = refl
set_same (u ∷ us) zero = refl
set_same (u ∷ us) (suc i) = ap (λ (ws : List Val). u ∷ ws) (set_same us i)

module _ {M : Type 1} {𝓤 : Ura M} (𝓛 : Logic 𝓤) (q : Share) (τ : Ty) (b : ℕ) where
  -- where element i lies, from o, and the elements with another value there
  open 𝓛 use {H}

  abbrev At : ℕ → ℕ → Val → SProp 𝓤
  At o i u = H.at q τ b (place (size τ) o i) u

  abbrev Back : ℕ → List Val → ℕ → SProp 𝓤
  Back o us i = all 𝓤 (λ (u : Val). wand 𝓤 (At o i u) (elems 𝓤 H q τ b o (set us i u)))

  apart : (us : List Val) (i o : ℕ) → i < length us → ent 𝓤 (elems 𝓤 H q τ b o us) (sep 𝓤 (At o i (get_or us i vunit)) (Back o us i))
  apart [] i o small = absurd (not-suc-le-zero small)
  apart (v ∷ us) zero o small =
      qed 𝓛 (‵ (fat q τ b o v) ∷ raw (elems 𝓤 H q τ b (o + size τ) us) ∷ []) ∵ frame ! $
      for-each ! (λ (u : Val). wand 𝓤 (At o zero u) (elems 𝓤 H q τ b o (u ∷ us))) (λ u. assume ! (‵ (fat q τ b o u)) $ done !)
  apart (v ∷ us) (suc i) o small =
      let o' : ℕ = o + size τ in
      qed 𝓛 (‵ (fat q τ b o v) ∷ raw (elems 𝓤 H q τ b o' us) ∷ []) ∵ move ! (1 ∷ []) $
      use1 𝓛 (raw (At o' i (get_or us i vunit)) ⊛ raw (Back o' us i)) (apart us i o' (le_of_suc-le-suc small)) $ split ! $ frame ! $
      for-each ! (λ (u : Val). wand 𝓤 (At o (suc i) u) (elems 𝓤 H q τ b o (set (v ∷ us) (suc i) u))) (λ u. assume ! (raw (At o' i u)) $
      -- [the element; the others' way back; the first]
      move ! (1 ∷ []) $ use1 𝓛 (raw (wand 𝓤 (At o' i u) (elems 𝓤 H q τ b o' (set us i u)))) (all_e 𝓤 (λ (w : Val). wand 𝓤 (At o' i w) (elems 𝓤 H q τ b o' (set us i w))) u) $ move ! (1 ∷ 0 ∷ []) $
      use2 𝓛 (raw (elems 𝓤 H q τ b o' (set us i u))) (apply∗ 𝓤 (At o' i u) (elems 𝓤 H q τ b o' (set us i u))) $ move ! (1 ∷ 0 ∷ []) $ done !)

module _ {M : Type 1} {𝓤 : Ura M} {𝓛 : Logic 𝓤} {K : Type 0} where
  open 𝓛 use {H}

  pub elem : K → {q : Share} {τ : Ty} {n b o : ℕ} (us : List Val) (i : ℕ) → i < length us → length us ≡ n
      → Part K 𝓛 (‵ (fat q (ty_array τ n) b o (array_val us))) q τ b (i * size τ + o) (get_or us i vunit) (λ u. ‵ (fat q (ty_array τ n) b o (array_val (set us i u))))
  elem t {q} {τ} {n} {b} {o} us i small len = record {
    out = subst (λ (p : ℕ). ent 𝓤 (H.at q (ty_array τ n) b o (array_val us))
        (sep 𝓤 (H.at q τ b p (get_or us i vunit)) (all 𝓤 (λ (u : Val). wand 𝓤 (H.at q τ b p u) (H.at q (ty_array τ n) b o (array_val (set us i u))))))) (place_is (size τ) o i)
        (via 𝓤 (elems 𝓤 H q τ b o us) (𝓛.laws.at_elems q τ n b o us)
        (via 𝓤 (sep 𝓤 (At 𝓛 q τ b o i (get_or us i vunit)) (Back 𝓛 q τ b o us i)) (apart 𝓛 q τ b us i o small)
        (mono_r 𝓤 (At 𝓛 q τ b o i (get_or us i vunit)) (all_i 𝓤 (λ (u : Val). wand 𝓤 (At 𝓛 q τ b o i u) (H.at q (ty_array τ n) b o (array_val (set us i u)))) (λ u.
        qed 𝓛 (raw (Back 𝓛 q τ b o us i) ∷ []) ∵ use1 𝓛 (raw (wand 𝓤 (At 𝓛 q τ b o i u) (elems 𝓤 H q τ b o (set us i u)))) (all_e 𝓤 (λ (w : Val). wand 𝓤 (At 𝓛 q τ b o i w) (elems 𝓤 H q τ b o (set us i w))) u) $
        assume ! (raw (At 𝓛 q τ b o i u)) $ use2 𝓛 (raw (elems 𝓤 H q τ b o (set us i u))) (apply∗ 𝓤 (At 𝓛 q τ b o i u) (elems 𝓤 H q τ b o (set us i u))) $
        use1 𝓛 (‵ (fat q (ty_array τ n) b o (array_val (set us i u))))
        (subst (λ (m : ℕ). ent 𝓤 (elems 𝓤 H q τ b o (set us i u)) (H.at q (ty_array τ m) b o (array_val (set us i u)))) (length-set us i u ∙ len) (𝓛.laws.elems_at q τ b o (set us i u))) $ done !)))));
    same = ap (λ (ws : List Val). ‵ (fat q (ty_array τ n) b o (array_val ws))) (set_same us i);
  }

-- ---- the machine values of the elements
pub map_set : {X Y : Type 0} (f : X → Y) (xs : List X) (i : ℕ) (x : X) → set (map f xs) i (f x) ≡ map f (set xs i x)
map_set f [] i x = refl
map_set f (y ∷ ys) zero x = refl
map_set {X} {Y} f (y ∷ ys) (suc i) x = ap (λ (zs : List Y). f y ∷ zs) (map_set f ys i x)

module _ (R : RattleType) (low : R.Denot → Val) where
  abbrev pub Held : List R.Denot → Type 0
  Held xs = shadow (each R.Denot R.own_val xs (map low xs))

  pub held_told : ((x : R.Denot) (vs : List Val) → Is R x vs → vs ≡ low x ∷ []) → (xs : List R.Denot) (us : List Val) → shadow (each R.Denot R.own_val xs us) → Held xs
  held_told told [] [] h = h
  held_told told [] (u ∷ us) h = absurd h
  held_told told (x ∷ xs) [] h = absurd h
  held_told told (x ∷ xs) (u ∷ us) h = (subst (Is R x) (told x (u ∷ []) h.0) h.0, held_told told xs us h.1)

  pub held_set : (xs : List R.Denot) (i : ℕ) (x : R.Denot) → Is R x (low x ∷ []) → Held xs → Held (set xs i x)
  held_set [] i x is h = h
  held_set (y ∷ ys) zero x is h = (is, h.1)
  held_set (y ∷ ys) (suc i) x is h = (h.0, held_set ys i x is h.1)

  pub held_is : (n : ℕ) (xs : List R.Denot) → length xs ≡ n → Held xs → Is (Array R n) xs (array_val (map low xs) ∷ [])
  held_is n xs len h = (map low xs, ((refl, len), h))
