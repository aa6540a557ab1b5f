-- An array of which a closure made each element: it is a list whose numbers the calls give.
use mathlib.Core.List.{List}
use mathlib.Core.Path.{◌≡◌, sym, ◌∙◌}
use Prim.Native.Nat.{ℕ, zero, suc, ◌+◌, ◌<◌}
use native.Mathlib.Omega.{arith}
use lib.IntN.{ℤ, pos}
use lib.ListN.{get_or, length}
use denote.Param.Members.{Mut, Called}
use Rattle.std.specs.Array.{IsFromFnResultFrom, IsFromFnResult}
use Rattle.std.proofs.lemmas.List.{ext_get_or}

-- keeps is true of the closure before and after each call
module _ {F : Type 0} {g : Mut F (ℕ × Unit {0}) ℤ} (ys want : List ℤ) (keeps : F → Type 0) (call : (p q : F) (i : ℕ) (y : ℤ) → keeps p → Called g p (i, tt) y q → (y ≡ get_or want i (pos 0)) × keeps q) where
  from : (n i : ℕ) (f : F) → keeps f → IsFromFnResultFrom g f ys i n → (k : ℕ) → k < n → get_or ys (k + i) (pos 0) ≡ get_or want (k + i) (pos 0)
  from zero i f h e k l = let g : ⊥ = omega (arith, l) in absurd g
  from (suc n) i f h e zero l =
      let p : 0 + i ≡ i = omega arith in
      rw p (e.2.1 (pos 0) ∙ (call f e.0 i e.1 h e.3).0)
  from (suc n) i f h e (suc k) l =
      let p : suc k + i ≡ k + (i + 1) = omega arith in
      rw p (from n (i + 1) e.0 (call f e.0 i e.1 h e.3).1 e.4 k (omega (arith, l)))

  pub made : {f : F} {n : ℕ} → IsFromFnResult g f ys n → keeps f → length want ≡ n → ys ≡ want
  made {f} {n} m h e = ext_get_or (pos 0) ys want (m.long ∙ sym e) (λ k l. let p : k + 0 ≡ k = omega arith in rw p at (from n 0 f h m.each k (rw m.long at l)))
