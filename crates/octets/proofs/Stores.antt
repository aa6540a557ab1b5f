-- A run of stores behind a text that already stands at the start of a room, and what is left behind the end of a list.
-- Assumes nothing.
use mathlib.Core.List.{List, [], ◌∷◌, ◌++◌}
use mathlib.Core.Path.{◌≡◌, refl, ap, ◌∙◌, subst}
use Prim.Native.Nat.{ℕ, ◌+◌, ◌≤◌}
use native.Mathlib.Omega.{arith}
use lib.ListN.{length, drop, length-append, length-drop}
use lib.Seq.{sets, sets-eq, take_at, drop-append-add, drop-drop}

pub put_more : (t u z : List ℕ) (n : ℕ) → length t ≡ n → n + length u ≤ length z → sets (t ++ drop n z) n u ≡ (t ++ u) ++ drop (n + length u) z
put_more t u z n e h =
    let l : n + length u ≤ length (t ++ drop n z) = simp (length-append, length-drop) (omega arith) in
    sets-eq u (t ++ drop n z) n l
    ∙ ap (λ (x : List ℕ). (x ++ u) ++ drop (n + length u) (t ++ drop n z)) (take_at t (drop n z) n e)
    ∙ ap (λ (x : List ℕ). (t ++ u) ++ x)
    (subst (λ (m : ℕ). drop (m + length u) (t ++ drop n z) ≡ drop (length u) (drop n z)) e (drop-append-add t (drop n z) (length u)) ∙ drop-drop (length u) n z)

pub dropped : {A : Type 0} (n : ℕ) (l : List A) → length l ≤ n → drop n l ≡ []
dropped n l h = nothing (drop n l) (omega (arith, length-drop n l))
  where
    nothing : {A : Type 0} (l : List A) → length l ≡ 0 → l ≡ []
    nothing [] e = refl
    nothing (x ∷ l) e = let f : ⊥ = omega arith in absurd f
