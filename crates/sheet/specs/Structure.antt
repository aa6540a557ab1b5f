-- The sheet as its check goes through it behind the header: the records without a look at their names, by places in the sheet.
use Rattle.std.specs.Prelude.{cond, List, [], ◌∷◌, ◌≡◌, ℕ, zero, suc, ◌≤◌, eqb, length, take, drop}
use Rattle.sheet_record.specs.Layout.{Layout, layout_in}
use Rattle.sheet_record.specs.Front.{bad, front, front_of, past, end_at}

-- the places of the length bytes of n records from a place on, up to the first that is refused
unfoldable pub places_from : Layout → List ℕ → ℕ → ℕ → List ℕ
places_from y s zero at = []
places_from y s (suc n) at = elim (front_of y (drop at s)) [ bad k ↦ [] | front f ↦ at ∷ places_from y s n (past at f) ]

-- the number of that refusal; 0 where all n are read and nothing is left over
unfoldable pub fault_from : Layout → List ℕ → ℕ → ℕ → ℕ
fault_from y s zero at = cond (eqb at (length s)) 0 4
fault_from y s (suc n) at = elim (front_of y (drop at s)) [ bad k ↦ k | front f ↦ fault_from y s n (past at f) ]

-- where a walk over n records ends: there stands no record, and in front of the array are the places of the records before it
pub record Walked (s : List ℕ) (n at left count : ℕ) (starts : List ℕ) : Type 0 where
  pub fault : end_at (layout_in s) s at left ≡ fault_from (layout_in s) s n 7
  pub places : take count starts ≡ places_from (layout_in s) s n 7
  pub most : count ≤ 3449
