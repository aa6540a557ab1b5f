-- As many records are read of an accepted sheet as it announces, and each has bytes of its own.
use mathlib.Core.Bool.{Bool, true, false, cond}
use mathlib.Core.List.{List, [], ◌∷◌}
use mathlib.Core.Path.{◌≡◌, refl, sym, ap, ◌∙◌}
use Prim.Native.Nat.{ℕ, zero, suc, ◌+◌, ◌≤◌}
use native.Mathlib.Omega.{arith}
use borrow.Author.Tests.{eqb-true}
use lib.Dec.{eqb}
use lib.ListN.{length, drop}
use Rattle.octets.specs.Bytes.{number_at}
use Rattle.sheet_record.specs.Layout.{Layout, layout_in}
use Rattle.sheet_record.specs.Front.{Front, bad, front, front_of, record_at, past}
use Rattle.sheet_record.specs.declared.Record.{Record}
use Rattle.sheet_record.proofs.Places.{View, refuses, view}
use Rattle.sheet.specs.Sheet.{Sheet, records, sheet_of, records_of, Accepted}
use Rattle.sheet.specs.Structure.{fault_from}
use Rattle.sheet.proofs.Accept.{accepted_fault, accepted_is}
use Rattle.sheet.proofs.Walk.{records_from}

read_all : (y : Layout) (s : List ℕ) (n at : ℕ) → fault_from y s n at ≡ 0 → (length (records_from y s n at) ≡ n) × (n + at ≤ length s)
unfolding records_from fault_from
read_all y s zero at e = (refl, go (eqb at (length s)) refl e)
  where
    go : (b : Bool) → eqb at (length s) ≡ b → ◌≡◌ {A = ℕ} (cond b 0 4) 0 → 0 + at ≤ length s
    go true p h = omega (arith, eqb-true at (length s) p)
    go false p h = absurd (omega arith)
read_all y s (suc n) at e = go (read_all y s n) (front_of y (drop at s)) (view y s at) e
  where
    go : ((at : ℕ) → fault_from y s n at ≡ 0 → (length (records_from y s n at) ≡ n) × (n + at ≤ length s)) → (t : Front) → View y s at t
        → ◌≡◌ {A = ℕ} (elim t as (λ x. ℕ) [ bad k ↦ k | front f ↦ fault_from y s n (past at f) ]) 0
        → (length {A = Record} (elim t as (λ x. List Record) [ bad k ↦ [] | front f ↦ record_at at f ∷ records_from y s n (past at f) ]) ≡ suc n) × (suc n + at ≤ length s)
    go ih (bad k) (refuses z) h = absurd (z h)
    go ih (front f) v h = let i = ih (past at f) h in (ap suc i.0, omega (arith, i.1))

module _ (s : List ℕ) (a : Accepted s) where
  pub accepted_records : sheet_of s ≡ records (records_of (sheet_of s))
  accepted_records = accepted_is s a ∙ ap (λ (x : Sheet). records (records_of x)) (sym (accepted_is s a))

  pub accepted_count : length (records_of (sheet_of s)) ≡ number_at 2 s 5
  accepted_count = ap (λ (x : Sheet). length (records_of x)) (accepted_is s a) ∙ (read_all (layout_in s) s (number_at 2 s 5) 7 (accepted_fault s a)).0

  pub accepted_few : number_at 2 s 5 + 7 ≤ length s
  accepted_few = (read_all (layout_in s) s (number_at 2 s 5) 7 (accepted_fault s a)).1
