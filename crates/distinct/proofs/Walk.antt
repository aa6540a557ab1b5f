-- A walk along a chain. Assumes nothing.
use mathlib.Core.Bool.{Bool, true, false}
use mathlib.Core.List.{List}
use mathlib.Core.Path.{◌≡◌, refl, sym, ◌∙◌}
use Prim.Native.Nat.{ℕ, suc, ◌-◌, ◌<◌}
use native.Mathlib.Omega.{arith}
use lib.ListN.{get_or}
use Rattle.std.specs.Prelude.{Option, is_some}
use Rattle.sheet_name.specs.Name.{hash_of}
use Rattle.distinct.specs.Chain.{Reaches, here, there, name_of, has_name, Missed, Walked, met, missed, Table, Placed}
use Rattle.sheet_name.proofs.Same.{same_equal}

reaches_positive : {next : List ℕ} {k j : ℕ} → Reaches next k j → 0 < k
reaches_positive here = omega arith
reaches_positive (there r) = omega arith

module _ (s starts next name : List ℕ) where
  pub walked_missed : {from : ℕ} {r : Option ℕ} → Walked s starts next name from r → is_some r ≡ false → Missed s starts next name from
  walked_missed (met l h) e = cc
  walked_missed (missed m) e = m

  pub walked_met : {from : ℕ} {r : Option ℕ} → Walked s starts next name from r → is_some r ≡ true → (j : ℕ) × (j < from) × (has_name s starts name j ≡ true)
  walked_met (met {j} l h) e = (j, l, h)
  walked_met (missed m) e = cc

  pub missed_none : Missed s starts next name 0
  missed_none j r = absurd (omega (arith, reaches_positive r))

  missed_suc : (k : ℕ) → has_name s starts name k ≡ false → Missed s starts next name (get_or next k 0) → Missed s starts next name (suc k)
  missed_suc k h m j here = h
  missed_suc k h m j (there r) = m j r

  pub missed_before : (k : ℕ) → 0 < k → has_name s starts name (k - 1) ≡ false
      → Missed s starts next name (get_or next (k - 1) 0) → Missed s starts next name k
  missed_before k l h m = let e : k ≡ suc (k - 1) = omega arith in rw e (missed_suc (k - 1) h m)

module _ (s starts heads next : List ℕ) (n : ℕ) (t : Table s starts heads next n) (name : List ℕ) where
  -- a record with the name would be on the name's chain
  pub not_there : Missed s starts next name (get_or heads (hash_of name) 0) → (j : ℕ) → j < n → has_name s starts name j ≡ false
  not_there m j l = go (has_name s starts name j) refl
    where
      go : (b : Bool) → has_name s starts name j ≡ b → b ≡ false
      go false e = refl
      go true e = sym e ∙ m j (rw (← same_equal (name_of s starts j) name e) (t.linked j l))

  pub placed : {r : Option ℕ} → Walked s starts next name (get_or heads (hash_of name) 0) r → Placed s starts n name r
  placed (met {j} l h) =
      record {
        found = λ i e.
            let q : i ≡ j = cc in
            rw q (omega (arith, t.low (hash_of name)), h);
        absent = λ z. cc;
      }
  placed (missed m) = record { found = λ i e. cc; absent = λ z. not_there m }
