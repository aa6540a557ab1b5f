-- Each answer comes exactly at its condition.
use mathlib.Core.Bool.{Bool, true, false, ◌&&◌}
use mathlib.Core.List.Memᴰ
use mathlib.Core.List.{List, [], ◌∷◌, Memᴰ}
use mathlib.Core.Logic.{◌⊎◌, inl, inr}
use mathlib.Core.Path.{◌≡◌, refl, sym, ap, ◌∙◌, subst}
use Prim.Native.Nat.{ℕ, zero, suc, ◌+◌, ◌≤◌}
use native.Mathlib.Omega.{arith}
use borrow.Author.Tests.{ltb-true, ltb-false, eqb-true, eqb-false}
use lib.Dec.{ltb, eqb}
use lib.ListN.{length}
use Rattle.octets.proofs.Told.{fits, short}
use Rattle.sheet_record.specs.declared.Record.{Record}
use Rattle.sheet.specs.Sheet.{records, sheet_of, number_of, records_of}
use Rattle.sheet_version.specs.Version.{sheet_in}
use Rattle.sheet_version.proofs.Version.{read_in_lem, in_read}
use Rattle.sheet_remark.specs.Remark.{remark_in}
use Rattle.convert_records.specs.Records.{sheet_as, bare}
use Rattle.convert.specs.Convert.{forward, back}
use Rattle.convert.specs.ForwardAnswer.{ForwardAnswer, ForwardExactly, ForwardRefuses}
use Rattle.convert.specs.BackAnswer.{BackAnswer, NoRemark, BackExactly, BackRefuses}
use Rattle.convert.proofs.Paired.{and_true}
use Rattle.convert.proofs.Texts.{forward_length, back_length, forward_own, forward_long, forward_fitting, back_own, back_remarked, back_fitting}

-- forward, the result is longer by the records that are read
forward_count : (s : List ℕ) {rs : List Record} → sheet_in 1 s ≡ records rs → length (sheet_as 2 s (records_of (sheet_of s))) ≡ length s + length rs
forward_count s p = let i = in_read 1 s p in forward_length s i.0 ∙ ap (λ (x : List Record). length s + length x) i.1

-- where the sheet is accepted
module _ (s : List ℕ) (room : ℕ) (a : number_of (sheet_in 1 s) ≡ 0) where
  forward_fits : (b : Bool) → ltb room (length s + length (records_of (sheet_of s))) ≡ b → length s + length (records_of (sheet_of s)) ≤ 65536
      → ForwardAnswer s room (forward s room)
  forward_fits true p m =
      let l = ltb-true room (length s + length (records_of (sheet_of s))) p in
      subst (ForwardAnswer s room) (sym (forward_fitting s room _ a (forward_length s a) m ∙ short room (sheet_as 2 s (records_of (sheet_of s))) (omega (arith, forward_length s a)))) (ForwardAnswer.short (read_in_lem 1 s a) m l)
  forward_fits false p m =
      let l = ltb-false room (length s + length (records_of (sheet_of s))) p in
      subst (ForwardAnswer s room) (sym (forward_fitting s room _ a (forward_length s a) m ∙ fits room (sheet_as 2 s (records_of (sheet_of s))) (omega (arith, forward_length s a)))) (ForwardAnswer.taken (read_in_lem 1 s a) m l (forward_length s a))

  forward_grown : (b : Bool) → ltb 65536 (length s + length (records_of (sheet_of s))) ≡ b → ForwardAnswer s room (forward s room)
  forward_grown true p =
      let l = ltb-true 65536 (length s + length (records_of (sheet_of s))) p in
      subst (ForwardAnswer s room) (sym (forward_long s room _ a (forward_length s a) l)) (ForwardAnswer.long (read_in_lem 1 s a) l)
  forward_grown false p =
      forward_fits (ltb room (length s + length (records_of (sheet_of s)))) refl (ltb-false 65536 (length s + length (records_of (sheet_of s))) p)

pub forward_exactly : ForwardExactly
forward_exactly s room = go (number_of (sheet_in 1 s)) refl
  where
    go : (k : ℕ) → number_of (sheet_in 1 s) ≡ k → ForwardAnswer s room (forward s room)
    go zero e = forward_grown s room e (ltb 65536 (length s + length (records_of (sheet_of s)))) refl
    go (suc k) e =
        let z : suc k ≡ 0 → ⊥ = λ h. omega arith in
        subst (ForwardAnswer s room) (sym (forward_own s room (suc k) (sym e) z)) (ForwardAnswer.own e z)

pub forward_refuses : ForwardRefuses
forward_refuses s room k (ForwardAnswer.own p z) = forward_own s room k (sym p) z
forward_refuses s room k (ForwardAnswer.long p l) = forward_long s room _ (in_read 1 s p).0 (forward_count s p) l
forward_refuses s room k (ForwardAnswer.short p m l) =
    forward_fitting s room _ (in_read 1 s p).0 (forward_count s p) m ∙ short room (sheet_as 2 s (records_of (sheet_of s))) (omega (arith, forward_count s p))

-- records without a remark, and one that has a remark
pub none_remarked : (s : List ℕ) (rs : List Record) → bare s rs ≡ true → NoRemark s rs
unfolding bare
none_remarked s [] b r m = absurd (Memᴰ.not-nil m)
none_remarked s (q ∷ rs) b r m =
    let o = and_true (eqb (remark_in s q).len 0) (bare s rs) b in
    go (eqb-true (remark_in s q).len 0 o.0) (none_remarked s rs o.1 r) (Memᴰ.append_cases (q ∷ []) m)
  where
    go : (remark_in s q).len ≡ 0 → (Memᴰ r rs → (remark_in s r).len ≡ 0) → Memᴰ r (q ∷ []) ⊎ Memᴰ r rs → (remark_in s r).len ≡ 0
    go e ih (inl k) = ap (λ (x : Record). (remark_in s x).len) (Memᴰ.eq_of_singleton k) ∙ e
    go e ih (inr k) = ih k

record Remarked (s : List ℕ) (rs : List Record) : Type 0 where
  here : Record
  among : Memᴰ here rs
  some : (remark_in s here).len ≡ 0 → ⊥

one_remarked : (s : List ℕ) (rs : List Record) → bare s rs ≡ false → Remarked s rs
unfolding bare
one_remarked s [] b = let f : ◌≡◌ {A = ℕ} 0 1 = cc in absurd (omega arith)
one_remarked s (q ∷ rs) b = go (one_remarked s rs) (eqb (remark_in s q).len 0) refl b
  where
    go : (bare s rs ≡ false → Remarked s rs) → (c : Bool) → eqb (remark_in s q).len 0 ≡ c → c && bare s rs ≡ false → Remarked s (q ∷ rs)
    go ih false p h = record { here = q; among = Memᴰ.head refl; some = eqb-false (remark_in s q).len 0 p }
    go ih true p h = let r = ih h in record { here = r.here; among = Memᴰ.tail r.among; some = r.some }

-- and back from there
remarked_one : (s : List ℕ) (rs : List Record) (r : Record) → Memᴰ r rs → ((remark_in s r).len ≡ 0 → ⊥) → bare s rs ≡ false
remarked_one s rs r m z = go (bare s rs) refl
  where
    go : (b : Bool) → bare s rs ≡ b → bare s rs ≡ false
    go true e = absurd (z (none_remarked s rs e r m))
    go false e = e

no_remark : (s : List ℕ) (rs : List Record) → NoRemark s rs → bare s rs ≡ true
no_remark s rs n = go (bare s rs) refl
  where
    go : (b : Bool) → bare s rs ≡ b → bare s rs ≡ true
    go true e = e
    go false e = let r = one_remarked s rs e in absurd (r.some (n r.here r.among))

-- back, where the sheet is accepted
module _ (s : List ℕ) (room : ℕ) (a : number_of (sheet_in 2 s) ≡ 0) where
  back_fits : bare s (records_of (sheet_of s)) ≡ true → (b : Bool) → ltb room (length (sheet_as 1 s (records_of (sheet_of s)))) ≡ b → BackAnswer s room (back s room)
  back_fits n true p =
      let l = ltb-true room (length (sheet_as 1 s (records_of (sheet_of s)))) p in
      subst (BackAnswer s room) (sym (back_fitting s room a n ∙ short room (sheet_as 1 s (records_of (sheet_of s))) l))
      (BackAnswer.short (read_in_lem 2 s a) (none_remarked s (records_of (sheet_of s)) n) (omega (arith, back_length s a n)))
  back_fits n false p =
      let l = ltb-false room (length (sheet_as 1 s (records_of (sheet_of s)))) p in
      subst (BackAnswer s room) (sym (back_fitting s room a n ∙ fits room (sheet_as 1 s (records_of (sheet_of s))) l))
      (BackAnswer.taken (read_in_lem 2 s a) (none_remarked s (records_of (sheet_of s)) n) (omega (arith, back_length s a n)) (omega (arith, back_length s a n)))

  back_looked : (b : Bool) → bare s (records_of (sheet_of s)) ≡ b → BackAnswer s room (back s room)
  back_looked true n = back_fits n (ltb room (length (sheet_as 1 s (records_of (sheet_of s))))) refl
  back_looked false n =
      let r = one_remarked s (records_of (sheet_of s)) n in
      subst (BackAnswer s room) (sym (back_remarked s room a n)) (BackAnswer.remarked (read_in_lem 2 s a) r.among r.some)

pub back_exactly : BackExactly
back_exactly s room = go (number_of (sheet_in 2 s)) refl
  where
    go : (k : ℕ) → number_of (sheet_in 2 s) ≡ k → BackAnswer s room (back s room)
    go zero e = back_looked s room e (bare s (records_of (sheet_of s))) refl
    go (suc k) e =
        let z : suc k ≡ 0 → ⊥ = λ h. omega arith in
        subst (BackAnswer s room) (sym (back_own s room (suc k) (sym e) z)) (BackAnswer.own e z)

pub back_refuses : BackRefuses
back_refuses s room k (BackAnswer.own p z) = back_own s room k (sym p) z
back_refuses s room k (BackAnswer.remarked {rs} {r} p m z) =
    let i = in_read 2 s p in
    back_remarked s room i.0 (ap (bare s) i.1 ∙ remarked_one s rs r m z)
back_refuses s room k (BackAnswer.short {rs} p n l) =
    let i = in_read 2 s p in
    let b : bare s (records_of (sheet_of s)) ≡ true = ap (bare s) i.1 ∙ no_remark s rs n in
    back_fitting s room i.0 b
    ∙ short room (sheet_as 1 s (records_of (sheet_of s))) (omega (arith, back_length s i.0 b, ap (λ (x : List Record). length x) i.1))
