-- What a property proves of itself, and what follows for every state that asks for it.
use mathlib.Core.Bool.{Bool, true, false}
use mathlib.Core.Option.{Option, none, some}
use mathlib.Core.Path.{◌≡◌, refl, sym, ap, ap₂, ◌∙◌}
use Prim.Native.Nat.{ℕ, ◌≤◌}
use native.Mathlib.Omega.{arith}
use lib.Dec.{T}
use Rattle.air.specs.Held.{Held, refuses}
use Rattle.air.specs.Property.{Property, Either, IsHeld, AcceptedBy, AcceptedAny, ClaimAny, ranged, held_by}
use Rattle.air.specs.Choices.{Choices, Lawful}
use Rattle.air.proofs.Places.{Unrefused}
use Rattle.air.proofs.Tests.{is_true}

first_of : (b : Bool) (A B : Type 0) → T b → Either b A B → A
first_of true A B t x = x
first_of false A B t x = absurd t

-- a range test's verdict: 10, the second value's number, or what is in range
module _ (n : ℕ) (a b : Bool) (h : Held) where
  pub first_refused : a ≡ false → refuses 10 ≡ ranged n a b h
  first_refused e = ap (λ (x : Bool). ranged n x b h) (sym e)

  pub second_refused : a ≡ true → b ≡ false → refuses n ≡ ranged n a b h
  second_refused e f = sym (ap₂ (λ (x y : Bool). ranged n x y h) e f)

  pub both_in_range : a ≡ true → b ≡ true → h ≡ ranged n a b h
  both_in_range e f = sym (ap₂ (λ (x y : Bool). ranged n x y h) e f)

-- ---- what a property proves: what lawful choices make of values in range may be held; what may be held of an accepted state is as claimed, and no refusal;
-- what may be held with number 0 is accepted, so that the claim leaves out refused states alone
pub record Sound (k : Property) : Type 1 where
  pub allowed : (c : Choices) → Lawful c → (v w : ℕ) → T (k.is_first v) → T (k.is_second w) → k.Is v w (k.make c v w)
  pub claim : (n : ℕ) → 128 ≤ n → (v w : ℕ) (h : Held) → AcceptedBy k v w h → k.Is v w h → k.Claim n v w h
  pub no_refusal : (n v w : ℕ) (h : Held) → k.Claim n v w h → h.number ≡ 0
  pub unrefused : (v w : ℕ) (h : Held) → k.Is v w h → h.number ≡ 0 → Unrefused k h
  pub second_number_lem : k.second_number ≡ 0 → ⊥

abbrev pub SoundAny : Option Property → Type 1
SoundAny none = Unit
SoundAny (some k) = Sound k

-- ---- what follows
in_range : (n : ℕ) (a b : Bool) (h : Held) (R : Held → Type 0) → (T a → T b → R h)
    → Either a (Either b (R (ranged n a b h)) (ranged n a b h ≡ refuses n)) (ranged n a b h ≡ refuses 10)
in_range n true true h R f = f tt tt
in_range n true false h R f = refl
in_range n false b h R f = refl

pub held_any : (c : Choices) → Lawful c → (k : Option Property) → SoundAny k → (v w : ℕ) → IsHeld k v w (held_by c k v w)
held_any c law none s v w = refl
held_any c law (some k) s v w = in_range k.second_number (k.is_first v) (k.is_second w) (k.make c v w) (k.Is v w) (s.allowed c law v w)

pub claim_any : (n : ℕ) → 128 ≤ n → (k : Option Property) → SoundAny k → (v w : ℕ) (h : Held) → AcceptedAny k v w h → IsHeld k v w h → ClaimAny n k v w h
claim_any n m none s v w h ok it = absurd ok
claim_any n m (some k) s v w h ok it =
    s.claim n m v w h ok
    (first_of (k.is_second w) (k.Is v w h) (h ≡ refuses k.second_number) ok.no_11
    (first_of (k.is_first v) (Either (k.is_second w) (k.Is v w h) (h ≡ refuses k.second_number)) (h ≡ refuses 10) ok.no_10 it))

pub no_refusal_any : (n : ℕ) (k : Option Property) → SoundAny k → (v w : ℕ) (h : Held) → ClaimAny n k v w h → h.number ≡ 0
no_refusal_any n none s v w h c = absurd c
no_refusal_any n (some k) s v w h c = s.no_refusal n v w h c

-- no refusal of a range has number 0
numbered : {n : ℕ} {h : Held} → (n ≡ 0 → ⊥) → h ≡ refuses n → h.number ≡ 0 → ⊥
numbered never is zero = never (sym (ap (λ (i : Held). i.number) is) ∙ zero)

pub accepted_any : (k : Option Property) → SoundAny k → (v w : ℕ) (h : Held) → IsHeld k v w h → h.number ≡ 0 → AcceptedAny k v w h
accepted_any none s v w h it zero = absurd (numbered {n = 6} (λ e. omega (arith, e)) it zero)
accepted_any (some k) s v w h it zero = go (k.is_first v) (k.is_second w) refl refl it
  where
    go : (a b : Bool) → k.is_first v ≡ a → k.is_second w ≡ b → Either a (Either b (k.Is v w h) (h ≡ refuses k.second_number)) (h ≡ refuses 10) → AcceptedBy k v w h
    go false b e₁ e₂ is = absurd (numbered {n = 10} (λ e. omega (arith, e)) is zero)
    go true false e₁ e₂ is = absurd (numbered s.second_number_lem is zero)
    go true true e₁ e₂ is =
        let u = s.unrefused v w h is zero in
        record { no_10 = is_true e₁; no_11 = is_true e₂; by_logs_lem = u.by_logs_lem; by_fit_lem = u.by_fit_lem }
