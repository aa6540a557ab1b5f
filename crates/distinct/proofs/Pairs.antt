-- Two records with the same name, by their places in the list of starts. Assumes nothing.
use mathlib.Core.Bool.{Bool, true, false, ◌||◌, or-true}
use mathlib.Core.List.{List, [], ◌∷◌}
use mathlib.Core.Path.{◌≡◌, refl, ap, ◌∙◌}
use Prim.Native.Nat.{ℕ, zero, suc, ◌≤◌, ◌<◌}
use native.Mathlib.Omega.{arith}
use lib.ListN.{length, take}
use lib.Seq.{get_or-take, length-take-le}
use Rattle.octets.specs.Bytes.{same}
use Rattle.sheet_name.specs.Name.{name_at}
use Rattle.distinct.specs.Distinct.{seen_in, repeats}
use Rattle.distinct.specs.Chain.{name_of, has_name}

-- the first n records have different names
abbrev pub Apart : List ℕ → List ℕ → ℕ → Type 0
Apart s starts n = (a b : ℕ) → a < b → b < n → has_name s starts (name_of s starts b) a ≡ false

seen_at : (s ps name : List ℕ) (b : ℕ) → b < length ps → same name (name_of s ps b) ≡ true → seen_in s ps name ≡ true
seen_at s [] name b l h = absurd (omega arith)
seen_at s (p ∷ ps) name zero l h = rw h
seen_at s (p ∷ ps) name (suc b) l h = ap (λ (x : Bool). same name (name_at s p) || x) (seen_at s ps name b (omega arith) h) ∙ or-true (same name (name_at s p))

not_seen : (s ps name : List ℕ) → ((b : ℕ) → b < length ps → same name (name_of s ps b) ≡ false) → seen_in s ps name ≡ false
not_seen s [] name h = refl
not_seen s (p ∷ ps) name h = rw (h 0 (omega arith)) (not_seen s ps name (λ b l. h (suc b) (omega arith)))

apart_all : (s ps : List ℕ) → Apart s ps (length ps) → repeats s ps ≡ false
apart_all s [] h = refl
apart_all s (p ∷ ps) h =
    rw (not_seen s ps (name_at s p) (λ b l. h 0 (suc b) (omega arith) (omega arith)))
    (apart_all s ps (λ a b l m. h (suc a) (suc b) (omega arith) (omega arith)))

pair_repeats : (s ps : List ℕ) (a b : ℕ) → a < b → b < length ps → has_name s ps (name_of s ps b) a ≡ true → repeats s ps ≡ true
pair_repeats s [] a b l m h = absurd (omega arith)
pair_repeats s (p ∷ ps) a zero l m h = absurd (omega arith)
pair_repeats s (p ∷ ps) zero (suc b) l m h = rw (seen_at s ps (name_at s p) b (omega arith) h)
pair_repeats s (p ∷ ps) (suc a) (suc b) l m h = rw (pair_repeats s ps a b (omega arith) (omega arith) h) (or-true (seen_in s ps (name_at s p)))

pub apart_repeats : (s starts : List ℕ) (n : ℕ) → n ≤ length starts → Apart s starts n → repeats s (take n starts) ≡ false
apart_repeats s starts n k h =
    apart_all s (take n starts)
    (λ a b l m.
    let m' : b < n = omega (arith, length-take-le n starts k) in
    let l' : a < n = omega arith in
    rw (get_or-take n starts a 0 l', get_or-take n starts b 0 m') (h a b l m'))

pub found_repeats : (s starts : List ℕ) (n a b : ℕ) → n ≤ length starts → a < b → b < n → has_name s starts (name_of s starts b) a ≡ true
    → repeats s (take n starts) ≡ true
found_repeats s starts n a b k l m h =
    let l' : a < n = omega arith in
    pair_repeats s (take n starts) a b l (omega (arith, length-take-le n starts k))
    (rw (get_or-take n starts a 0 l', get_or-take n starts b 0 m) h)
