-- Texts in turn, as they are put into a room, and the bytes of a number.
use mathlib.Core.List.{List, [], ◌∷◌, ◌++◌, append_assoc}
use mathlib.Core.Path.{◌≡◌, refl, sym, ap, ap₂, ◌∙◌, subst}
use Prim.Native.Nat.{ℕ, zero, suc, ◌+◌, ◌/◌, ◌%◌, ◌^◌, ◌≤◌}
use native.Mathlib.Nat.{pow-suc, div-div-eq-div-mul}
use native.Mathlib.Omega.{arith}
use lib.ListN.{length, drop, length-append}
use Rattle.std.specs.Int.{bytes_high_first, byte_at}
use Rattle.octets.specs.Bytes.{number_at, bytes_of, part}
use Rattle.octets.specs.Room.{text, written, put_at}
use Rattle.octets.proofs.Room.{put_twice}
use Rattle.append_record.specs.Grown.{new_record, grown}

-- ---- std's bytes of a number are its lowest bytes, high byte first
shifted : (j n : ℕ) → byte_at (suc j) n ≡ byte_at j (n / 256)
shifted zero n = refl
shifted (suc i) n =
    ap (λ (m : ℕ). n / m % 256) (pow-suc 256 (suc i) ∙ omega arith) ∙ ap (λ (m : ℕ). m % 256) (sym (div-div-eq-div-mul n 256 (256 ^ suc i)))

last : (k n : ℕ) → bytes_high_first (suc k) n ≡ bytes_high_first k (n / 256) ++ (n % 256 ∷ [])
last zero n = refl
last (suc j) n = ap₂ (λ (b : ℕ) (l : List ℕ). b ∷ l) (shifted j n) (last j n)

pub high_first : (k n : ℕ) → bytes_high_first k n ≡ bytes_of k n
unfolding bytes_of
high_first zero n = refl
high_first (suc k) n = last k n ∙ ap (λ (l : List ℕ). l ++ (n % 256 ∷ [])) (high_first k (n / 256))

-- ---- a text stands behind a place of a room, and ends at another
pub record Put (room : List ℕ) (at : ℕ) (t : List ℕ) (next : ℕ) (out : List ℕ) : Type 0 where
  pub here : next ≡ at + length t
  pub holds : out ≡ put_at room at t

-- one text more
pub put_more : {room : List ℕ} {at : ℕ} {t : List ℕ} {next later : ℕ} {out last : List ℕ} (u : List ℕ)
    → at ≤ length room
    → Put room at t next out
    → (later ≡ next + length u) × (last ≡ put_at out next u)
    → Put room at (t ++ u) later last
put_more {room} {at} {t} u h p e =
    record {
      here = omega (arith, p.here, e.0, length-append t u);
      holds = e.1 ∙ ap₂ (λ (x : List ℕ) (i : ℕ). put_at x i u) p.holds p.here ∙ put_twice room t u at h;
    }

-- parts in turn are the record
pub record_put : {room : List ℕ} {at next : ℕ} {out : List ℕ} (name : List ℕ) (kind first second : ℕ) (b c : List ℕ)
    → b ≡ bytes_high_first 8 first
    → c ≡ bytes_high_first 8 second
    → Put room at ((((((length name ∷ []) ++ name) ++ (kind ∷ [])) ++ b) ++ c) ++ (0 ∷ [])) next out
    → (next ≡ at + length (new_record name kind first second)) × (out ≡ put_at room at (new_record name kind first second))
record_put {room} {at} {next} {out} name kind first second b c f g p =
    let a : List ℕ = length name ∷ name in
    let e : (((a ++ (kind ∷ [])) ++ b) ++ c) ++ (0 ∷ []) ≡ new_record name kind first second =
    append_assoc ((a ++ (kind ∷ [])) ++ b) c (0 ∷ [])
    ∙ append_assoc (a ++ (kind ∷ [])) b (c ++ (0 ∷ []))
    ∙ append_assoc a (kind ∷ []) (b ++ (c ++ (0 ∷ [])))
    ∙ ap₂ (λ (x y : List ℕ). a ++ (kind ∷ (x ++ (y ++ (0 ∷ []))))) (f ∙ high_first 8 first) (g ∙ high_first 8 second) in
    subst (λ (r : List ℕ). (next ≡ at + length r) × (out ≡ put_at room at r)) e (p.here, p.holds)

-- and the sheet with its count raised, then the record
pub grown_put : {room : List ℕ} {next : ℕ} {out : List ℕ} (s r : List ℕ) (raised : ℕ) (b : List ℕ)
    → raised ≡ number_at 2 s 5
    → b ≡ bytes_high_first 2 (raised + 1)
    → Put room 0 (((part s 0 5 ++ b) ++ drop 7 s) ++ r) next out
    → out ≡ written (text (grown s r)) room
grown_put {room} {next} {out} s r raised b n f p =
    let a : List ℕ = part s 0 5 in
    let c : b ≡ bytes_of 2 (suc (number_at 2 s 5)) = f ∙ high_first 2 (raised + 1) ∙ ap (bytes_of 2) (omega arith) in
    let e : ((a ++ b) ++ drop 7 s) ++ r ≡ grown s r =
    append_assoc (a ++ b) (drop 7 s) r
    ∙ append_assoc a b (drop 7 s ++ r)
    ∙ ap (λ (x : List ℕ). a ++ (x ++ (drop 7 s ++ r))) c in
    let z : 0 + length (grown s r) ≡ length (grown s r) = omega arith in
    p.holds ∙ ap (put_at room 0) e ∙ ap (λ (i : ℕ). grown s r ++ drop i room) z
