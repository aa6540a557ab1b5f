-- A name that is written and read is the name again.
-- Assumes nothing.
use mathlib.Core.Bool.{Bool, true, false, cond}
use mathlib.Core.List.{List, [], ◌∷◌, ◌++◌}
use mathlib.Core.Path.{◌≡◌, refl, ap, ◌∙◌}
use Prim.Native.Nat.{ℕ, ◌+◌, ◌*◌, ◌/◌, ◌%◌, ◌<◌}
use native.Mathlib.Nat.{div-add-mod'}
use native.Mathlib.Omega.{arith}
use borrow.Author.Tests.{lt-ltb, eqb-true}
use lib.Dec.{eqb}
use lib.ListN.{length}
use Rattle.octets.specs.Bytes.{Bytes, no_byte, byte}
use Rattle.octets.specs.Room.{text, refused}
use Rattle.name.specs.Spelling.{unreserved, hex_value, hex_digit, spelled_byte, spelled, bytes, push, reading}
use Rattle.name.specs.Name.{is_length, judged, name_of}
use Rattle.name.specs.Laws.{WriteThenRead}
use Rattle.name.proofs.Ranges.{along, as_true}
use Rattle.name.proofs.Written.{spelling_whole}

-- a byte that stands for itself is read as itself
pub plain_read : (x : ℕ) (xs : List ℕ) → unreserved x ≡ true → reading (x ∷ xs) ≡ push x (reading xs)
unfolding reading
plain_read x [] e = simp e
plain_read x (h ∷ []) e = simp e
plain_read x (h ∷ (l ∷ r)) e = simp e

pub digit_value : (n : ℕ) → n < 16 → hex_value (hex_digit n) ≡ n
unfolding hex_value
digit_value n h = eqb-true (hex_value (hex_digit n)) n (along (λ m. eqb (hex_value (hex_digit m)) m) 0 16 tt n (omega arith) (omega arith))

pub percent_reserved : unreserved 37 ≡ false
unfolding unreserved
percent_reserved = refl

-- a percent form is read as the byte that its digits give
pub form_read : (h l : ℕ) (r : List ℕ) → hex_value h < 16 → hex_value l < 16 → reading (37 ∷ (h ∷ (l ∷ r))) ≡ push (hex_value h * 16 + hex_value l) (reading r)
unfolding reading
form_read h l r p q = simp (percent_reserved, lt-ltb (hex_value h) 16 p, lt-ltb (hex_value l) 16 q)

-- the digits that are written give the byte again
pub written_value : (b : ℕ) → b < 256 → hex_value (hex_digit (b / 16)) * 16 + hex_value (hex_digit (b % 16)) ≡ b
written_value b h = rw (digit_value (b / 16) (omega arith), digit_value (b % 16) (omega arith)) (div-add-mod' b 16)

byte_read : (b : ℕ) (t : List ℕ) → b < 256 → (u : Bool) → unreserved b ≡ u → reading (spelled_byte b ++ t) ≡ push b (reading t)
unfolding spelled_byte
byte_read b t h true e = ap (λ (c : Bool). reading (cond c (b ∷ []) (37 ∷ hex_digit (b / 16) ∷ hex_digit (b % 16) ∷ []) ++ t)) e ∙ plain_read b t e
byte_read b t h false e =
    let u = digit_value (b / 16) (omega arith) in
    let v = digit_value (b % 16) (omega arith) in
    ap (λ (c : Bool). reading (cond c (b ∷ []) (37 ∷ hex_digit (b / 16) ∷ hex_digit (b % 16) ∷ []) ++ t)) e
    ∙ form_read (hex_digit (b / 16)) (hex_digit (b % 16)) t (omega (arith, u)) (omega (arith, v))
    ∙ ap (λ (n : ℕ). push n (reading t)) (written_value b h)

name_read : {bs : List ℕ} → Bytes bs → reading (spelled bs) ≡ bytes bs
unfolding reading spelled
name_read no_byte = refl
name_read (byte {b = b} {bs = bs} h t) = byte_read b (spelled bs) h (unreserved b) refl ∙ ap (push b) (name_read t)

pub write_then_read : WriteThenRead
unfolding name_of
write_then_read name h t =
    let e = as_true (is_length (length name)) t in
    (spelling_whole name e, ap judged (name_read h) ∙ ap (λ (b : Bool). cond b (text name) (refused 8)) e)
