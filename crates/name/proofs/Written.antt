-- How long a spelling is, and what is written in any room.
-- Assumes nothing.
use mathlib.Core.Bool.{Bool, true, false, cond}
use mathlib.Core.List.{List, [], ◌∷◌, ◌++◌, append_assoc, append-nil}
use mathlib.Core.Path.{◌≡◌, refl, sym, ap, ◌∙◌}
use Prim.Native.Nat.{ℕ, ◌*◌, ◌/◌, ◌%◌, ◌≤◌}
use native.Mathlib.Omega.{arith}
use borrow.Author.Tests.{le-leb}
use lib.Dec.{leb}
use lib.ListN.{length, length-append}
use Rattle.octets.specs.Room.{Text, text, refused, fitting}
use Rattle.name.specs.Spelling.{unreserved, hex_digit, spelled_byte, spelled}
use Rattle.name.specs.Name.{is_length, spelling_of}
use Rattle.name.proofs.Ranges.{inside}

pub spelled_append : (a b : List ℕ) → spelled (a ++ b) ≡ spelled a ++ spelled b
unfolding spelled
spelled_append [] b = refl
spelled_append (x ∷ a) b = ap (λ (l : List ℕ). spelled_byte x ++ l) (spelled_append a b) ∙ sym (append_assoc (spelled_byte x) (spelled a) (spelled b))

pub spelled_one : (x : ℕ) → spelled (x ∷ []) ≡ spelled_byte x
unfolding spelled
spelled_one x = append-nil (spelled_byte x)

-- a byte is written as one byte or three
pub byte_length : (b : ℕ) → (1 ≤ length (spelled_byte b)) × (length (spelled_byte b) ≤ 3)
unfolding spelled_byte
byte_length b = go (unreserved b)
  where
    go : (u : Bool) → (1 ≤ length (cond u (b ∷ []) (37 ∷ hex_digit (b / 16) ∷ hex_digit (b % 16) ∷ []))) × (length (cond u (b ∷ []) (37 ∷ hex_digit (b / 16) ∷ hex_digit (b % 16) ∷ [])) ≤ 3)
    go true = omega arith
    go false = omega arith

pub spelled_length : (bs : List ℕ) → length (spelled bs) ≤ 3 * length bs
unfolding spelled
spelled_length [] = omega arith
spelled_length (b ∷ bs) = let h = spelled_length bs in let k = byte_length b in simp length-append (omega arith)

-- what is written in any room, by what is written in 120 bytes, which is always room enough
abbrev pub refit : ℕ → Text → Text
refit room (refused n) = refused n
refit room (text t) = fitting room t

abbrev chosen : Bool → Bool → List ℕ → Text
chosen a b t = cond a (cond b (text t) (refused 14)) (refused 8)

module _ (name : List ℕ) where
  pub short : is_length (length name) ≡ true → length (spelled name) ≤ 120
  short e = let h = spelled_length name in let k = inside 1 40 (length name) e in omega arith

  pub spelling_whole : is_length (length name) ≡ true → spelling_of name 120 ≡ text (spelled name)
  unfolding spelling_of
  spelling_whole e =
      ap (λ (b : Bool). chosen b (leb (length (spelled name)) 120) (spelled name)) e
      ∙ ap (λ (b : Bool). chosen true b (spelled name)) (le-leb (length (spelled name)) 120 (short e))

  pub spelling_none : (room : ℕ) → is_length (length name) ≡ false → spelling_of name room ≡ refused 8
  unfolding spelling_of
  spelling_none room e = ap (λ (b : Bool). chosen b (leb (length (spelled name)) room) (spelled name)) e

  pub spelling_refit : (room : ℕ) → spelling_of name room ≡ refit room (spelling_of name 120)
  unfolding spelling_of
  spelling_refit room = go (is_length (length name)) refl
    where
      go : (b : Bool) → is_length (length name) ≡ b → spelling_of name room ≡ refit room (spelling_of name 120)
      go true e = ap (λ (b : Bool). chosen b (leb (length (spelled name)) room) (spelled name)) e ∙ ap (refit room) (sym (spelling_whole e))
      go false e = spelling_none room e ∙ ap (refit room) (sym (spelling_none 120 e))
