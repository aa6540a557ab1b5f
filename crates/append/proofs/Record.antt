-- The bytes of a new record read back to what it was made of.
use mathlib.Core.Bool.{true}
use mathlib.Core.List.{List, [], ◌∷◌, ◌++◌, append_assoc}
use mathlib.Core.Path.{◌≡◌, sym, ap, ◌∙◌}
use Prim.Native.Nat.{ℕ, ◌+◌, ◌^◌, ◌≤◌, ◌<◌}
use native.Mathlib.Omega.{arith}
use borrow.Author.Tests.{ne_eqb, le-ltb}
use lib.ListN.{length, get_or, take, length-append}
use lib.Seq.{take_all, take_at, drop_at, drop-append-add, get_or-append_seam}
use Rattle.kind.specs.Kind.{kind_of, is_known}
use Rattle.octets.specs.Bytes.{number_at, after, bytes_of}
use Rattle.octets.proofs.Numbers.{bytes_length, bytes_number}
use Rattle.sheet_record.specs.Layout.{remark_layout}
use Rattle.sheet_record.specs.Front.{Fields, front, front_of}
use Rattle.sheet.proofs.Heads.{front_head}
use Rattle.append_record.specs.Grown.{new_record}

module _ (name : List ℕ) (kind first second : ℕ) where
  -- the name, the kind and the two values
  pub body : List ℕ
  body = name ++ (kind ∷ (bytes_of 8 first ++ bytes_of 8 second))

  pub body_length : length body ≡ length name + 17
  unfolding body
  body_length =
      omega (arith, length-append name (kind ∷ (bytes_of 8 first ++ bytes_of 8 second)), length-append (bytes_of 8 first) (bytes_of 8 second), bytes_length 8 first, bytes_length 8 second)

  pub record_is : new_record name kind first second ≡ length name ∷ (body ++ (0 ∷ []))
  unfolding body
  record_is =
      ap (λ (x : List ℕ). length name ∷ (name ++ (kind ∷ x))) (sym (append_assoc (bytes_of 8 first) (bytes_of 8 second) (0 ∷ [])))
      ∙ ap (λ (x : List ℕ). length name ∷ x) (sym (append_assoc name (kind ∷ (bytes_of 8 first ++ bytes_of 8 second)) (0 ∷ [])))

  kind_here : get_or body (length name) 0 ≡ kind
  unfolding body
  kind_here = get_or-append_seam name kind (bytes_of 8 first ++ bytes_of 8 second) 0

  pub first_here : first < 2 ^ 64 → number_at 8 body (length name + 1) ≡ first
  unfolding body number_at
  first_here h =
      ap (λ (x : List ℕ). after 0 (take 8 x)) (drop-append-add name (kind ∷ (bytes_of 8 first ++ bytes_of 8 second)) 1)
      ∙ ap (after 0) (take_at (bytes_of 8 first) (bytes_of 8 second) 8 (bytes_length 8 first))
      ∙ sym (ap (after 0) (take_all 8 (bytes_of 8 first) (omega (arith, bytes_length 8 first))))
      ∙ bytes_number 8 first h

  pub second_here : second < 2 ^ 64 → number_at 8 body (length name + 9) ≡ second
  unfolding body number_at
  second_here h =
      ap (λ (x : List ℕ). after 0 (take 8 x)) (drop-append-add name (kind ∷ (bytes_of 8 first ++ bytes_of 8 second)) 9)
      ∙ ap (λ (x : List ℕ). after 0 (take 8 x)) (drop_at (bytes_of 8 first) (bytes_of 8 second) 8 (bytes_length 8 first))
      ∙ bytes_number 8 second h

  -- what is read of it
  abbrev pub new_fields : Fields
  new_fields =
      record { len = length name; kind = kind; first = number_at 8 body (length name + 1); second = number_at 8 body (length name + 9); tail = 1 }

  pub new_front : 1 ≤ length name → length name ≤ 40 → is_known (kind_of kind) ≡ true
      → front_of remark_layout (new_record name kind first second) ≡ front new_fields
  new_front a b k =
      ap (front_of remark_layout) record_is
      ∙ front_head remark_layout (length name) body (0 ∷ []) body_length
      ∙ rw (ne_eqb (length name) 0 (λ z. omega arith), le-ltb 40 (length name) b, kind_here, k)
