-- What C gets of a text that is put into lent room.
use mathlib.Core.List.{List}
use mathlib.Core.Path.{◌≡◌, refl, sym, ap, ◌∙◌, subst}
use Prim.Native.Nat.{ℕ}
use lib.ListN.{length, take, drop}
use lib.Seq.{take_at}
use Rattle.octets.specs.Room.{Text, refused, text, written, outcome_of}
use Rattle.flat_parts.specs.declared.CText.{CText}
use Rattle.flat_parts.specs.Flat.{flat_text}

-- the bytes that are told of are the text
pub told_text : (t room last : List ℕ) (c : CText) → c ≡ flat_text (outcome_of (text t)) → last ≡ written (text t) room → take c.length last ≡ t
unfolding flat_text
told_text t room last c e l =
    let n : c.length ≡ length t = ap (λ (y : CText). y.length) e in
    ap (take c.length) l ∙ take_at t (drop (length t) room) c.length (sym n)

-- where no 0 is a refusal, and C is told of none, what holds of the text holds of the bytes
pub in_room : {P : List ℕ → Type 0} (x : Text) → (x ≡ refused 0 → ⊥) → ((t : List ℕ) → x ≡ text t → P t)
    → (room last : List ℕ) (c : CText) → c ≡ flat_text (outcome_of x) → last ≡ written x room → c.number ≡ 0 → P (take c.length last)
unfolding flat_text
in_room (refused k) never each room last c e l z = absurd (never (ap refused (sym (ap (λ (y : CText). y.number) e) ∙ z)))
in_room {P} (text t) never each room last c e l z = subst P (sym (told_text t room last c e l)) (each t refl)
