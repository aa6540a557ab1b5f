-- A text behind a place of a room, and texts in turn from its start on.
-- Assumes nothing.
use mathlib.Core.Bool.{Bool, true, cond}
use mathlib.Core.List.{List, [], ◌++◌, append_assoc, append-nil}
use mathlib.Core.Path.{◌≡◌, refl, sym, ap, ap₂, ◌∙◌, subst}
use Prim.Native.Nat.{ℕ, ◌+◌, ◌-◌, ◌≤◌}
use native.Mathlib.Omega.{arith}
use borrow.Author.Tests.{le-leb}
use lib.Dec.{leb}
use lib.ListN.{length, take, drop, length-append, length-drop, take-append-drop}
use lib.Seq.{length-take-le, take_all, take_at, drop-drop, drop-append-add}
use Rattle.octets.specs.Room.{text, refused, fitting, written, put_at}
use Rattle.octets.proofs.Stores.{dropped}

-- a text that is put behind a place: the middle that is lent is the rest of the room
pub appended : (out t last : List ℕ) (at : ℕ)
    → at + length t ≤ length out
    → last ≡ written (fitting (length (take (length out - at) (drop at out))) t) (take (length out - at) (drop at out))
    → take at out ++ (last ++ drop (length out - at) (drop at out)) ≡ put_at out at t
appended out t last at h e =
    let k : ℕ = length out - at in
    let d : length (drop at out) ≡ k = length-drop at out in
    let m : take k (drop at out) ≡ drop at out = take_all k (drop at out) (omega arith) in
    let p : drop k (drop at out) ≡ [] = dropped k (drop at out) (omega arith) in
    let f : leb (length t) (length (drop at out)) ≡ true = le-leb (length t) (length (drop at out)) (omega arith) in
    let w : last ≡ t ++ drop (length t) (drop at out) =
    e
    ∙ ap (λ (x : List ℕ). written (fitting (length x) t) x) m
    ∙ ap (λ (b : Bool). written (cond b (text t) (refused 14)) (drop at out)) f in
    ap (λ (x : List ℕ). take at out ++ (last ++ x)) p
    ∙ ap (λ (x : List ℕ). take at out ++ x) (append-nil last ∙ w ∙ ap (λ (x : List ℕ). t ++ x) (drop-drop (length t) at out))

-- texts so far stand at the start of a room, and behind them is what it held
pub record Begun (room done : List ℕ) (at : ℕ) (out : List ℕ) : Type 0 where
  pub here : at ≡ length done
  pub holds : out ≡ done ++ drop at room

pub begun : (room : List ℕ) (at : ℕ) → at ≤ length room → Begun room (take at room) at room
begun room at h = record { here = sym (length-take-le at room h); holds = sym (take-append-drop at room) }

-- one text more
pub begun_more : (room done : List ℕ) (at : ℕ) (out t : List ℕ) (next : ℕ) (last : List ℕ)
    → Begun room done at out
    → next ≡ at + length t
    → last ≡ put_at out at t
    → Begun room (done ++ t) next last
begun_more room done at out t next last b n l =
    let front : take at out ≡ done = ap (take at) b.holds ∙ take_at done (drop at room) at (sym b.here) in
    let behind : drop (at + length t) out ≡ drop next room =
    ap (drop (at + length t)) b.holds
    ∙ subst (λ (k : ℕ). drop (k + length t) (done ++ drop at room) ≡ drop (length t) (drop at room)) (sym b.here) (drop-append-add done (drop at room) (length t))
    ∙ drop-drop (length t) at room
    ∙ ap (λ (k : ℕ). drop k room) (sym n) in
    record {
      here = omega (arith, b.here, length-append done t);
      holds = l ∙ ap₂ (λ (x y : List ℕ). x ++ (t ++ y)) front behind ∙ sym (append_assoc done t (drop next room));
    }

-- a room stays as long as it was
pub put_length : (room t : List ℕ) (at : ℕ) → at + length t ≤ length room → length (put_at room at t) ≡ length room
put_length room t at h =
    omega (arith, length-append (take at room) (t ++ drop (at + length t) room), length-append t (drop (at + length t) room), length-take-le at room (omega arith), length-drop (at + length t) room)

-- one text behind another
pub put_twice : (room a b : List ℕ) (at : ℕ) → at ≤ length room → put_at (put_at room at a) (at + length a) b ≡ put_at room at (a ++ b)
put_twice room a b at h =
    let one = begun_more room (take at room) at room a (at + length a) (put_at room at a) (begun room at h) refl refl in
    let two = begun_more room (take at room ++ a) (at + length a) (put_at room at a) b (at + length a + length b) (put_at (put_at room at a) (at + length a) b) one refl refl in
    let n : at + length a + length b ≡ at + length (a ++ b) = omega (arith, length-append a b) in
    two.holds
    ∙ ap₂ (λ (x : List ℕ) (i : ℕ). x ++ drop i room) (append_assoc (take at room) a b) n
    ∙ append_assoc (take at room) (a ++ b) (drop (at + length (a ++ b)) room)
