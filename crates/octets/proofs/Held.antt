-- Back from an answer and the room to the text that they hold.
-- Assumes nothing.
use mathlib.Core.List.{List, ◌++◌}
use mathlib.Core.Path.{◌≡◌, sym, ap}
use Prim.Native.Nat.{ℕ, ◌≤◌}
use native.Mathlib.Omega.{arith}
use lib.ListN.{length, take, drop, length-append}
use lib.Seq.{take_at}
use Rattle.octets.specs.Room.{Text, refused, text, written, outcome_of}
use Rattle.std.specs.Prelude.{Ok, Err}

pub held_refused : (t : Text) (k : ℕ) → outcome_of t ≡ Err k → t ≡ refused k
held_refused (refused n) k e = let p : n ≡ k = cc in ap refused p
held_refused (text t) k e = let p : ◌≡◌ {A = ℕ} 0 1 = cc in let q : ⊥ = omega arith in absurd q

pub held_done : (t : Text) (n : ℕ) (room : List ℕ) → outcome_of t ≡ Ok n → t ≡ text (take n (written t room))
held_done (refused k) n room e = let p : ◌≡◌ {A = ℕ} 0 1 = cc in let q : ⊥ = omega arith in absurd q
held_done (text t) n room e = let p : length t ≡ n = cc in sym (ap text (take_at t (drop (length t) room) n p))

-- a text is no longer than the room at whose start it stands
pub prefix_inside : (t z : List ℕ) (n : ℕ) → length t ≡ n → n ≤ length (t ++ drop (length t) z)
prefix_inside t z n e = simp length-append (omega arith)
