-- An answer and a room that tell what became of a text.
-- Assumes nothing.
use mathlib.Core.Bool.{Bool, cond}
use mathlib.Core.List.{List}
use mathlib.Core.Path.{◌≡◌, sym, ap, ◌∙◌}
use Prim.Native.Nat.{ℕ, ◌≤◌, ◌<◌}
use borrow.Author.Tests.{le-leb, lt-leb}
use lib.ListN.{length}
use Rattle.octets.specs.Room.{Text, refused, text, fitting, written, outcome_of}
use Rattle.std.specs.Prelude.{Result, Ok, Err}

-- a text in room that is long enough, or not
pub fits : (room : ℕ) (t : List ℕ) → length t ≤ room → fitting room t ≡ text t
fits room t h = ap (λ (b : Bool). cond b (text t) (refused 14)) (le-leb (length t) room h)

pub short : (room : ℕ) (t : List ℕ) → room < length t → fitting room t ≡ refused 14
short room t h = ap (λ (b : Bool). cond b (text t) (refused 14)) (lt-leb (length t) room h)

-- r is the answer, `last` is the room afterwards
abbrev pub Tells : Text → Result ℕ ℕ → List ℕ → List ℕ → Type 0
Tells t r room last = (r ≡ outcome_of t) × (last ≡ written t room)

pub tells_refused : (t : Text) (k : ℕ) (room : List ℕ) → t ≡ refused k → Tells t (Err k) room room
tells_refused t k room e = (sym (ap outcome_of e), sym (ap (λ (x : Text). written x room) e))

pub tells_text : (t : Text) (x room last : List ℕ) (len : ℕ) → t ≡ text x → length x ≡ len → last ≡ written (text x) room → Tells t (Ok len) room last
tells_text t x room last len e l w = (ap Ok (sym l) ∙ sym (ap outcome_of e), w ∙ sym (ap (λ (y : Text). written y room) e))

pub tells_same : (t u : Text) (r : Result ℕ ℕ) (room last : List ℕ) → t ≡ u → Tells u r room last → Tells t r room last
tells_same t u r room last e h = (h.0 ∙ sym (ap outcome_of e), h.1 ∙ sym (ap (λ (x : Text). written x room) e))
