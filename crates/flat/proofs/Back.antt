-- A flat answer keeps what is held.
use mathlib.Core.Option.{Option, none, some}
use Rattle.std.specs.Prelude as rust
use Rattle.std.specs.Prelude.{Some, None}
use mathlib.Core.Path.{◌≡◌, refl, ◌∙◌}
use Prim.Native.Nat.{ℕ}
use lib.IntN.{ℤ}
use Rattle.kind.specs.Kind.{kind_of}
use Rattle.air.specs.declared.Logs.{Logs}
use Rattle.air.specs.declared.Edges.{Edges}
use Rattle.air.specs.declared.Edges.TheVariants.{Unfitted, One, Two}
use Rattle.air.specs.declared.Ends.{Ends}
use Rattle.air.specs.Held.{Held, held}
use Rattle.state.specs.State.{IsAnswer}
use Rattle.state.proofs.Shapes.{Shapes, allowed_has}
use Rattle.flat.specs.Flat.{low_value, high_value, flat}
use Rattle.flat.specs.Back.{held_in, FlatKeepsAll}

-- ---- what the bits of a flat answer tell, of anything held
abbrev settle : Option ℤ → Edges → rust.Option Ends → rust.Option Ends
settle none e s = None
settle (some v) Unfitted s = None
settle (some v) (One e) s = None
settle (some v) (Two e f) s = Some (record { low = low_value s; high = high_value s })

-- the ends are told by the edges and the value
abbrev pub settled : Held → Held
settled h = record { number = h.number; letter = h.letter; logs = h.logs; edges = h.edges; ends = settle h.value h.edges h.ends; value = h.value }

module _ (n c : ℕ) where
  abbrev holding : Option Logs → Edges → rust.Option Ends → Option ℤ → Held
  holding l e s v = record { number = n; letter = c; logs = l; edges = e; ends = s; value = v }

  -- the bits of each case compute
  no_logs : (e : Edges) (s : rust.Option Ends) (v : Option ℤ) → held_in (flat (holding none e s v)) ≡ settled (holding none e s v)
  unfolding flat
  no_logs Unfitted s none = refl
  no_logs Unfitted s (some v) = refl
  no_logs (One e) s none = refl
  no_logs (One e) s (some v) = refl
  no_logs (Two e f) s none = refl
  no_logs (Two e f) s (some v) = refl

  abbrev told : rust.Option ℤ → Logs → Option Logs
  told x l = some (record { x = x; y = l.y; z = l.z })

  logs : (x : rust.Option ℤ) (l : Logs) (e : Edges) (s : rust.Option Ends) (v : Option ℤ) → held_in (flat (holding (told x l) e s v)) ≡ settled (holding (told x l) e s v)
  unfolding flat
  logs (Some x) l Unfitted s none = refl
  logs None l Unfitted s none = refl
  logs (Some x) l Unfitted s (some v) = refl
  logs None l Unfitted s (some v) = refl
  logs (Some x) l (One e) s none = refl
  logs None l (One e) s none = refl
  logs (Some x) l (One e) s (some v) = refl
  logs None l (One e) s (some v) = refl
  logs (Some x) l (Two e f) s none = refl
  logs None l (Two e f) s none = refl
  logs (Some x) l (Two e f) s (some v) = refl
  logs None l (Two e f) s (some v) = refl

  all : (l : Option Logs) (e : Edges) (s : rust.Option Ends) (v : Option ℤ) → held_in (flat (holding l e s v)) ≡ settled (holding l e s v)
  all none e s v = no_logs e s v
  all (some l) e s v = logs l.x l e s v

pub back : (h : Held) → held_in (flat h) ≡ settled h
back h = all h.number h.letter h.logs h.edges h.ends h.value

-- ---- an allowed answer has ends exactly where these tell them
settles : Shapes (λ h. settled h ≡ h)
settles = record { refused = λ r. refl; judged = λ r. refl; unfitted = refl; one = refl; two = refl }

pub flat_keeps_all : FlatKeepsAll
unfolding IsAnswer
flat_keeps_all kind first second a x = back (held a) ∙ allowed_has settles (kind_of kind) first second (held a) x
