-- Over any rule: what lawful choices make is allowed, and what is allowed meets the claim of demand 3.
use mathlib.Core.Bool.{Bool, true, false, cond, not}
use Rattle.std.specs.Prelude.{Option, Some, None}
use mathlib.Core.Path.{◌≡◌, refl, sym, ap, ap₂, subst, ◌∙◌}
use Prim.Native.Nat.{ℕ}
use lib.Dec.{T}
use lib.IntN.{ℤ}
use Rattle.fraction.specs.Fraction.{Fraction, Within}
use Rattle.weight.specs.Weight.{tolerance}
use Rattle.fit.specs.declared.Edge.{Edge}
use Rattle.fit.specs.Fit.{Piece, alone, joint, Weighs, fitted}
use Rattle.fit.specs.Edge.{weight_with, ServedAt}
use Rattle.fit.specs.Exact.{rounded, exact_fit}
use Rattle.bands.specs.declared.Strip.{Strip}
use Rattle.air.specs.declared.Logs.{Logs}
use Rattle.air.specs.declared.Edges.TheVariants.{Unfitted}
use Rattle.air.specs.Held.{Held, judges}
use Rattle.air.specs.Join.{any_place}
use Rattle.air.specs.Choices.{Choices, Lawful}
use Rattle.air.specs.Places.{Rule, Point, IsPoint, AtPlaces, edges_at, shows_at, held_at, IsFit, point_by, fitted_by, PointClaim, FitClaim}
use Rattle.air.specs.Property.{Property, refuses_logs, NoEdgeRefused, one, two, AcceptedBy}
use Rattle.air.proofs.Tests.{not_left, not_right, not_both, no_true, is_false}

-- ---- what holds at every place
pub each_place : (s : Option Strip) (P : ℤ → Type 0) → ((v : ℤ) → P v) → (y : ℤ) → AtPlaces s P y
each_place None P f y = f y
each_place (Some s) P f y = (f s.low, f s.high)

at_each : (s : Option Strip) (P Q : ℤ → Type 0) → ((v : ℤ) → P v → Q v) → (y : ℤ) → AtPlaces s P y → AtPlaces s Q y
at_each None P Q f y h = f y h
at_each (Some s) P Q f y h = (f s.low h.0, f s.high h.1)

none_at : (s : Option Strip) (t : ℤ → Bool) (y : ℤ) → T (not (any_place s t y)) → AtPlaces s (λ v. T (not (t v))) y
none_at None t y h = h
none_at (Some s) t y h = (not_left (t s.low) (t s.high) h, not_right (t s.low) (t s.high) h)

-- ---- what lawful choices make
-- where nothing refuses by the logarithms, a weight serves the rule's piece
abbrev pub ServesAt : Rule → ℤ → ℤ → Type 0
ServesAt r z v = T (not (r.beyond_logs v z)) → ServedAt (rounded (r.piece_at v z)) v z

module _ (c : Choices) (law : Lawful c) where
  weighed : (k : Piece) (y z : ℤ) → ServedAt k y z → Weighs tolerance k y z (weight_with c.weight k y z)
  weighed (alone a) y z h = refl
  weighed (joint a b t) y z h = law.weight t.sign _ h

  pub fitted_allowed : (r : Rule) (value : ℤ → ℤ) → ((g : ℤ) → T (not (r.beyond_fit g)) → r.IsValue g (value g))
      → (s : Option Strip) (l : Logs) → AtPlaces s (ServesAt r l.z) l.y → IsFit r s l (fitted_by c r value s l)
  fitted_allowed r value made s l serves =
      record {
        point = point_by c r value l.z;
        points =
            at_each s (ServesAt r l.z) (λ v. IsPoint r v l.z (point_by c r value l.z v))
            (λ v h. record { weighed = λ t. weighed (rounded (r.piece_at v l.z)) v l.z (h t); fit = refl; made = made _ }) l.y serves;
        is = refl;
      }

-- ---- what a program shows after its tests, at the places of any strip
module _ (r : Rule) (s : Option Strip) (l : Logs) (q : ℤ → Point) where
  verdict : Bool → Bool → Held
  verdict a b = cond a (judges r.logs_number r.letter l Unfitted) (cond b (judges r.fit_number r.letter l (edges_at s q l.y)) (shows_at r s l q))

  pub fit_refused : any_place s (λ v. r.beyond_logs v l.z) l.y ≡ false → any_place s (λ v. r.beyond_fit (q v).edge.fit) l.y ≡ true
      → judges r.fit_number r.letter l (edges_at s q l.y) ≡ held_at r s l q
  unfolding held_at verdict
  fit_refused e f = sym (ap₂ verdict e f)

  pub fit_shown : any_place s (λ v. r.beyond_logs v l.z) l.y ≡ false → any_place s (λ v. r.beyond_fit (q v).edge.fit) l.y ≡ false
      → shows_at r s l q ≡ held_at r s l q
  unfolding held_at verdict
  fit_shown e f = sym (ap₂ verdict e f)

-- outside a strip only the state's own place counts
pub own_place : (r : Rule) (l : Logs) {p : Point} (q : ℤ → Point) → p ≡ q l.y → held_at r None l (λ v. p) ≡ held_at r None l q
unfolding held_at
own_place r l q e = ap (λ (x : Point). held_at r None l (λ v. x)) e

-- ---- the claim
-- a property that refuses what its rule refuses, and nothing else
pub record Judges (k : Property) (r : Rule) (s : Option Strip) (l : Logs) : Type 0 where
  pub by_logs_lem : T (not (k.by_logs l)) → T (not (any_place s (λ v. r.beyond_logs v l.z) l.y))
  pub by_fit_lem : (e : Edge) → T (not (k.by_fit e)) → T (not (r.beyond_fit e.fit))
  pub logs_alone : T (not (any_place s (λ v. r.beyond_logs v l.z) l.y)) → T (not (k.by_logs l))
  pub fit_alone : (e : Edge) → T (not (r.beyond_fit e.fit)) → T (not (k.by_fit e))

-- a rule's distance over its boxes, and what is claimed of a value at that distance
pub record Measured (d n : ℕ) (r : Rule) (Claimed : Fraction → ℤ → ℤ → Type 0) (Box : ℤ → ℤ → Type 0) : Type 0 where
  pub near : (y z w : ℤ) → Box y z → T (not (r.beyond_logs y z)) → Weighs tolerance (rounded (r.piece_at y z)) y z w
      → Within d (fitted (rounded (r.piece_at y z)) y z w) (exact_fit (r.piece_at y z) n y z)
  pub claimed : (f : Fraction) (g v : ℤ) → Within d g f → r.IsValue g v → Claimed f g v

-- where a rule refuses nothing by the logarithms
pub no_place : (s : Option Strip) (y : ℤ) → T (not (any_place s (λ v. false) y))
no_place None y = tt
no_place (Some s) y = tt

-- an answer that shows a value, with what is claimed at every place
pub record Shown (d n : ℕ) (r : Rule) (Claimed : Fraction → ℤ → ℤ → Type 0) (s : Option Strip) (l : Logs) (h : Held) : Type 0 where
  pub point : ℤ → Point
  pub is : h ≡ shows_at r s l point
  pub points : AtPlaces s (λ v. PointClaim d n r Claimed v l.z (point v)) l.y

-- is claimed as demand 3 has it
pub shown_claim : {d n : ℕ} {r : Rule} {Claimed : Fraction → ℤ → ℤ → Type 0} {l : Logs} {h : Held} (s : Option Strip) → Shown d n r Claimed s l h → FitClaim d n r Claimed s l h
shown_claim {l = l} None c = record { point = c.point l.y; is = c.is; claim = c.points }
shown_claim (Some s) c = record { low = c.point s.low; high = c.point s.high; is = c.is; low_claim = c.points.0; high_claim = c.points.1 }

-- the edges of an accepted answer
judged : (k : Property) (r : Rule) → ((e : Edge) → T (not (k.by_fit e)) → T (not (r.beyond_fit e.fit)))
    → (s : Option Strip) (q : ℤ → Point) (y : ℤ) → NoEdgeRefused k (edges_at s q y) → T (not (any_place s (λ v. r.beyond_fit (q v).edge.fit) y))
judged k r f None q y (one t) = f (q y).edge t
judged k r f (Some s) q y (two t u) = not_both (r.beyond_fit (q s.low).edge.fit) (r.beyond_fit (q s.high).edge.fit) (f (q s.low).edge t) (f (q s.high).edge u)

module _ (d n : ℕ) (r : Rule) (Claimed : Fraction → ℤ → ℤ → Type 0) (Box : ℤ → ℤ → Type 0) (m : Measured d n r Claimed Box) where
  point_claim : (y z : ℤ) (q : Point) → Box y z → T (not (r.beyond_logs y z)) → IsPoint r y z q → T (not (r.beyond_fit q.edge.fit)) → PointClaim d n r Claimed y z q
  point_claim y z q b u p t =
      let f : Fraction = exact_fit (r.piece_at y z) n y z in
      let near : Within d q.edge.fit f = subst (λ (g : ℤ). Within d g f) (sym p.fit) (m.near y z q.edge.weight b u (p.weighed u)) in
      record { near = near; value = m.claimed f q.edge.fit q.value near (p.made t) }

  points_claim : (s : Option Strip) (y z : ℤ) (q : ℤ → Point) → AtPlaces s (λ v. Box v z) y → AtPlaces s (λ v. T (not (r.beyond_logs v z))) y → AtPlaces s (λ v. IsPoint r v z (q v)) y
      → AtPlaces s (λ v. T (not (r.beyond_fit (q v).edge.fit))) y → AtPlaces s (λ v. PointClaim d n r Claimed v z (q v)) y
  points_claim None y z q b u p t = point_claim y z (q y) b u p t
  points_claim (Some s) y z q b u p t = (point_claim s.low z (q s.low) b.0 u.0 p.0 t.0, point_claim s.high z (q s.high) b.1 u.1 p.1 t.1)

  pub fitted_shown : (k : Property) (s : Option Strip) (l : Logs) → Judges k r s l → AtPlaces s (λ v. Box v l.z) l.y
      → (v w : ℕ) (h : Held) → AcceptedBy k v w h → IsFit r s l h → Shown d n r Claimed s l h
  unfolding held_at
  fitted_shown k s l j box v w h ok it = go (any_place s (λ x. r.beyond_logs x l.z) l.y) (any_place s (λ x. r.beyond_fit (q x).edge.fit) l.y) refl refl it.is
    where
      q : ℤ → Point
      q = it.point

      go : (a b : Bool) → any_place s (λ x. r.beyond_logs x l.z) l.y ≡ a → any_place s (λ x. r.beyond_fit (q x).edge.fit) l.y ≡ b
          → h ≡ cond a (judges r.logs_number r.letter l Unfitted) (cond b (judges r.fit_number r.letter l (edges_at s q l.y)) (shows_at r s l q))
          → Shown d n r Claimed s l h
      go true b e₁ e₂ is = absurd (no_true e₁ (j.by_logs_lem (subst (λ (x : Held). T (not (refuses_logs k x.logs))) is ok.by_logs_lem)))
      go false true e₁ e₂ is = absurd (no_true e₂ (judged k r j.by_fit_lem s q l.y (subst (λ (x : Held). NoEdgeRefused k x.edges) is ok.by_fit_lem)))
      go false false e₁ e₂ is =
          record {
            point = q;
            is = is;
            points =
                points_claim s l.y l.z q box (none_at s (λ x. r.beyond_logs x l.z) l.y (is_false e₁)) it.points
                (none_at s (λ x. r.beyond_fit (q x).edge.fit) l.y (is_false e₂));
          }

-- ---- the other way: an answer of a fit that is no refusal is accepted
-- what acceptance asks beside the ranges
pub record Unrefused (k : Property) (h : Held) : Type 0 where
  pub by_logs_lem : T (not (refuses_logs k h.logs))
  pub by_fit_lem : NoEdgeRefused k h.edges

edges_pass : (k : Property) (r : Rule) → ((e : Edge) → T (not (r.beyond_fit e.fit)) → T (not (k.by_fit e)))
    → (s : Option Strip) (q : ℤ → Point) (y : ℤ) → T (not (any_place s (λ v. r.beyond_fit (q v).edge.fit) y)) → NoEdgeRefused k (edges_at s q y)
edges_pass k r f None q y t = one (f (q y).edge t)
edges_pass k r f (Some s) q y t =
    let low = (q s.low).edge in
    let high = (q s.high).edge in
    two (f low (not_left (r.beyond_fit low.fit) (r.beyond_fit high.fit) t)) (f high (not_right (r.beyond_fit low.fit) (r.beyond_fit high.fit) t))

pub fit_unrefused : (k : Property) (r : Rule) (s : Option Strip) (l : Logs) → Judges k r s l → (r.logs_number ≡ 0 → ⊥) → (r.fit_number ≡ 0 → ⊥)
    → (h : Held) → IsFit r s l h → h.number ≡ 0 → Unrefused k h
unfolding held_at
fit_unrefused k r s l j logs-number fit-number h it zero =
    go (any_place s (λ v. r.beyond_logs v l.z) l.y) (any_place s (λ v. r.beyond_fit (q v).edge.fit) l.y) refl refl it.is
  where
    q : ℤ → Point
    q = it.point

    go : (a b : Bool) → any_place s (λ v. r.beyond_logs v l.z) l.y ≡ a → any_place s (λ v. r.beyond_fit (q v).edge.fit) l.y ≡ b
        → h ≡ cond a (judges r.logs_number r.letter l Unfitted) (cond b (judges r.fit_number r.letter l (edges_at s q l.y)) (shows_at r s l q))
        → Unrefused k h
    go true b e₁ e₂ is = absurd (logs-number (sym (ap (λ (i : Held). i.number) is) ∙ zero))
    go false true e₁ e₂ is = absurd (fit-number (sym (ap (λ (i : Held). i.number) is) ∙ zero))
    go false false e₁ e₂ is =
        subst (Unrefused k) (sym is) (record { by_logs_lem = j.logs_alone (is_false e₁); by_fit_lem = edges_pass k r j.fit_alone s q l.y (is_false e₂) })
