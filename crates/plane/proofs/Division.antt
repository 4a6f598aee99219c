-- A point of a segment divides it: parts k of d * e.
use Rattle.std.proofs.Common.{◌≡◌, ℕ, ℤ, pos, ◌-ℤ◌, ◌*ℤ◌, ◌≤ℤ◌, ◌<ℤ◌, sym, ap, ◌∙◌, inl, inr, arith}
use lib.IntN.{*ℤ_comm}
use Rattle.std.proofs.lemmas.Int.{ints, by_lt_z}
use Rattle.plane.specs.Points.{Segment, On, Between}
use Rattle.plane.proofs.Integers.{ring, lin, mul_nonneg, le_mul, one_mul}

pub record Part (s : Segment) (X Y : ℤ) (d : ℕ) : Type 0 where
  pub e : ℤ
  pub k : ℤ
  pub positive : pos 0 <ℤ e
  pub low : pos 0 ≤ℤ k
  pub high : k ≤ℤ (pos d *ℤ e)
  pub is_x : e *ℤ (X -ℤ pos d *ℤ s.p.x) ≡ k *ℤ (s.q.x -ℤ s.p.x)
  pub is_y : e *ℤ (Y -ℤ pos d *ℤ s.p.y) ≡ k *ℤ (s.q.y -ℤ s.p.y)

pub by_order : {P : Type 0} (a b : ℤ) → (a <ℤ b → P) → (b <ℤ a → P) → (a ≡ b → P) → P
by_order a b f g h = by_lt_z a b f (λ l. by_lt_z b a g (λ m. h (omega (arith, lin))))

pub part : (s : Segment) (X Y : ℤ) (d : ℕ) → On s X Y d → Part s X Y d
part s X Y d h =
    by_order s.p.x s.q.x
    (λ l. let m = le_mul (pos d) s.p.x s.q.x (omega (arith, ints)) (omega (arith, lin)) in record {
      e = s.q.x -ℤ s.p.x;
      k = X -ℤ pos d *ℤ s.p.x;
      positive = omega (arith, lin);
      low = omega (arith, lin, h.in_x);
      high = simp ring (omega (arith, lin, h.in_x, m));
      is_x = *ℤ_comm (s.q.x -ℤ s.p.x) (X -ℤ pos d *ℤ s.p.x);
      is_y = h.line ∙ *ℤ_comm (s.q.y -ℤ s.p.y) (X -ℤ pos d *ℤ s.p.x);
    })
    (λ l. let m = le_mul (pos d) s.q.x s.p.x (omega (arith, ints)) (omega (arith, lin)) in record {
      e = s.p.x -ℤ s.q.x;
      k = pos d *ℤ s.p.x -ℤ X;
      positive = omega (arith, lin);
      low = omega (arith, lin, h.in_x);
      high = simp ring (omega (arith, lin, h.in_x, m));
      is_x = other s.p.x s.q.x (pos d *ℤ s.p.x) X;
      is_y = across s.p.x s.q.x s.p.y s.q.y (pos d *ℤ s.p.x) (pos d *ℤ s.p.y) X Y h.line;
    })
    (λ c. by_order s.p.y s.q.y
    (λ l. let m = le_mul (pos d) s.p.y s.q.y (omega (arith, ints)) (omega (arith, lin)) in record {
      e = s.q.y -ℤ s.p.y;
      k = Y -ℤ pos d *ℤ s.p.y;
      positive = omega (arith, lin);
      low = omega (arith, lin, h.in_y);
      high = simp ring (omega (arith, lin, h.in_y, m));
      is_x = sym h.line ∙ *ℤ_comm (s.q.x -ℤ s.p.x) (Y -ℤ pos d *ℤ s.p.y);
      is_y = *ℤ_comm (s.q.y -ℤ s.p.y) (Y -ℤ pos d *ℤ s.p.y);
    })
    (λ l. let m = le_mul (pos d) s.q.y s.p.y (omega (arith, ints)) (omega (arith, lin)) in record {
      e = s.p.y -ℤ s.q.y;
      k = pos d *ℤ s.p.y -ℤ Y;
      positive = omega (arith, lin);
      low = omega (arith, lin, h.in_y);
      high = simp ring (omega (arith, lin, h.in_y, m));
      is_x = across s.p.y s.q.y s.p.x s.q.x (pos d *ℤ s.p.y) (pos d *ℤ s.p.x) Y X (sym h.line);
      is_y = other s.p.y s.q.y (pos d *ℤ s.p.y) Y;
    })
    (λ f. record {
      e = pos 1;
      k = pos 0;
      positive = omega (arith, ints);
      low = omega (arith, ints);
      high = omega (arith, ints);
      is_x = simp one_mul (none X (pos d) s.p.x s.q.x c h.in_x);
      is_y = simp one_mul (none Y (pos d) s.p.y s.q.y f h.in_y);
    }))
  where
    other : (p q a x : ℤ) → (p -ℤ q) *ℤ (x -ℤ a) ≡ (a -ℤ x) *ℤ (q -ℤ p)
    other p q a x = simp ring (omega (arith, lin))

    across : (px qx py qy a b X Y : ℤ) → (qx -ℤ px) *ℤ (Y -ℤ b) ≡ (qy -ℤ py) *ℤ (X -ℤ a) → (px -ℤ qx) *ℤ (Y -ℤ b) ≡ (a -ℤ X) *ℤ (qy -ℤ py)
    across px qx py qy a b X Y e = simp ring (omega (arith, lin, simp ring at e))

    none : (x d p q : ℤ) → p ≡ q → Between x (d *ℤ p) (d *ℤ q) → x -ℤ d *ℤ p ≡ pos 0 *ℤ (q -ℤ p)
    none x d p q e b = let z : pos 0 *ℤ (q -ℤ p) ≡ pos 0 = omega (arith, ints) in omega (arith, lin, z, b, ap (λ (z : ℤ). d *ℤ z) e)

-- the point at n parts of d, from the start
pub on_at : (s : Segment) (X Y : ℤ) (d : ℕ) (n : ℤ) → pos 0 ≤ℤ n → n ≤ℤ pos d → X -ℤ pos d *ℤ s.p.x ≡ n *ℤ (s.q.x -ℤ s.p.x) → Y -ℤ pos d *ℤ s.p.y ≡ n *ℤ (s.q.y -ℤ s.p.y) → On s X Y d
on_at s X Y d n a b e f =
    record { line = crossed (s.q.x -ℤ s.p.x) (s.q.y -ℤ s.p.y) n _ _ e f; in_x = amid s.p.x s.q.x X e; in_y = amid s.p.y s.q.y Y f }
  where
    crossed : (dx dy n u v : ℤ) → u ≡ n *ℤ dx → v ≡ n *ℤ dy → dx *ℤ v ≡ dy *ℤ u
    crossed dx dy n u v e f = omega (arith, lin, simp ring at (ap (λ (z : ℤ). dy *ℤ z) e), simp ring at (ap (λ (z : ℤ). dx *ℤ z) f))

    amid : (p q x : ℤ) → x -ℤ pos d *ℤ p ≡ n *ℤ (q -ℤ p) → Between x (pos d *ℤ p) (pos d *ℤ q)
    amid p q x e =
        by_lt_z q p
        (λ l. let u = mul_nonneg n (p -ℤ q) a (omega (arith, lin)) in
        let v = mul_nonneg (pos d -ℤ n) (p -ℤ q) (omega (arith, lin)) (omega (arith, lin)) in
        inr (simp ring (omega (arith, lin, simp ring at e, simp ring at u, simp ring at v))))
        (λ l. let u = mul_nonneg n (q -ℤ p) a (omega (arith, lin)) in
        let v = mul_nonneg (pos d -ℤ n) (q -ℤ p) (omega (arith, lin)) (omega (arith, lin)) in
        inl (simp ring (omega (arith, lin, simp ring at e, simp ring at u, simp ring at v))))
