-- Tests that answer one question, and so another that has the same answer.
use Rattle.std.proofs.Common.{◌≡◌, Bool, true, false, not, ◌&&◌, ◌||◌, ◌⊎◌, T, sym, refl, ap, subst, inl, inr}
use Rattle.std.specs.Bool.{Decides}
use Rattle.plane.specs.Reflects.{Reflects}

pub reflects_same : {P Q : Type 0} (r : Bool) → (P → Q) → (Q → P) → Reflects r P → Reflects r Q
reflects_same true f g h = f h
reflects_same false f g h = λ q. h (g q)

-- a test that passed, and one that failed
pub reflects_yes : {P : Type 0} (r : Bool) → r ≡ true → P → Reflects r P
reflects_yes true e p = p
reflects_yes false e p = absurd (subst T (sym e) tt)

pub reflects_no : {P : Type 0} (r : Bool) → r ≡ false → (P → ⊥) → Reflects r P
reflects_no true e n = absurd (subst T e tt)
reflects_no false e n = n

-- the library's word for a test that answers a question
pub decides_reflects : (P : Type 0) (r : Bool) → Decides r P → Reflects r P
decides_reflects P true d = d.0 refl
decides_reflects P false d = λ p. absurd (subst T (sym (d.1 p)) tt)

-- ---- tests of parts

pub and_reflects : (P Q : Type 0) (a b : Bool) → Reflects a P → Reflects b Q → Reflects (a && b) (P × Q)
and_reflects P Q true true p q = (p, q)
and_reflects P Q true false p q = λ h. q h.1
and_reflects P Q false b p q = λ h. p h.0

pub or_reflects : (P Q : Type 0) (a b : Bool) → Reflects a P → Reflects b Q → Reflects (a || b) (P ⊎ Q)
or_reflects P Q true b p q = inl p
or_reflects P Q false true p q = inr q
or_reflects P Q false false p q = λ h. elim h [ inl x ↦ p x | inr y ↦ q y ]

-- where the first test fails, the second decides
pub or_rest : (a b : Bool) → a ≡ false → (a || b) ≡ b
or_rest a b e = ap (λ (c : Bool). c || b) e

pub not_reflects : (P : Type 0) (a : Bool) → Reflects a P → Reflects (not a) (P → ⊥)
not_reflects P true p = λ n. n p
not_reflects P false p = p

-- what a `!=` tells, by the test that it turns
pub negated : (P : Type 0) (r k : Bool) → r ≡ not k → Reflects k P → Reflects r (P → ⊥)
negated P r k e h = subst (λ (b : Bool). Reflects b (P → ⊥)) (sym e) (not_reflects P k h)

pub not_negated : (P : Type 0) (k : Bool) → false ≡ not k → Reflects k P → P
not_negated P true e p = p
not_negated P false e n = absurd (subst T (sym e) tt)

-- two tests of one fact have one answer
pub one_answer : (P : Type 0) (a b : Bool) → Reflects a P → Reflects b P → a ≡ b
one_answer P true true p q = refl
one_answer P true false p q = absurd (q p)
one_answer P false true p q = absurd (p q)
one_answer P false false p q = refl
