-- What a derived `==` or `!=` tells of two values of an enum whose variants have no fields. Each takes the enum, the
-- `the_type` that the toolchain makes for it, and that its variants are bare, which `search rules` finds.
use Rattle.std.proofs.Common.{◌≡◌, Bool, true, false, not, sym, subst, rules}
use denote.Enum.Bare.{Bare, sameb, same_true}
use denote.Enum.Declared.{Declared}
use Rattle.plane.specs.Reflects.{Reflects}
use Rattle.plane.proofs.Answers.{decides_reflects, negated, not_negated}

same_itself : (E : Declared) (a : E.D) → sameb E a a ≡ true
same_itself E a = search rules

same_reflects : (E : Declared) → Bare E.parts → (a b : E.D) → Reflects (sameb E a b) (a ≡ b)
same_reflects E bare a b =
    decides_reflects (a ≡ b) (sameb E a b) (same_true E bare a b, λ p. subst (λ (x : E.D). sameb E a x ≡ true) p (same_itself E a))

pub eq_reflects : (E : Declared) → Bare E.parts → (r : Bool) (a b : E.D) → r ≡ sameb E a b → Reflects r (a ≡ b)
eq_reflects E bare r a b e = subst (λ (k : Bool). Reflects k (a ≡ b)) (sym e) (same_reflects E bare a b)

pub ne_reflects : (E : Declared) → Bare E.parts → (r : Bool) (a b : E.D) → r ≡ not (sameb E a b) → Reflects r (a ≡ b → ⊥)
ne_reflects E bare r a b e = negated (a ≡ b) r (sameb E a b) e (same_reflects E bare a b)

-- where `!=` said no
pub equal_unless_ne : (E : Declared) → Bare E.parts → (a b : E.D) → false ≡ not (sameb E a b) → a ≡ b
equal_unless_ne E bare a b e = not_negated (a ≡ b) (sameb E a b) e (same_reflects E bare a b)
