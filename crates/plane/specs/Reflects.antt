-- What a test answers, and statements that mean the same.
use Rattle.std.specs.Prelude.{Bool, true, false}

-- r is true exactly if P holds
abbrev pub Reflects : Bool → Type 0 → Type 0
Reflects true P = P
Reflects false P = P → ⊥

-- P and Q hold together or not at all
abbrev pub Iff : Type 0 → Type 0 → Type 0
Iff P Q = (P → Q) × (Q → P)
