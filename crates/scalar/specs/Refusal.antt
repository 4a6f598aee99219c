-- What a refused number gets: the refusal's number, and the value that it carries, if any.
use Rattle.std.specs.Prelude.{ℕ, Option}

pub record Refusal (A : Type 0) : Type 0 where
  pub number : ℕ
  pub value : Option A
