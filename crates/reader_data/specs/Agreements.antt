-- How far two lists of bytes agree.
use Rattle.std.specs.Prelude.{ℕ, ◌≤◌, ◌<◌, ◌≡◌, List, length, get_or, take}

-- so many bytes at the front of two lists agree
pub record FrontAgrees (a b : List ℕ) (k : ℕ) : Type 0 where
  pub left : k ≤ length a
  pub right : k ≤ length b
  pub alike : take k a ≡ take k b

-- so many bytes at the front of two lists agree, and no more
pub record Agrees (a b : List ℕ) (k : ℕ) : Type 0 where
  pub left : k ≤ length a
  pub right : k ≤ length b
  pub alike : take k a ≡ take k b
  pub differ : k < length a → k < length b → get_or a k 0 ≡ get_or b k 0 → ⊥
