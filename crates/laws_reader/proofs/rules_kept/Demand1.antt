-- Demand 1, the tablet's half: the three statements of the demands, in one place.
-- Assumes nothing.
pub use Rattle.laws_reader.proofs.rules_kept.Pieces.{splits}
pub use Rattle.laws_reader.proofs.rules_kept.Requests.{asking_always}
pub use Rattle.laws_reader.proofs.rules_kept.Calls.{fair_always}
