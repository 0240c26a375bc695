-- Each relation is its function's contract.
use mathlib.Core.Path.{refl, ap}
use Rattle.copy_bytes.specs.SavedFiles.{loaded_by}
use Rattle.rules_records.specs.RecordContracts.{OpenSays, CompleteSays, RequestSays, SaveSays, LoadSays, BeginSays, FeedSays, FeedPiecesSays, FeedInPlaceSays}
use Rattle.rules_records.specs.RecordContracts.{BeginInPlaceSays}

pub open_says : OpenSays
open_says κs a r s p = p

pub complete_says : CompleteSays
complete_says κs a r s p = p

pub request-says : RequestSays
request-says κs a r s p = p

pub save_says : SaveSays
save_says κs a r s p = p

pub load_says : LoadSays
load_says κs a r s p = λ c. ap (loaded_by c) p

pub begin_says : BeginSays
begin_says κs a r s p = p

pub feed-says : FeedSays
feed-says κs a r s p = p

pub feed_pieces_says : FeedPiecesSays
feed_pieces_says κs a r s p = p

pub feed-in_place-says : FeedInPlaceSays
feed-in_place-says M 𝓤 𝓛 mem run κs a r s = refl

pub begin_in_place-says : BeginInPlaceSays
begin_in_place-says M 𝓤 𝓛 mem run κs a r s = refl
