-- The relations that the list of calls is made of are the functions' contracts, as the compiler reads them from the sources: of a function on records by value,
-- what a caller learns from a call (`Post`, of the arguments a, the result r and the parameters at exit s); of one on records in place, its `ensures` as an
-- assertion.
use Rattle.std.specs.Prelude.{◌≡◌, length}
use seplogic.Ra.Ura.{Ura}
use base.Logic.{SProp}
use contract.Lifetimes.{Lfts}
use contract.Monad.{Fun, fact}
use prog.Memory.{Memory}
use prog.Routine.{Routine}
use types.Logic.{Logic}
use borrow.Fn.Kinds.{Dens, res_t, ended_of}
use denote.Triple.Clauses.{AtExit}
use denote.Triple.Entry.{Args, Res}
use Rattle.rules_server.specs.RefusalNumbers.{numbered}
use Rattle.rules_tablet.specs.declared.Copy.{Copy}
use Rattle.copy.proofs.open.Kinds as open-kinds
use Rattle.copy.proofs.open.Reads as open-reads
use Rattle.copy.proofs.complete.Kinds as complete-kinds
use Rattle.copy.proofs.complete.Reads as complete-reads
use Rattle.copy.specs.States.{Opening}
use Rattle.copy_request.proofs.request.Kinds as request-kinds
use Rattle.copy_request.proofs.request.Reads as request-reads
use Rattle.copy_bytes.proofs.saving.save.Kinds as save-kinds
use Rattle.copy_bytes.proofs.saving.save.Reads as save-reads
use Rattle.copy_bytes.proofs.loading.load.Kinds as load-kinds
use Rattle.copy_bytes.proofs.loading.load.Reads as load-reads
use Rattle.copy_bytes.specs.SavedFiles.{loaded_by, load_call}
use Rattle.reader.proofs.fresh.begin.Kinds as begin-kinds
use Rattle.reader.proofs.fresh.begin.Reads as begin-reads
use Rattle.reader.proofs.feed.Kinds as feed-kinds
use Rattle.reader.proofs.feed.Reads as feed-reads
use Rattle.reader.proofs.pieces.feed_pieces.Kinds as pieces-kinds
use Rattle.reader.proofs.pieces.feed_pieces.Reads as pieces-reads
use Rattle.reader.specs.Begun.{Begun}
use Rattle.reader.specs.Calls.{FedIs}
use Rattle.reader_in_place.specs.contracts.feed as in_place
use Rattle.reader_in_place.specs.contracts.begin.begin as begin-in-place
use Rattle.rules_records.specs.Demand3Records.{requests, completes, saves, feeds, CopyCallMeets, CallMeets, in_place_call}

abbrev pub OpenSays : Type 0
OpenSays = (κs : Lfts 2) (a : Dens κs open-kinds.ps) (r : (res_t open-kinds.r κs).Denot) (s : AtExit (ended_of 2 open-kinds.ps open-kinds.r) κs)
    → open-reads.Post κs a r s → Opening a.0.now a.1.0 (length a.1.1.0.now) (numbered r)

abbrev pub CompleteSays : Type 0
CompleteSays = (κs : Lfts 0) (a : Dens κs complete-kinds.ps) (r : (res_t complete-kinds.r κs).Denot)
    (s : AtExit (ended_of 0 complete-kinds.ps complete-kinds.r) κs) → complete-reads.Post κs a r s → CopyCallMeets a.0 (completes (numbered r))

abbrev pub RequestSays : Type 0
RequestSays = (κs : Lfts 1) (a : Dens κs request-kinds.ps) (r : (res_t request-kinds.r κs).Denot)
    (s : AtExit (ended_of 1 request-kinds.ps request-kinds.r) κs) → request-reads.Post κs a r s
    → CopyCallMeets a.0 (requests a.1.0.now (numbered r) s.1.0.now)

abbrev pub SaveSays : Type 0
SaveSays = (κs : Lfts 1) (a : Dens κs save-kinds.ps) (r : (res_t save-kinds.r κs).Denot) (s : AtExit (ended_of 1 save-kinds.ps save-kinds.r) κs)
    → save-reads.Post κs a r s → CopyCallMeets a.0 (saves a.1.0.now (numbered r) s.1.0.now)

-- of each copy that a caller holds
abbrev pub LoadSays : Type 0
LoadSays = (κs : Lfts 1) (a : Dens κs load-kinds.ps) (r : (res_t load-kinds.r κs).Denot) (s : AtExit (ended_of 1 load-kinds.ps load-kinds.r) κs)
    → load-reads.Post κs a r s → (c : Copy) → loaded_by c (numbered r) ≡ load_call c a.0.now

abbrev pub BeginSays : Type 0
BeginSays = (κs : Lfts 0) (a : Dens κs begin-kinds.ps) (r : (res_t begin-kinds.r κs).Denot)
    (s : AtExit (ended_of 0 begin-kinds.ps begin-kinds.r) κs) → begin-reads.Post κs a r s → Begun r

abbrev pub FeedSays : Type 0
FeedSays = (κs : Lfts 2) (a : Dens κs feed-kinds.ps) (r : (res_t feed-kinds.r κs).Denot) (s : AtExit (ended_of 2 feed-kinds.ps feed-kinds.r) κs)
    → feed-reads.Post κs a r s
    → CallMeets (feeds a.1.1.1.0.now r s.1.1.0.now) (record { copy = a.0; buffer = a.1.1.0.now; reader = a.1.0 })

-- the pieces that feed_pieces cuts the bytes into are as if they were one
abbrev pub FeedPiecesSays : Type 0
FeedPiecesSays = (κs : Lfts 2) (a : Dens κs pieces-kinds.ps) (r : (res_t pieces-kinds.r κs).Denot) (s : AtExit (ended_of 2 pieces-kinds.ps pieces-kinds.r) κs)
    → pieces-reads.Post κs a r s
    → CallMeets (feeds a.1.1.1.1.1.0.now r s.1.1.0.now) (record { copy = a.0; buffer = a.1.1.0.now; reader = a.1.0 })

abbrev pub FeedInPlaceSays : Type 2
FeedInPlaceSays = (M : Type 1) (𝓤 : Ura M) (𝓛 : Logic 𝓤) (mem : Memory → SProp 𝓤) (run : Routine → Fun 𝓤)
    (κs : Lfts 4) (a : Args in_place.signature κs) (r : Res in_place.signature κs) (s : AtExit in_place.ended κs)
    → (in_place.clauses 𝓛 mem run κs a).ensures tt r s
    ≡ fact 𝓤 (FedIs a.0.now a.1.0.now a.1.1.0.now a.1.1.1.0.now (in_place_call s.0.now s.1.0.now r) s.1.1.0.now)

abbrev pub BeginInPlaceSays : Type 2
BeginInPlaceSays = (M : Type 1) (𝓤 : Ura M) (𝓛 : Logic 𝓤) (mem : Memory → SProp 𝓤) (run : Routine → Fun 𝓤)
    (κs : Lfts 1) (a : Args begin-in-place.signature κs) (r : Res begin-in-place.signature κs) (s : AtExit begin-in-place.ended κs)
    → (begin-in-place.clauses 𝓛 mem run κs a).ensures tt r s ≡ fact 𝓤 (Begun s.0.now)
