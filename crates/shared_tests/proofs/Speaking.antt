-- What is known of two units that send.
use Rattle.std.proofs.Common.{◌<◌, ℕ, length}
use Rattle.com_shared.specs.Passes.{Place, PassOf, IsNew, MayClose}
use Rattle.shared_tests.specs.Playing.{Sleeps}
use Rattle.shared_tests.proofs.Playing.{goes_on}
use Rattle.shared_tests.proofs.Beginning.{new_fresh, fresh_sleeps}

pub new_sleeps : (place : Place) (k : ℕ) (pass : PassOf) → IsNew place k pass → pass.number < length place.net.units → Sleeps place pass
new_sleeps place k pass new few = fresh_sleeps place pass (new_fresh place k pass new) few

pub new_closes : (place : Place) (k : ℕ) (pass : PassOf) → IsNew place k pass → MayClose place k pass
new_closes place k pass new = record { ours = new.ours; number_is = new.number_is; inactive = new.inactive }

pub ruleset speaking = (goes_on, new_sleeps, new_closes)
