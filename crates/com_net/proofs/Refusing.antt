-- A refusal by one of two faults that are the same.
use Rattle.std.proofs.Common.{◌≡◌, ℕ, List, Option, ◌∙◌}
use Rattle.com_net.specs.declared.fault.NetKind.{NetKind}
use Rattle.com_net.specs.declared.fault.NetError.{NetError}
use Rattle.com_net.specs.declared.fault.NetError.TheVariants.{Refused, Memory}
use Rattle.com_net.specs.Description.{IsRefusalBy}

pub refused_by : (found other : Option (NetKind × List ℕ)) (error : NetError) → found ≡ other → IsRefusalBy other error → IsRefusalBy found error
refused_by found other (Refused fault) same told = same ∙ told
refused_by found other (Memory error) same told = tt
