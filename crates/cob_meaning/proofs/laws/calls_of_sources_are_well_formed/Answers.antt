use Rattle.cob_meaning.specs.Meaning.{unit_limits}
use Rattle.cob_meaning.proofs.CheckedText.{checked}
use Rattle.cob_meaning.proofs.SoundLayouts.{sound}
use Rattle.cob_meaning.proofs.WellFormedRuns.{calls_well}
use Rattle.cob_meaning.proofs.laws.calls_of_sources_are_well_formed.Goals as goal

pub returns : goal.returns
returns c = λ source program names replies is are fit. calls_well unit_limits program names replies (sound source program is) (checked source program is) is.no_fault.names are fit
