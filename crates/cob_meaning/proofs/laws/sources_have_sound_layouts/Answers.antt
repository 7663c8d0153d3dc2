use Rattle.cob_meaning.proofs.SoundLayouts.{sound}
use Rattle.cob_meaning.proofs.laws.sources_have_sound_layouts.Goals as goal

pub returns : goal.returns
returns c = sound
