-- The segments of a message to a terminal, as the code keeps them.
use Rattle.std.specs.Prelude.{List, [], ◌∷◌}
use Rattle.std.specs.Arc.{arc_value}
use Rattle.com_msg.specs.declared.sending.OutSegment.{OutSegment}
use Rattle.com_msg.specs.declared.segments.Kept.{Kept}
use Rattle.com_msg.specs.declared.segments.Kept.TheVariants.{Own, Shared}

-- the segments that are kept so
abbrev pub segments_in : Kept → List OutSegment
segments_in (Own segments) = segments.items
segments_in (Shared segment) = arc_value segment ∷ []
