-- Verbs of flat code that make the requests of statements.
use Rattle.std.proofs.Common.{◌≡◌, ℕ, Bool, List, Option, Some, None, refl, sym, ap, ◌∙◌}
use Rattle.std.specs.Prelude.{option_map}
use Rattle.com_msg.specs.declared.sending.Advance.{Advance}
use Rattle.com_msg.specs.declared.sending.Part.{Part}
use Rattle.com_msg.specs.declared.sending.Part.TheVariants as part
use Rattle.com_events.specs.declared.call.Call.TheVariants as call
use Rattle.cob_forms.specs.declared.written.Name.{Name}
use Rattle.cob_data.specs.declared.tree.ItemPlace.{ItemPlace}
use Rattle.cob_proc.specs.declared.tree.Advancing.{Advancing}
use Rattle.cob_proc.specs.declared.tree.Ending.{Ending}
use Rattle.cob_proc.specs.declared.tree.Identifier.{Identifier}
use Rattle.cob_proc.specs.declared.tree.Indicator.TheVariants as indicator
use Rattle.cob_proc.specs.declared.tree.Key.{Key}
use Rattle.cob_meaning.specs.Layouts.{Layout, ◌>>=◌, cd_of}
use Rattle.cob_meaning.specs.Storage.{Storage, area_in, held_by}
use Rattle.cob_meaning.specs.Moves.{item_at}
use Rattle.cob_meaning.specs.Verbs.{Request, accept, advance_of, indicated, key_characters, part_by, part_of, part_with, receive, send, sent_text, switch_input, switch_output}
use Rattle.cob_flat.specs.declared.code.Verb.TheVariants as verb
use Rattle.cob_flat.specs.declared.operands.Advancement.{Advancement}
use Rattle.cob_flat.specs.declared.operands.EndSource.{EndSource}
use Rattle.cob_flat.specs.declared.operands.EndSource.TheVariants as end
use Rattle.cob_flat.specs.declared.operands.KeySource.{KeySource}
use Rattle.cob_flat.specs.declared.operands.SendEnd.{SendEnd}
use Rattle.cob_flat.specs.declared.operands.Spot.{Spot}
use Rattle.cob_flat.specs.Effects.{advance_with, ended_by, ends_by, item_by, key_by, request_by, text_by}
use Rattle.cob_flat.specs.inner.Operands.{IsAdvancementOf, IsEndOf, IsIndicatorOf, IsKeyOf, IsSpotOf, IsTextOf, IsVerbFor}

module _ (layout : Layout) where
  ends_by_so : (o : Option (Advance → Part)) (advancing : Option Advancing) (advancement : Option Advancement) (storage : Storage) → advance_with advancement storage ≡ advance_of layout advancing storage
      → ends_by o advancement storage ≡ part_by layout o advancing storage
  ends_by_so None advancing advancement storage e = refl
  ends_by_so (Some ended) advancing advancement storage e = ap (option_map ended) e

  -- the end of a SEND that an item indicates
  pub indicates_so : (identifier : Identifier) (spot : Spot) → IsSpotOf layout identifier spot → IsIndicatorOf layout (indicator.Item identifier) (end.Item spot)
  indicates_so identifier spot e advancing advancement a storage =
      ap (λ o. o >>= (λ item. ends_by (indicated (held_by item storage)) advancement storage)) (e storage) ∙ by (item_at layout identifier storage)
    where
      by : (o : Option ItemPlace) → o >>= (λ item. ends_by (indicated (held_by item storage)) advancement storage) ≡ o >>= (λ item. part_by layout (indicated (held_by item storage)) advancing storage)
      by None = refl
      by (Some item) = ends_by_so (indicated (held_by item storage)) advancing advancement storage (a storage)

  pub named_so : IsIndicatorOf layout indicator.Esi end.Esi × IsIndicatorOf layout indicator.Emi end.Emi × IsIndicatorOf layout indicator.Egi end.Egi
  named_so = (
    λ advancing advancement a storage. ends_by_so (Some part.Esi) advancing advancement storage (a storage),
    λ advancing advancement a storage. ends_by_so (Some part.Emi) advancing advancement storage (a storage),
    λ advancing advancement a storage. ends_by_so (Some part.Egi) advancing advancement storage (a storage),
  )

  pub ends_so : (ending : Ending) (e : SendEnd) → IsIndicatorOf layout ending.indicator e.end → IsAdvancementOf layout ending.advancing e.advancement → IsEndOf layout (Some ending) (Some e)
  ends_so ending e i a storage = i ending.advancing e.advancement a storage
