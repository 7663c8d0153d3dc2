-- Actions that do what statements do.
use Rattle.std.proofs.Common.{◌≡◌, ℕ, ◌+◌, ◌-◌, List, Option, Some, None, refl, sym, ap, ◌∙◌}
use Rattle.com_text.specs.Digits.{in_digits}
use Rattle.cob_data.specs.declared.tree.ItemPlace.{ItemPlace}
use Rattle.cob_proc.specs.declared.tree.Addend.{Addend}
use Rattle.cob_proc.specs.declared.tree.Identifier.{Identifier}
use Rattle.cob_proc.specs.declared.tree.Operand.{Operand}
use Rattle.cob_proc.specs.declared.tree.Subscript.{Subscript}
use Rattle.cob_proc.specs.declared.tree.Subscript.TheVariants as subscripts
use Rattle.cob_meaning.specs.Checked.{IsCheckedItem, IsSubscripted}
use Rattle.cob_meaning.specs.Layouts.{Layout, ◌>>=◌}
use Rattle.cob_meaning.specs.Storage.{Storage, number_held, with_prefix}
use Rattle.cob_meaning.specs.Moves.{Content, addend_number, combined, content_at, filled, item_at, move}
use Rattle.cob_flat.specs.declared.code.Action.TheVariants as action
use Rattle.cob_flat.specs.declared.operands.Amount.{Amount}
use Rattle.cob_flat.specs.declared.operands.Source.{Source}
use Rattle.cob_flat.specs.declared.operands.Spot.{Spot}
use Rattle.cob_flat.specs.Effects.{amount_by, combined_by, content_by, filled_by, item_by}
use Rattle.cob_flat.specs.inner.Operands.{AreEach, HasNumeral, IsActionFor, IsAmountOf, IsSourceOf, IsSpotOf}
use Rattle.cob_flat.proofs.Each.{filled_so}

numeral_in : (layout : Layout) (occurs : Option ℕ) (subscript : Option Subscript) → IsSubscripted layout occurs subscript → HasNumeral subscript
numeral_in layout None None h = tt
numeral_in layout None (Some s) h = absurd h
numeral_in layout (Some n) None h = absurd h
numeral_in layout (Some n) (Some (subscripts.Number position k)) h = h.0
numeral_in layout (Some n) (Some (subscripts.Item position name)) h = tt

-- a subscript of an identifier that was checked
pub has_numeral : (layout : Layout) (IsRight : ItemPlace → Type 0) (identifier : Identifier) → IsCheckedItem layout IsRight identifier → HasNumeral identifier.subscript
has_numeral layout IsRight identifier h = numeral_in layout h.occurs identifier.subscript h.subscripted

-- MOVE
pub moves_so : (layout : Layout) (operand : Operand) (targets : List Identifier) (source : Source) (spots : List Spot) → IsSourceOf layout operand source → AreEach (IsSpotOf layout) targets spots
    → IsActionFor (move layout operand targets) (action.Move source spots)
moves_so layout operand targets source spots e f storage =
    ap (λ o. o >>= (λ content. filled_by content spots storage)) (e storage) ∙ by (content_at layout operand storage)
  where
    by : (o : Option Content) → o >>= (λ content. filled_by content spots storage) ≡ o >>= (λ content. filled layout content targets storage)
    by None = refl
    by (Some content) = filled_so layout targets spots f content storage

-- ADD and SUBTRACT
pub combines_so : (join : ℕ → ℕ → ℕ) (layout : Layout) (addend : Addend) (target : Identifier) (amount : Amount) (spot : Spot) → IsAmountOf layout addend amount → IsSpotOf layout target spot
    → (storage : Storage) → combined_by join amount spot storage ≡ combined join layout addend target storage
combines_so join layout addend target amount spot e f storage =
    ap (λ o. o >>= (λ n. item_by spot storage >>= (λ item. number_held item storage >>= (λ m. Some (with_prefix item (in_digits (join m n) item.length) storage))))) (e storage)
    ∙ ap (λ o. addend_number layout addend storage >>= (λ n. o >>= (λ item. number_held item storage >>= (λ m. Some (with_prefix item (in_digits (join m n) item.length) storage))))) (f storage)
