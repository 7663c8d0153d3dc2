-- What a program needs so that each of its calls is well formed, and which replies fit the calls.
use Rattle.std.specs.Prelude.{◌≡◌, ℕ, ◌+◌, ◌-◌, ◌*◌, ◌≤◌, List, [], ◌∷◌, length, Option, Some, None, IfSome}
use Rattle.std.specs.List.{AllByRecursion}
use Rattle.com_text.specs.declared.decimal.TheConstants.{MAX_DIGITS}
use Rattle.com_text.specs.Text.{IsText}
use Rattle.com_msg.specs.declared.sending.TheConstants.{MAX_ITEM_LENGTH}
use Rattle.com_cd.specs.InputArea.{IsInputArea}
use Rattle.com_cd.specs.OutputArea.{IsOutputArea}
use Rattle.com_events.specs.Calls.{IsWellFormed}
use Rattle.com_events.specs.declared.call.Call.{Call}
use Rattle.com_events.specs.declared.call.Call.TheVariants.{Receive, Count, Send, SwitchInput, SwitchOutput}
use Rattle.com_events.specs.declared.reply.Reply.{Reply}
use Rattle.com_events.specs.declared.reply.Reply.TheVariants.{Given, NoData, Refused, AreaIn, AreaOut}
use Rattle.cob_data.specs.declared.tree.ItemPlace.{ItemPlace}
use Rattle.cob_data.specs.declared.tree.ItemSort.TheVariants.{Numeric}
use Rattle.cob_data.specs.Layout.{Referent, data_at, input_cd, output_cd}
use Rattle.cob_meaning.specs.Layouts.{Layout, step}
use Rattle.cob_meaning.specs.Meaning.{Ending, Stopped, Wants, Meaning}
use Rattle.cob_meaning.specs.Storage.{area_in}

-- THE LAYOUT

-- how many characters there are from the begin of an item to the end of its last occurrence
abbrev pub extent : ℕ → Option ℕ → ℕ
extent size None = size
extent size (Some occurs) = size + step * (occurs - 1)

-- an item of 1 to 2,000 characters, a numeric one of at most 18, with all of its occurrences in its
-- area
pub record IsItemIn (opening : List (List ℕ)) (item : ItemPlace) (occurs : Option ℕ) : Type 0 where
  pub some : 1 ≤ item.length
  pub few : item.length ≤ MAX_ITEM_LENGTH
  pub few_digits : item.sort ≡ Numeric → item.length ≤ MAX_DIGITS
  pub within : item.start + extent item.length occurs ≤ length (area_in opening item.area)

-- what a name stands for is in these areas
abbrev pub IsReferentIn : List (List ℕ) → Referent → Type 0
IsReferentIn opening (data_at item occurs) = IsItemIn opening item occurs
IsReferentIn opening (input_cd area) = IsInputArea (area_in opening area)
IsReferentIn opening (output_cd area occurrences) = IsOutputArea (area_in opening area)

-- what the names of a program stand for is in its areas, which are texts
pub record IsSound (layout : Layout) : Type 0 where
  pub names : AllByRecursion (λ entry. IsReferentIn layout.opening entry.1) layout.names
  pub texts : AllByRecursion IsText layout.opening
  pub initial : IfSome layout.initial (λ area. 48 ≤ length (area_in layout.opening area))

-- THE CALLS

-- a reply that fits a call: an area as long as the call's, and a text of no more characters than
-- were asked for
abbrev pub IsFit : Call → Reply → Type 0
IsFit (Receive area kind size no_data) (Given after text) =
    IsInputArea after × IsText text × (length text ≤ size)
IsFit (Receive area kind size no_data) (NoData after) = IsInputArea after
IsFit (Receive area kind size no_data) (Refused after) = IsInputArea after
IsFit (Count area) (AreaIn after) = IsInputArea after
IsFit (Send area part item) (AreaOut after) = IsOutputArea after × (length after ≡ length area)
IsFit (SwitchInput on terminal area key) (AreaIn after) = IsInputArea after
IsFit (SwitchOutput on area key) (AreaOut after) = IsOutputArea after × (length after ≡ length area)
IsFit _ _ = ⊥

-- each reply fits its call
abbrev pub AreFit : List Call → List Reply → Type 0
AreFit [] replies = Unit {0}
AreFit (call ∷ calls) [] = ⊥
AreFit (call ∷ calls) (reply ∷ replies) = IsFit call reply × AreFit calls replies

-- the call that wants a reply, if there is one
abbrev pub IsWantWellFormed : Ending → Type 0
IsWantWellFormed (Stopped reason) = Unit {0}
IsWantWellFormed (Wants call) = IsWellFormed call

-- the calls that were answered, and the call that wants a reply
pub record AreWellFormed (meaning : Meaning) : Type 0 where
  pub answered : AllByRecursion IsWellFormed meaning.calls
  pub wanted : IsWantWellFormed meaning.ending
