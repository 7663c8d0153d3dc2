-- The calls of a program are well formed.
use Rattle.std.proofs.Common.{◌≡◌, ℕ, ◌+◌, ◌-◌, ◌≤◌, Bool, true, false, List, [], ◌∷◌, ◌++◌, length, Option, Some, None, refl, sym, ap, subst, ◌∙◌, arith, ◌&&◌, nat_le, bytes_eq, if◌then◌else◌, codes}
use Rattle.std.specs.Prelude.{◌*◌, ◌/◌, IfSome, option_map}
use Rattle.std.proofs.lemmas.Bool.{and_parts}
use Rattle.std.proofs.lemmas.Bool.Decides.{nat_tests}
use Rattle.com_msg.specs.declared.rest.Kind.TheVariants as kind
use Rattle.com_msg.specs.declared.sending.Advance.{Advance}
use Rattle.com_msg.specs.declared.sending.Advance.TheVariants.{Before, After, BeforePage, AfterPage}
use Rattle.com_msg.specs.declared.sending.Part.{Part}
use Rattle.com_msg.specs.declared.sending.Part.TheVariants as part
use Rattle.com_msg.specs.Rendering.{IsAdvance}
use Rattle.com_text.specs.Text.{IsText}
use Rattle.com_cd.specs.InputArea.{IsInputArea}
use Rattle.com_cd.specs.OutputArea.{IsOutputArea, occurrences_of}
use Rattle.com_events.specs.Calls.{IsItem, IsKey, IsPart, IsWellFormed}
use Rattle.com_events.specs.declared.call.Call.TheVariants as call
use Rattle.com_events.specs.declared.reply.Reply.{Reply}
use Rattle.com_events.specs.declared.reply.Reply.TheVariants.{Started, Given, NoData, Refused, Waits, AreaIn, AreaOut, Arrived, Done}
use Rattle.cob_forms.specs.declared.written.Name.{Name}
use Rattle.cob_forms.specs.declared.written.Position.{Position}
use Rattle.cob_proc.specs.declared.tree.Advancing.{Advancing}
use Rattle.cob_proc.specs.declared.tree.Ending.{Ending}
use Rattle.cob_proc.specs.declared.tree.Identifier.{Identifier}
use Rattle.cob_proc.specs.declared.tree.Indicator.{Indicator}
use Rattle.cob_proc.specs.declared.tree.Indicator.TheVariants as indicator
use Rattle.cob_proc.specs.declared.tree.Key.{Key}
use Rattle.cob_proc.specs.declared.tree.Key.TheVariants as key
use Rattle.cob_proc.specs.declared.tree.Lines.{Lines}
use Rattle.cob_proc.specs.declared.tree.Lines.TheVariants as lines
use Rattle.cob_data.specs.declared.tree.ItemPlace.{ItemPlace}
use Rattle.cob_data.specs.Layout.{Referent, data_at, input_cd, output_cd}
use Rattle.cob_meaning.specs.Layouts.{◌>>=◌, Layout, area_of, cd_of, referent}
use Rattle.cob_meaning.specs.Moves.{addend_number, item_at}
use Rattle.cob_meaning.specs.Names.{data_faults_by, fault_unless, input_faults, input_faults_by, item_of_length, key_faults, output_faults, output_faults_by, subscripted_faults}
use Rattle.cob_meaning.specs.Sound.{IsFit, IsSound}
use Rattle.cob_meaning.specs.Storage.{Storage, area_in, held_by, with_area}
use Rattle.cob_meaning.specs.Verbs.{Request, with_reply, accept, advance_by, advance_of, indicated, key_characters, part_by, part_of, part_with, receive, send, sent_text, some_lines, switch_input, switch_output}
use Rattle.cob_meaning.proofs.Stored.{Found, IsStorage, bind_some, found_item, held_length, held_text, referent_is_sound, some_same, with_area_stored, with_prefix_stored}

-- an input area of the storage, and an output area
input_area : (opening : List (List ℕ)) (storage : Storage) (k : ℕ) → IsStorage opening storage → IsInputArea (area_in opening k) → IsInputArea (area_in storage k)
input_area opening storage k h is = record { length = (h k).1 ∙ is.length; text = (h k).0 }

output_area : (opening : List (List ℕ)) (storage : Storage) (k : ℕ) → IsStorage opening storage → IsOutputArea (area_in opening k) → IsOutputArea (area_in storage k)
output_area opening storage k h is =
    let same : occurrences_of (area_in storage k) ≡ occurrences_of (area_in opening k) = ap (λ n. (n - 10) / 13) (h k).1 in
    record {
      some = subst (λ n. 1 ≤ n) (sym same) is.some;
      few = subst (λ n. n ≤ 8) (sym same) is.few;
      whole = (h k).1 ∙ is.whole ∙ ap (λ n. 10 + 13 * n) (sym same);
      text = (h k).0;
    }

pub no_fault : {A : Type 0} (a : A) (others : List A) → a ∷ others ≡ [] → ⊥
no_fault a others e = absurd cc

pub both_empty : {A : Type 0} (xs ys : List A) → xs ++ ys ≡ [] → (xs ≡ []) × (ys ≡ [])
both_empty [] ys e = (refl, e)
both_empty (x ∷ xs) ys e = absurd (no_fault x (xs ++ ys) e)

pub holds_where_wanted : (b : Bool) (position : Position) (k : _) → fault_unless b position k ≡ [] → b ≡ true
holds_where_wanted true position k e = refl
holds_where_wanted false position k e = absurd (no_fault _ _ e)

-- the CD that a verb may name
record Reads (layout : Layout) (storage : Storage) (area : ℕ) : Type 0 where
  is : IsInputArea (area_in storage area)
  opens : IsInputArea (area_in layout.opening area)

record Writes (layout : Layout) (storage : Storage) (area : ℕ) : Type 0 where
  is : IsOutputArea (area_in storage area)
  opens : IsOutputArea (area_in layout.opening area)

-- a literal that is a key is a text
abbrev pub IsTextKey : Key → Type 0
IsTextKey (key.Literal literal) = IsText literal.characters
IsTextKey (key.Item identifier) = Unit {0}

module _ (layout : Layout) (sound : IsSound layout) (storage : Storage) (stored : IsStorage layout.opening storage) where
  reads : (cd : Name) (area : ℕ) → input_faults layout cd ≡ [] → cd_of layout cd ≡ Some area → Reads layout storage area
  reads cd area right e = by (bind_some (referent layout cd) area_of area e)
    where
      by_kind : (r : Referent) → referent layout cd ≡ Some r → area_of r ≡ Some area → Reads layout storage area
      by_kind (input_cd k) f g =
          let same = some_same k area g in
          let opening = subst (λ i. IsInputArea (area_in layout.opening i)) same (referent_is_sound layout sound cd (input_cd k) f) in
          record { is = input_area layout.opening storage area stored opening; opens = opening }
      by_kind (output_cd k occurrences) f g = absurd (no_fault _ _ (sym (ap (λ m. input_faults_by m cd.position) f) ∙ right))
      by_kind (data_at place occurs) f g = absurd cc

      by : ((r : Referent) × (referent layout cd ≡ Some r) × (area_of r ≡ Some area)) → Reads layout storage area
      by h = by_kind h.0 h.1 h.2

  writes : (cd : Name) (area : ℕ) → output_faults layout cd ≡ [] → cd_of layout cd ≡ Some area → Writes layout storage area
  writes cd area right e = by (bind_some (referent layout cd) area_of area e)
    where
      by_kind : (r : Referent) → referent layout cd ≡ Some r → area_of r ≡ Some area → Writes layout storage area
      by_kind (output_cd k occurrences) f g =
          let same = some_same k area g in
          let opening = subst (λ i. IsOutputArea (area_in layout.opening i)) same (referent_is_sound layout sound cd (output_cd k occurrences) f) in
          record { is = output_area layout.opening storage area stored opening; opens = opening }
      by_kind (input_cd k) f g = absurd (no_fault _ _ (sym (ap (λ m. output_faults_by m cd.position) f) ∙ right))
      by_kind (data_at place occurs) f g = absurd cc

      by : ((r : Referent) × (referent layout cd ≡ Some r) × (area_of r ≡ Some area)) → Writes layout storage area
      by h = by_kind h.0 h.1 h.2

  -- what an item that is sent holds
  sent_item : (identifier : Identifier) (item : ItemPlace) → item_at layout identifier storage ≡ Some item → IsItem (held_by item storage)
  sent_item identifier item e =
      let found = found_item layout sound identifier storage item e in
      let n = held_length layout.opening storage item stored found.placed in
      let p = found.placed in
      (held_text layout.opening storage item stored, omega (arith, n, p.some), omega (arith, n, p.few))

  -- a key of an item or a literal
  key_well : (password : Key) (characters : List ℕ) → IsTextKey password → key_faults layout password ≡ [] → key_characters layout password storage ≡ Some characters → IsKey characters
  key_well (key.Item identifier) characters text right e =
      let a = bind_some (item_at layout identifier storage) (λ item. Some (held_by item storage)) characters e in
      let found = found_item layout sound identifier storage a.0 a.1 in
      let faults = sym (ap (λ m. data_faults_by m identifier.name.position (λ item occurs. item_of_length 1 10 identifier.name.position item ++ subscripted_faults layout identifier.name.position occurs identifier.subscript)) found.stands_for) ∙ right in
      let fits = and_parts (nat_le 1 found.base.length) (nat_le found.base.length 10) (holds_where_wanted (nat_le 1 found.base.length && nat_le found.base.length 10) _ _ (both_empty _ _ faults).0) in
      let few : found.base.length ≤ 10 = grind (arith, nat_tests) in
      subst IsKey (some_same _ characters a.2)
      (held_text layout.opening storage a.0 stored, omega (arith, held_length layout.opening storage a.0 stored found.placed, found.size))
  key_well (key.Literal literal) characters text right e =
      let fits = and_parts (nat_le 1 (length literal.characters)) (nat_le (length literal.characters) 10) (holds_where_wanted (nat_le 1 (length literal.characters) && nat_le (length literal.characters) 10) _ _ right) in
      let few : length literal.characters ≤ 10 = grind (arith, nat_tests) in
      subst IsKey (some_same _ characters e) (text, few)

  lines_few : (n m : ℕ) → some_lines n ≡ Some m → m ≤ 99
  lines_few n m e = by (nat_le n 99) refl e
    where
      by : (b : Bool) → nat_le n 99 ≡ b → (if b then Some n else None) ≡ Some m → m ≤ 99
      by true f e = let same = some_same n m e in grind (arith, nat_tests)
      by false f e = absurd cc

  either_way : (after : Bool) (m : ℕ) → m ≤ 99 → IsAdvance (if after then After m else Before m)
  either_way true m h = h
  either_way false m h = h

  either_page : (after : Bool) → IsAdvance (if after then AfterPage else BeforePage)
  either_page true = tt
  either_page false = tt

  advance_well : (advancing : Option Advancing) (advance : Advance) → advance_of layout advancing storage ≡ Some advance → IsAdvance advance
  advance_well None advance e = subst IsAdvance (some_same _ advance e) (omega arith)
  advance_well (Some advancing) advance e = by advancing.lines e
    where
      by : (l : Lines) → advance_by layout advancing.after l storage ≡ Some advance → IsAdvance advance
      by (lines.Count counted) e =
          let a = bind_some (addend_number layout counted storage) (λ n. some_lines n >>= λ m. Some (if advancing.after then After m else Before m)) advance e in
          let b = bind_some (some_lines a.0) (λ m. Some (if advancing.after then After m else Before m)) advance a.2 in
          subst IsAdvance (some_same _ advance b.2) (either_way advancing.after b.0 (lines_few a.0 b.0 b.1))
      by lines.Page e = subst IsAdvance (some_same _ advance e) (either_page advancing.after)

  -- an end with an advance
  abbrev Ends : (Advance → Part) → Type 0
  Ends end = (advance : Advance) → IsAdvance advance → IsPart (end advance)

  ended : (end : Advance → Part) → Ends end → (advancing : Option Advancing) (p : Part) → part_by layout (Some end) advancing storage ≡ Some p → IsPart p
  ended end ends advancing p e = by (advance_of layout advancing storage) refl e
    where
      by : (o : Option Advance) → advance_of layout advancing storage ≡ o → option_map end o ≡ Some p → IsPart p
      by None f e = absurd cc
      by (Some advance) f e = subst IsPart (some_same _ p e) (ends advance (advance_well advancing advance f))

  by_character : (character : List ℕ) (advancing : Option Advancing) (p : Part) → part_by layout (indicated character) advancing storage ≡ Some p → IsPart p
  by_character character advancing p e = one (bytes_eq character (codes "1")) (bytes_eq character (codes "2")) (bytes_eq character (codes "3")) e
    where
      one : (a b c : Bool) → part_by layout (if a then Some part.Esi else (if b then Some part.Emi else (if c then Some part.Egi else None))) advancing storage ≡ Some p → IsPart p
      one true b c e = ended part.Esi (λ advance h. h) advancing p e
      one false true c e = ended part.Emi (λ advance h. h) advancing p e
      one false false true e = ended part.Egi (λ advance h. h) advancing p e
      one false false false e = subst IsPart (some_same _ p e) tt

  part_well : (ending : Option Ending) (p : Part) → part_of layout ending storage ≡ Some p → IsPart p
  part_well None p e = subst IsPart (some_same _ p e) tt
  part_well (Some ending) p e = by ending.indicator e
    where
      by : (i : Indicator) → part_with layout i ending.advancing storage ≡ Some p → IsPart p
      by (indicator.Item identifier) e =
          let a = bind_some (item_at layout identifier storage) (λ item. part_by layout (indicated (held_by item storage)) ending.advancing storage) p e in
          by_character (held_by a.0 storage) ending.advancing p a.2
      by indicator.Esi e = ended part.Esi (λ advance h. h) ending.advancing p e
      by indicator.Emi e = ended part.Emi (λ advance h. h) ending.advancing p e
      by indicator.Egi e = ended part.Egi (λ advance h. h) ending.advancing p e

  sent_well : (from : Option Identifier) (text : Option (List ℕ)) → sent_text layout from storage ≡ Some text → IfSome text IsItem
  sent_well None text e = subst (λ t. IfSome t IsItem) (some_same _ text e) tt
  sent_well (Some identifier) text e =
      let a = bind_some (item_at layout identifier storage) (λ item. Some (Some (held_by item storage))) text e in
      subst (λ t. IfSome t IsItem) (some_same _ text a.2) (sent_item identifier a.0 a.1)

  -- THE REQUESTS

  -- a well-formed call whose fitting replies leave the storage sound
  pub record IsSane (asked : Request) : Type 0 where
    pub well : IsWellFormed asked.call
    pub takes : (reply : Reply) → IsFit asked.call reply → IsStorage layout.opening (with_reply asked reply storage)

  keeps_input : (area : ℕ) (after : List ℕ) → Reads layout storage area → IsInputArea after → IsStorage layout.opening (with_area area after storage)
  keeps_input area after r is = with_area_stored layout.opening storage area after stored is.text (is.length ∙ sym r.opens.length)

  keeps_output : (area : ℕ) (after : List ℕ) → Writes layout storage area → IsOutputArea after → length after ≡ length (area_in storage area) → IsStorage layout.opening (with_area area after storage)
  keeps_output area after w is same = with_area_stored layout.opening storage area after stored is.text (same ∙ (stored area).1)

  pub receive_sane : (cd : Name) (segment : Bool) (into : Identifier) (no_data : Bool) (asked : Request) → input_faults layout cd ≡ []
      → receive layout cd segment into no_data storage ≡ Some asked → IsSane asked
  receive_sane cd segment into no_data asked right e = subst IsSane (some_same _ asked b.2) (record { well = (r.is, found.placed.some, found.placed.few); takes = takes })
    where
      request : ℕ → ItemPlace → Request
      request area item = record { call = call.Receive (area_in storage area) (if segment then kind.Segment else kind.Message) item.length no_data; area = area; into = Some item }

      a : (area : ℕ) × (cd_of layout cd ≡ Some area) × ((item_at layout into storage >>= λ item. Some (request area item)) ≡ Some asked)
      a = bind_some (cd_of layout cd) (λ area. item_at layout into storage >>= λ item. Some (request area item)) asked e

      b : (item : ItemPlace) × (item_at layout into storage ≡ Some item) × (Some (request a.0 item) ≡ Some asked)
      b = bind_some (item_at layout into storage) (λ item. Some (request a.0 item)) asked a.2

      r : Reads layout storage a.0
      r = reads cd a.0 right a.1

      found : Found layout into b.0
      found = found_item layout sound into storage b.0 b.1

      takes : (reply : Reply) → IsFit (request a.0 b.0).call reply → IsStorage layout.opening (with_reply (request a.0 b.0) reply storage)
      takes (Started names) fit = absurd fit
      takes (Given after text) fit = with_prefix_stored layout.opening (with_area a.0 after storage) b.0 text (keeps_input a.0 after r fit.0) found.placed fit.1 fit.2
      takes (NoData after) fit = keeps_input a.0 after r fit
      takes (Refused after) fit = keeps_input a.0 after r fit
      takes Waits fit = absurd fit
      takes (AreaIn after) fit = absurd fit
      takes (AreaOut after) fit = absurd fit
      takes (Arrived number) fit = absurd fit
      takes Done fit = absurd fit

  pub accept_sane : (cd : Name) (asked : Request) → input_faults layout cd ≡ [] → accept layout cd storage ≡ Some asked → IsSane asked
  accept_sane cd asked right e = subst IsSane (some_same _ asked a.2) (record { well = r.is; takes = takes })
    where
      request : ℕ → Request
      request area = record { call = call.Count (area_in storage area); area = area; into = None }

      a : (area : ℕ) × (cd_of layout cd ≡ Some area) × (Some (request area) ≡ Some asked)
      a = bind_some (cd_of layout cd) (λ area. Some (request area)) asked e

      r : Reads layout storage a.0
      r = reads cd a.0 right a.1

      takes : (reply : Reply) → IsFit (request a.0).call reply → IsStorage layout.opening (with_reply (request a.0) reply storage)
      takes (Started names) fit = absurd fit
      takes (Given after text) fit = absurd fit
      takes (NoData after) fit = absurd fit
      takes (Refused after) fit = absurd fit
      takes Waits fit = absurd fit
      takes (AreaIn after) fit = keeps_input a.0 after r fit
      takes (AreaOut after) fit = absurd fit
      takes (Arrived number) fit = absurd fit
      takes Done fit = absurd fit

  pub switch_input_sane : (on terminal : Bool) (cd : Name) (password : Key) (asked : Request) → input_faults layout cd ≡ [] → IsTextKey password → key_faults layout password ≡ []
      → switch_input layout on terminal cd password storage ≡ Some asked → IsSane asked
  switch_input_sane on terminal cd password asked right text fits e = subst IsSane (some_same _ asked b.2) (record { well = (r.is, key_well password b.0 text fits b.1); takes = takes })
    where
      request : ℕ → List ℕ → Request
      request area characters = record { call = call.SwitchInput on terminal (area_in storage area) characters; area = area; into = None }

      a : (area : ℕ) × (cd_of layout cd ≡ Some area) × ((key_characters layout password storage >>= λ characters. Some (request area characters)) ≡ Some asked)
      a = bind_some (cd_of layout cd) (λ area. key_characters layout password storage >>= λ characters. Some (request area characters)) asked e

      b : (characters : List ℕ) × (key_characters layout password storage ≡ Some characters) × (Some (request a.0 characters) ≡ Some asked)
      b = bind_some (key_characters layout password storage) (λ characters. Some (request a.0 characters)) asked a.2

      r : Reads layout storage a.0
      r = reads cd a.0 right a.1

      takes : (reply : Reply) → IsFit (request a.0 b.0).call reply → IsStorage layout.opening (with_reply (request a.0 b.0) reply storage)
      takes (Started names) fit = absurd fit
      takes (Given after text) fit = absurd fit
      takes (NoData after) fit = absurd fit
      takes (Refused after) fit = absurd fit
      takes Waits fit = absurd fit
      takes (AreaIn after) fit = keeps_input a.0 after r fit
      takes (AreaOut after) fit = absurd fit
      takes (Arrived number) fit = absurd fit
      takes Done fit = absurd fit

  pub switch_output_sane : (on : Bool) (cd : Name) (password : Key) (asked : Request) → output_faults layout cd ≡ [] → IsTextKey password → key_faults layout password ≡ []
      → switch_output layout on cd password storage ≡ Some asked → IsSane asked
  switch_output_sane on cd password asked right text fits e = subst IsSane (some_same _ asked b.2) (record { well = (w.is, key_well password b.0 text fits b.1); takes = takes })
    where
      request : ℕ → List ℕ → Request
      request area characters = record { call = call.SwitchOutput on (area_in storage area) characters; area = area; into = None }

      a : (area : ℕ) × (cd_of layout cd ≡ Some area) × ((key_characters layout password storage >>= λ characters. Some (request area characters)) ≡ Some asked)
      a = bind_some (cd_of layout cd) (λ area. key_characters layout password storage >>= λ characters. Some (request area characters)) asked e

      b : (characters : List ℕ) × (key_characters layout password storage ≡ Some characters) × (Some (request a.0 characters) ≡ Some asked)
      b = bind_some (key_characters layout password storage) (λ characters. Some (request a.0 characters)) asked a.2

      w : Writes layout storage a.0
      w = writes cd a.0 right a.1

      takes : (reply : Reply) → IsFit (request a.0 b.0).call reply → IsStorage layout.opening (with_reply (request a.0 b.0) reply storage)
      takes (Started names) fit = absurd fit
      takes (Given after text) fit = absurd fit
      takes (NoData after) fit = absurd fit
      takes (Refused after) fit = absurd fit
      takes Waits fit = absurd fit
      takes (AreaIn after) fit = absurd fit
      takes (AreaOut after) fit = keeps_output a.0 after w fit.0 fit.1
      takes (Arrived number) fit = absurd fit
      takes Done fit = absurd fit

  pub send_sane : (cd : Name) (from : Option Identifier) (ending : Option Ending) (asked : Request) → output_faults layout cd ≡ []
      → send layout cd from ending storage ≡ Some asked → IsSane asked
  send_sane cd from ending asked right e = subst IsSane (some_same _ asked c.2) (record { well = (w.is, part_well ending c.0 c.1, sent_well from b.0 b.1); takes = takes })
    where
      request : ℕ → Option (List ℕ) → Part → Request
      request area text p = record { call = call.Send (area_in storage area) p text; area = area; into = None }

      a : (area : ℕ) × (cd_of layout cd ≡ Some area) × ((sent_text layout from storage >>= λ text. part_of layout ending storage >>= λ p. Some (request area text p)) ≡ Some asked)
      a = bind_some (cd_of layout cd) (λ area. sent_text layout from storage >>= λ text. part_of layout ending storage >>= λ p. Some (request area text p)) asked e

      b : (text : Option (List ℕ)) × (sent_text layout from storage ≡ Some text) × ((part_of layout ending storage >>= λ p. Some (request a.0 text p)) ≡ Some asked)
      b = bind_some (sent_text layout from storage) (λ text. part_of layout ending storage >>= λ p. Some (request a.0 text p)) asked a.2

      c : (p : Part) × (part_of layout ending storage ≡ Some p) × (Some (request a.0 b.0 p) ≡ Some asked)
      c = bind_some (part_of layout ending storage) (λ p. Some (request a.0 b.0 p)) asked b.2

      w : Writes layout storage a.0
      w = writes cd a.0 right a.1

      takes : (reply : Reply) → IsFit (request a.0 b.0 c.0).call reply → IsStorage layout.opening (with_reply (request a.0 b.0 c.0) reply storage)
      takes (Started names) fit = absurd fit
      takes (Given after text) fit = absurd fit
      takes (NoData after) fit = absurd fit
      takes (Refused after) fit = absurd fit
      takes Waits fit = absurd fit
      takes (AreaIn after) fit = absurd fit
      takes (AreaOut after) fit = keeps_output a.0 after w fit.0 fit.1
      takes (Arrived number) fit = absurd fit
      takes Done fit = absurd fit
