-- The opening and the end: what the passes know of the whole history.
use Rattle.std.proofs.Common.{◌≡◌, ℕ, ◌+◌, ◌<◌, ◌≤◌, ◌==◌, Bool, true, false, List, [], ◌∷◌, ◌++◌, length, map, drop, Option, Some, None, get_or, refl, ap, sym, ◌∙◌, subst, arith, inl, inr}
use Rattle.std.specs.Prelude.{slice_get}
use Rattle.std.specs.List.{All, AllByRecursion, filter, zip}
use Rattle.std.proofs.lemmas.List.{map-append}
use Rattle.std.proofs.lemmas.Option.{same_Some, slice_get_within, get_or_from_slice_get}
use Rattle.com_turn.specs.Passes.{TurnId, PassState, IsReady, AreReady, AreNew, new_pass, mine}
use Rattle.com_turn.specs.Passes as turns
use Rattle.com_turn.specs.Histories.{IsPrefixOf, items_of}
use Rattle.com_net.specs.declared.net.Net.{Net}
use Rattle.com_net.specs.Network.{IsNet}
use Rattle.com_events.specs.declared.entry.Entry.{Entry}
use Rattle.com_events.specs.Calls.{HasText}
use Rattle.com_recv.proofs.Handing.{there_is}
use Rattle.com_state.specs.State.{State, opening}
use Rattle.com_state.specs.Histories.{LeadsTo}
use Rattle.com_state.specs.Parties.{entries_of}
use Rattle.com_state.specs.Wholeness.{Whole, InOrder}
use Rattle.com_state.proofs.Whole.{every_history}
use Rattle.com_shared.specs.Parties.{parties, party_at, Item, entries, AreNumbered}
use Rattle.com_shared.specs.Passes.{Log, IsKept, Place, PassOf, seen, own, IsPass, IsNew, MayClose, MayAllClose, IsIn, IsWholeHistory}
use Rattle.com_shared.proofs.Numbered.{entries_by_number}

pub entries_zip : (os : List ℕ) (es : List Entry) → length os ≡ length es → entries (zip os es) ≡ es
entries_zip [] [] h = refl
entries_zip [] (e ∷ es) h = absurd (omega (arith, h))
entries_zip (o ∷ os) [] h = absurd (omega (arith, h))
entries_zip (o ∷ os) (e ∷ es) h = ap (λ xs. e ∷ xs) (entries_zip os es (omega (arith, h)))

-- a network has parties
pub some_party : (net : Net) → IsNet net → 0 < parties net
some_party net is = let s = is.some_unit in omega (arith, s)

-- the passes are ready for the turn's own end
pub all_ready : (place : Place) (turn : TurnId) (passes : List PassOf) → turn ≡ place.turn → length passes ≡ parties place.net → MayAllClose place passes → AreReady turn passes
all_ready place turn passes same many may i pass at =
    let m = may i pass at in
    record {
      turn_is = m.ours.turn ∙ sym same;
      number_is = m.number_is;
      parties_are = m.ours.knows.parties_are ∙ sym many;
      idle = m.ours.free;
      inactive = m.inactive;
    }

module _ (place : Place) (b : Log) where
  abbrev pub IsLeft : PassOf → Type 0
  IsLeft pass = turns.IsKept (λ (l : Log). l.items) (λ (l : Log). l.net) (λ (x : Item). x.0) b pass

  left_at : (passes : List PassOf) (k : ℕ) (pass : PassOf) → All IsLeft passes → slice_get passes k ≡ Some pass → IsLeft pass
  left_at passes k pass all at = subst IsLeft (get_or_from_slice_get passes k pass pass at) (all k pass (slice_get_within passes k pass at))

  same_net : (pass : PassOf) → IsPass place pass → IsLeft pass → b.net ≡ place.net
  same_net pass is left = same_Some b.net place.net (sym left.base ∙ is.knows.base)

  is_in : (pass : PassOf) → IsKept b → IsPass place pass → IsLeft pass → IsIn place.net (entries b.items) pass
  is_in pass kept is left =
      let net = same_net pass is left in
      record {
        front = (entries left.seen.0, ap entries left.seen.1 ∙ map-append (λ (x : Item). x.1) pass.seen left.seen.0);
        own_are = ap entries (sym left.own)
            ∙ (ap (λ (o : List Item). entries (filter (λ (x : Item). x.0 == pass.number) (drop (length o) b.items))) is.knows.opened
            ∙ entries_by_number place.net pass.number b.items (subst IsNet net kept.sound) is.knows.number (subst (λ (m : Net). AreNumbered m b.items) net kept.numbered));
      }

  pub closed : (passes : List PassOf) (S : State) (es : List Entry) → 0 < length passes → MayAllClose place passes → All IsLeft passes → IsKept b → S ≡ b.state → es ≡ entries b.items → IsWholeHistory place.net es S
  closed passes S es some may all kept s e =
      let first = there_is passes 0 some in
      let net = same_net first.0 (may 0 first.0 first.1).ours (left_at passes 0 first.0 all first.1) in
      let leads : LeadsTo (opening place.net) es S = rw (s, e) (subst (λ (m : Net). LeadsTo (opening m) (entries b.items) b.state) net kept.leads) in
      let both = every_history place.net es (S, leads) in
      record {
        leads = leads;
        texts = subst (λ (xs : List Entry). AllByRecursion HasText xs) (sym e) kept.texts;
        whole = both.0;
        in_order = both.1;
      }

  pub all_in : (passes : List PassOf) (es : List Entry) → MayAllClose place passes → All IsLeft passes → IsKept b → es ≡ entries b.items → (k : ℕ) (pass : PassOf) → slice_get passes k ≡ Some pass → IsIn place.net es pass
  all_in passes es may all kept e k pass at = subst (λ (xs : List Entry). IsIn place.net xs pass) (sym e) (is_in pass kept (may k pass at).ours (left_at passes k pass all at))

-- the passes of a system that was just opened
pub is_new : (place : Place) (log : List Item) (base net : Net) (passes : List PassOf) (k : ℕ) (pass : PassOf) → place.net ≡ net → base ≡ net → log ≡ [] → AreNew place.turn (parties net) base log passes → slice_get passes k ≡ Some pass → IsNew place k pass
is_new place log base net passes k pass same is none new at =
    let few : k < parties net = subst (λ (n : ℕ). k < n) new.many (slice_get_within passes k pass at) in
    let it : pass ≡ new_pass place.turn (parties net) base log k = same_Some pass _ (sym at ∙ new.each k few) in
    let plain : pass ≡ new_pass place.turn (parties place.net) place.net [] k = it ∙ rw (is, none, same) refl in
    let few_here : k < parties place.net = subst (λ (m : Net). k < parties m) (sym same) few in
    subst (λ (p : PassOf). IsNew place k p) (sym plain) record {
      ours = record {
        turn = refl;
        free = refl;
        knows = record { base = refl; opened = refl; parties_are = refl; number = few_here; legal = (opening place.net, refl); own_are = refl };
      };
      number_is = refl;
      nothing = refl;
      inactive = refl;
    }
